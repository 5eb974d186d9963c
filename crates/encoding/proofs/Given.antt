-- What was given to slices, from how an answer was met.
-- Assumes nothing.
use Rattle.std.specs.Prelude.{Ok, Err}
use mathlib.Core.Path.{◌≡◌, refl}
use mathlib.Core.List.{List, [], ◌∷◌}
use Prim.Native.Nat.{ℕ, ◌≤◌}
use lib.ListN.{length, set}
use Rattle.words.specs.Parts.{put}
use Rattle.words.proofs.Parts.{set-put}
use Rattle.model.specs.Refusals.{number_of}
use Rattle.model.specs.declared.Refusal.{Refusal}
use Rattle.encoding.specs.Given.{Given, status_of, given_to}

-- one word at the front
pub one_word : (out : List ℕ) (v w : ℕ) → v ≡ w → 1 ≤ length out → set out 0 v ≡ put 0 (w ∷ []) out
one_word out v w e h = rw e (set-put out 0 w h)

module _ (document : List ℕ) (g : Given) where
  pub given : (vs document' : List ℕ) → g ≡ Ok vs → document' ≡ put 0 vs document → (0 ≡ status_of g) × (document' ≡ given_to document g)
  given vs document' q e = rw (q, e) (refl, refl)

  pub refused : (w : Refusal) (status : ℕ) → g ≡ Err w → status ≡ number_of w → (status ≡ status_of g) × (document ≡ given_to document g)
  refused w status q e = rw (q, e) (refl, refl)

  module _ (out : List ℕ) (k : Given) where
    pub given_both : (vs ws document' out' : List ℕ) → g ≡ Ok vs → k ≡ Ok ws → document' ≡ put 0 vs document → out' ≡ put 0 ws out
        → (0 ≡ status_of k) × ((document' ≡ given_to document g) × (out' ≡ given_to out k))
    given_both vs ws document' out' q p e f = rw (q, p, e, f) (refl, (refl, refl))

    pub refused-both : (w : Refusal) (status : ℕ) → g ≡ Err w → k ≡ Err w → status ≡ number_of w
        → (status ≡ status_of k) × ((document ≡ given_to document g) × (out ≡ given_to out k))
    refused-both w status q p e = rw (q, p, e) (refl, (refl, refl))
