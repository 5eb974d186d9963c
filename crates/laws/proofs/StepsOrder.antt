-- `document_order` and `compact` are the plain tree's.
-- Assumes nothing.
use Rattle.std.specs.Prelude.{Option, None, Some}
use mathlib.Core.Path.{◌≡◌, refl, sym, ap, ◌∙◌, subst}
use mathlib.Core.Logic.{inr}
use mathlib.Core.Bool.{Bool, true, false, cond}
use mathlib.Core.List.{List, [], ◌∷◌}
use Prim.Native.Nat.{ℕ, zero, suc, ◌≤◌, ◌<◌}
use native.Mathlib.Omega.{arith}
use borrow.Author.Tests.{ltb-false}
use lib.Dec.{ltb}
use lib.ListN.{length, get_or, take}
use lib.Seq.{get_or-take, length-take-le}
use Rattle.records.specs.Handles.{handle_index}
use Rattle.model.specs.Doc.{Doc, no_key, or_else}
use Rattle.model.specs.Edits.{renew_order}
use Rattle.model.specs.Calls.{step, key_of, keys, done, answers, document-order, compact}
use Rattle.model.specs.Tree.{Tree, key_in, set_current}
use Rattle.model.specs.Tree as tree
use Rattle.laws.specs.Claim.{KeysAgree}
use Rattle.laws.proofs.Wf.{WF}
use Rattle.laws.proofs.Sim.{Sim}
use Rattle.laws.proofs.Basics.{birth-below}
use Rattle.laws.proofs.WfEdits.{wf-current}
use Rattle.laws.proofs.Order.{sim-renewed}
use Rattle.laws.proofs.Compact.{sim-compacted}
use Rattle.laws.proofs.Matching.{Matches}
use Rattle.laws.proofs.Guards.{Plain}

get_or-default : (l : List ℕ) (i d e : ℕ) → i < length l → get_or l i d ≡ get_or l i e
get_or-default [] i d e h = absurd (omega arith)
get_or-default (x ∷ l) zero d e h = refl
get_or-default (x ∷ l) (suc i) d e h = get_or-default l i d e (omega arith)

-- a word that shows this key, or none
key-word : (w : ℕ) (k : Option ℕ) → w < 4294967296 → key_of w ≡ k → w ≡ or_else no_key k
key-word w k small e = go (ltb w no_key) refl e
  where
    go : (q : Bool) → ltb w no_key ≡ q → cond q (Some w) None ≡ k → w ≡ or_else no_key k
    go true f e = ap (or_else no_key) e
    go false f e = (let h = ltb-false w no_key f in omega arith) ∙ ap (or_else no_key) e

module _ {d : Doc} {t : Tree} {hs : ℕ → ℕ} (S : Sim d t hs) where
  -- a current order's words are the tree's keys
  words-agree : d.current ≡ true → KeysAgree hs d t (take (length d.gens) d.order)
  words-agree c =
      record {
        slots = length-take-le (length d.gens) d.order fits;
        live = λ b lb. (
            let lt = birth-below d t hs S b lb in
            let i : ℕ = handle_index (hs b) in
            get_or-take (length d.gens) d.order i 0 lt
            ∙ get_or-default d.order i 0 no_key (omega arith)
            ∙ key-word (get_or d.order i no_key) (key_in t b) (small i (omega arith)) (S.order c b lb));
        free = λ i lt l. (
            let g : i < length d.gens = subst (λ (n : ℕ). i < n) (length-take-le (length d.gens) d.order fits) lt in
            get_or-take (length d.gens) d.order i 0 g ∙ S.order_free c i g l);
      }
    where
      fits : length d.gens ≤ length d.order
      fits = omega (arith, S.within.slots, S.shape.order)

      small : (i : ℕ) → i < length d.order → get_or d.order i no_key < 4294967296
      small i lt = subst (λ (w : ℕ). w < 4294967296) (get_or-default d.order i 0 no_key lt) (S.order_fits i)

  -- a tree whose order is current already
  current-same : d.current ≡ true → set_current t ≡ t
  unfolding set_current
  current-same c =
      let p : true ≡ t.current = sym c ∙ S.current in
      λ i. record { births = t.births; live = t.live; kind = t.kind; parent = t.parent; lists = t.lists; current = p i }

  still-current : d.current ≡ true → Sim d (set_current t) hs
  still-current c = subst (λ (u : Tree). Sim d u hs) (sym (current-same c)) S

renewed-current : (d : Doc) → (renew_order d).current ≡ true
unfolding renew_order
renewed-current d = refl

module _ (d : Doc) (t : Tree) (hs : ℕ → ℕ) (S : Sim d t hs) (W : WF t) where
  pub step-document-order : Matches hs document-order d (step document-order d) (tree.step document-order hs t)
  step-document-order = go d.current refl
    where
      after : (q : Bool) → Doc
      after q = cond q d (renew_order d)

      told : (q : Bool) → Sim (after q) (set_current t) hs → (after q).current ≡ true
          → Matches hs document-order d (answers (after q) (keys (take (length (after q).gens) (after q).order))) (tree.answers (set_current t) done)
      told q S₁ c = inr (S₁, wf-current W, (take (length (after q).gens) (after q).order, refl, words-agree S₁ c))

      go : (q : Bool) → d.current ≡ q
          → Matches hs document-order d (answers (after q) (keys (take (length (after q).gens) (after q).order))) (tree.answers (set_current t) done)
      go true e = told true (still-current S e) e
      go false e = told false (sim-renewed S W) (renewed-current d)

  pub step-compact : Plain hs d (step compact d) (tree.step compact hs t)
  step-compact = inr (sim-compacted S W, wf-current W, refl)
