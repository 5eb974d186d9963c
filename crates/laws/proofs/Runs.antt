-- From one call to every list of calls.
-- Assumes nothing.
use mathlib.Core.Path.{◌≡◌, refl, sym, ◌∙◌, subst}
use mathlib.Core.Logic.{inl, inr}
use mathlib.Core.Bool.{Bool, true, false, cond, true≢false}
use mathlib.Core.List.{List, [], ◌∷◌}
use Prim.Native.Nat.{ℕ, ◌<◌}
use Rattle.model.specs.Doc.{Doc}
use Rattle.model.specs.Calls.{Call, Answered, is_refusal, refused, done, made, truth, node, listed, every_node, kind_is, name_is, key, keys}
use Rattle.model.specs.Calls as calls
use Rattle.model.specs.Tree.{Tree}
use Rattle.model.specs.Tree as tree
use Rattle.laws.specs.Claim.{Agrees, Claim, Explains, Tells, no_step, tree_after, handle_told}
use Rattle.laws.proofs.Wf.{WF}
use Rattle.laws.proofs.Sim.{Sim}
use Rattle.laws.proofs.Matching.{Matches}
use Rattle.laws.proofs.Refusals.{refusal-keeps}

full-refusal : (a : Answered) → no_step a ≡ true → is_refusal a ≡ true
full-refusal (refused n) e = refl
full-refusal done e = e
full-refusal (made h) e = e
full-refusal (truth b) e = e
full-refusal (node h) e = e
full-refusal (listed r l) e = e
full-refusal (every_node l) e = e
full-refusal (kind_is k a n) e = e
full-refusal (name_is n) e = e
full-refusal (key k) e = e
full-refusal (keys l) e = e

-- what is told of a call that makes a birth
abbrev pub Told : (ℕ → ℕ) → Call → Doc → Tree → Type 0
Told hs c d t = t.births < (tree_after hs c d t).births → hs t.births ≡ handle_told c (calls.step c d)

module _ (hs : ℕ → ℕ)
    (explains : (d : Doc) (t : Tree) → Sim d t hs → WF t → Explains hs d t)
    (one : (c : Call) (d : Doc) (t : Tree) → Sim d t hs → WF t → Told hs c d t → Matches hs c d (calls.step c d) (tree.step c hs t)) where
  pub next : (c : Call) (d : Doc) (t : Tree) → Sim d t hs → WF t → Told hs c d t
      → Sim (calls.step c d).doc (tree_after hs c d t) hs × WF (tree_after hs c d t)
      × (no_step (calls.step c d).answer ≡ false → Agrees hs c (calls.step c d) (tree.step c hs t))
  next c d t S W o = go (no_step (calls.step c d).answer) refl (one c d t S W o)
    where
      go : (q : Bool) → no_step (calls.step c d).answer ≡ q → Matches hs c d (calls.step c d) (tree.step c hs t)
          → Sim (calls.step c d).doc (cond q t (tree.step c hs t).tree) hs × WF (cond q t (tree.step c hs t).tree)
          × (q ≡ false → Agrees hs c (calls.step c d) (tree.step c hs t))
      go true e (inl m) = (subst (λ (x : Doc). Sim x t hs) (sym m.1) S, W, λ f. absurd (true≢false f))
      go true e (inr m) =
          (subst (λ (x : Doc). Sim x t hs) (sym (refusal-keeps c d (full-refusal (calls.step c d).answer e))) S, W, λ f. absurd (true≢false f))
      go false e (inl m) = absurd (true≢false (sym m.0 ∙ e))
      go false e (inr m) = (m.0, m.1, λ f. m.2)

  pub every-run : (cs : List Call) (d : Doc) (t : Tree) → Sim d t hs → WF t → Tells hs cs d t → Claim hs cs d t
  every-run [] d t S W o = explains d t S W
  every-run (c ∷ cs) d t S W o =
      let n = next c d t S W o.0 in
      (explains d t S W, n.2, every-run cs (calls.step c d).doc (tree_after hs c d t) n.0 n.1 o.1)
