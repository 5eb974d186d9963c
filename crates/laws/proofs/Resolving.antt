-- Calls answer 6 just where a handle does not resolve.
-- Assumes nothing.
use Rattle.std.specs.Prelude.{None, Some}
use mathlib.Core.Path.{◌≡◌, sym, ap, ◌∙◌}
use mathlib.Core.Logic.{◌≢◌}
use mathlib.Core.Bool.{Bool, cond, false≢true}
use Prim.Native.Nat.{ℕ}
use native.Mathlib.Omega.{arith}
use Rattle.model.specs.Doc.{Doc, node_at}
use Rattle.model.specs.Checks.{check_remove}
use Rattle.model.specs.Calls.{Answered, refused, done, made, truth, node, listed, every_node, kind_is, name_is, key, keys, answers, guarded, removed, step}
use Rattle.model.specs.Resolving.{ResolvesAsAnswered}
use Rattle.laws.proofs.RefusalNumbers.{Tested, tested}

not-six : {S : Type 0} → (a : Answered) → Tested S a → (S → ⊥) → a ≢ refused 6
not-six (refused n) t f e = f (t.2 (let q : n ≡ 6 = cc in q))
not-six done t f e = (let z : ◌≡◌ {A = ℕ} 0 1 = cc in omega arith)
not-six (made h) t f e = (let z : ◌≡◌ {A = ℕ} 0 1 = cc in omega arith)
not-six (truth b) t f e = (let z : ◌≡◌ {A = ℕ} 0 1 = cc in omega arith)
not-six (node h) t f e = (let z : ◌≡◌ {A = ℕ} 0 1 = cc in omega arith)
not-six (listed r l) t f e = (let z : ◌≡◌ {A = ℕ} 0 1 = cc in omega arith)
not-six (every_node l) t f e = (let z : ◌≡◌ {A = ℕ} 0 1 = cc in omega arith)
not-six (kind_is k a n) t f e = (let z : ◌≡◌ {A = ℕ} 0 1 = cc in omega arith)
not-six (name_is n) t f e = (let z : ◌≡◌ {A = ℕ} 0 1 = cc in omega arith)
not-six (key k) t f e = (let z : ◌≡◌ {A = ℕ} 0 1 = cc in omega arith)
not-six (keys l) t f e = (let z : ◌≡◌ {A = ℕ} 0 1 = cc in omega arith)

pub resolves-as-answered : (d : Doc) → ResolvesAsAnswered d
unfolding guarded
resolves-as-answered d = record {
  stale = λ h e. ap (λ (r : Bool). (guarded (check_remove (cond r (Some (node_at d h)) None)) d (answers (removed d h) done)).answer) e;
  live = λ c e. not-six (step c d).answer (tested c d) (λ f. absurd (false≢true (sym f ∙ e)));
}
