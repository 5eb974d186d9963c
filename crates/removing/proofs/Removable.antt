-- What the plan of a removal leaves to it.
-- Assumes nothing.
use Rattle.std.specs.Prelude.{Option}
use mathlib.Core.Path.{◌≡◌, refl, sym, ◌∙◌}
use mathlib.Core.Bool.{true, false}
use mathlib.Core.List.{List}
use Prim.Native.Nat.{ℕ, zero, suc}
use native.Mathlib.Omega.{arith}
use Rattle.model.specs.Kinds.{Kind, root, element, attribute, text, comment, namespace, instruction, map_kind, is_root}
use Rattle.model.specs.Doc.{Doc, resolves, kind_at, node_at, view_at, pair_at, bytes_at}
use Rattle.model.specs.Checks.{check_remove}
use Rattle.model.specs.Calls.{Out, done, remove, removed, step, guarded, answers}
use Rattle.laws.proofs.Guards.{refuse-zero}
use Rattle.layout.specs.declared.Document.{Document}
use Rattle.memory.specs.Decode.{decode}
use Rattle.memory.specs.Step.{Step}
use Rattle.edits.proofs.Accepted.{viewed, performed}
use Rattle.verdicts.specs.Verdicts.{refusal_number}
use Rattle.verdicts.proofs.Refusing.{number-guarded}
use Rattle.memory.specs.Performed.{Performed}

root-kind : (D : Doc) (k : Kind ℕ (Option ℕ)) → is_root (map_kind (pair_at D) (bytes_at D) k) ≡ is_root k
root-kind D root = refl
root-kind D (element n) = refl
root-kind D (attribute n v) = refl
root-kind D (text t) = refl
root-kind D (comment t) = refl
root-kind D (namespace p u) = refl
root-kind D (instruction t c) = refl

guarded-zero : (n : ℕ) (D : Doc) (o : Out) → n ≡ 0 → guarded n D o ≡ o
unfolding guarded
guarded-zero zero D o e = refl
guarded-zero (suc n) D o e = absurd (omega arith)

module _ (d : Document) (mem : List ℕ) (h : ℕ) (e : 0 ≡ refusal_number (step (remove h) (decode d mem)).answer) where
  abbrev D : Doc
  D = decode d mem

  unrefused : check_remove (view_at D h) ≡ 0
  unrefused = sym (number-guarded (check_remove (view_at D h)) D (answers (removed D h) done) refl) ∙ sym e

  pub removable : (resolves (decode d mem) h ≡ true) × (is_root (kind_at (decode d mem) h) ≡ false)
  removable =
      let s = viewed D h check_remove (λ z. omega arith) unrefused in
      (s.0, sym (root-kind D (kind_at D h)) ∙ refuse-zero (is_root (node_at D h)) 10 s.1)

  pub removes : (r : Document) (mem' : List ℕ) → Step d mem r mem' (removed (decode d mem) h) → Performed (remove h) d mem done r mem'
  removes r mem' s =
      performed (remove h) d mem (answers (removed D h) done) opened done refl r mem' s
    where
      opened : step (remove h) D ≡ answers (removed D h) done
      opened = guarded-zero (check_remove (view_at D h)) D (answers (removed D h) done) unrefused
