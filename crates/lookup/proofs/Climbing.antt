-- The way up, over plain values: what a step of the climb tells of the rest.
-- Assumes nothing.
use Rattle.records.specs.declared.Node.{Node}
use Rattle.std.specs.Prelude.{Option, None, Some}
use mathlib.Core.Path.{◌≡◌, sym, ap, ◌∙◌}
use mathlib.Core.Bool.{Bool, true, false}
use mathlib.Core.List.{List}
use Prim.Native.Nat.{ℕ, suc, ◌+◌, ◌-◌, ◌≤◌, ◌<◌}
use native.Mathlib.Omega.{arith}
use lib.ListN.{length, get_or-eq_default}
use borrow.Author.Tests.{eq-eqb, ne_eqb}
use Rattle.words.specs.Lists.{tabulate}
use Rattle.words.proofs.Lists.{length-tabulate}
use Rattle.records.specs.Handles.{handle_index, word_of}
use Rattle.records.specs.declared.NodeId.{NodeId}
use Rattle.model.specs.Doc.{Doc, parent_at, any_option, on_path}
use Rattle.layout.specs.declared.Document.{Document}
use Rattle.memory.specs.Decode.{handle_of, parent_loaded, loaded_at, slots_part, slots_made, pool_in, names_in, lengths_add, decode}
use Rattle.memory.proofs.Columns.{length-gens, parent-in}

-- ---- a parent

module _ (d : Document) (mem : List ℕ) (w made : ℕ) (em : made ≡ slots_made d) where
  pub parent-read : handle_index w < made → (l : Option Node) (r : Option NodeId) → l ≡ loaded_at d.limits.nodes (slots_part d mem) (handle_index w) → handle_of r ≡ parent_loaded l
      → handle_of r ≡ parent_at (decode d mem) w
  parent-read h l r e q = q ∙ ap parent_loaded e ∙ sym (parent-in (pool_in d mem) (names_in d mem) (lengths_add d mem) d mem (handle_index w) (omega (arith, em)))

  pub parent-past : made ≤ handle_index w → None ≡ parent_at (decode d mem) w
  parent-past h =
      let parents : ℕ → Option ℕ = λ t. parent_loaded (loaded_at d.limits.nodes (slots_part d mem) t) in
      sym (get_or-eq_default (tabulate parents (slots_made d)) None {n = handle_index w} (omega (arith, em, length-tabulate parents (slots_made d))))

-- ---- the climb from p, which is at q after k of at most n steps: what is left of it

pub record Climbed (D : Doc) (n c p k q : ℕ) : Type 0 where
  pub within : k ≤ n
  pub rest : on_path n D c p ≡ on_path (n - k) D c q

module _ (D : Doc) (n c p k q : ℕ) (at : Climbed D n c p k q) where
  module _ (b : k < n) where
    left : n - k ≡ suc (n - (k + 1))
    left = omega arith

    pub climbed-met : q ≡ c → on_path n D c p ≡ true
    climbed-met e = at.rest ∙ rw (left, eq-eqb q c e)

    on : (q ≡ c → ⊥) → on_path n D c p ≡ any_option (λ r. on_path (n - (k + 1)) D c r) (parent_at D q)
    on e = at.rest ∙ rw (left, ne_eqb q c e)

    pub climbed-top : (q ≡ c → ⊥) → parent_at D q ≡ None → on_path n D c p ≡ false
    climbed-top e s = on e ∙ ap (any_option (λ r. on_path (n - (k + 1)) D c r)) s

    pub climbed-up : (q ≡ c → ⊥) → (r : ℕ) → parent_at D q ≡ Some r → Climbed D n c p (k + 1) r
    climbed-up e r s = record { within = omega arith; rest = on e ∙ ap (any_option (λ r. on_path (n - (k + 1)) D c r)) s }

  pub climbed-end : n ≤ k → on_path n D c p ≡ false
  climbed-end b =
      let z : n - k ≡ 0 = omega arith in
      at.rest ∙ rw z

-- the climb's answer, by the numbers that the code holds
module _ (d : Document) (mem : List ℕ) (steps top start c p : ℕ) (es : steps ≡ slots_made d) (et : top ≡ c) (ep : start ≡ p) where
  pub path-answer : (r : Bool) → on_path steps (decode d mem) top start ≡ r → r ≡ on_path (length (decode d mem).gens) (decode d mem) c p
  path-answer r e =
      sym e
      ∙ ap (λ (n : ℕ). on_path n (decode d mem) top start) (es ∙ sym (length-gens (pool_in d mem) (names_in d mem) (lengths_add d mem) d mem))
      ∙ ap (λ (x : ℕ). on_path (length (decode d mem).gens) (decode d mem) x start) et
      ∙ ap (on_path (length (decode d mem).gens) (decode d mem) c) ep

-- the parent that was read, and its word
pub parent-none : (D : Doc) (w : ℕ) (r : Option NodeId) → handle_of r ≡ parent_at D w → r ≡ None → parent_at D w ≡ None
parent-none D w r e q = sym e ∙ ap handle_of q

pub parent-some : (D : Doc) (w : ℕ) (r : Option NodeId) (h : NodeId) (k : ℕ) → handle_of r ≡ parent_at D w → r ≡ Some h → k ≡ word_of h → parent_at D w ≡ Some k
parent-some D w r h k e q s = sym e ∙ ap handle_of q ∙ ap (λ (x : ℕ). Some x) (sym s)
