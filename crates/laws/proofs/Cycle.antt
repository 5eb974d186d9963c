-- The document's test for a cycle is the tree's: both climb the same path, and the slots are steps enough.
-- Assumes nothing.
use mathlib.Core.Path.{◌≡◌, ap, ap₂}
use mathlib.Core.Bool.{Bool, true, false, ◌||◌}
use mathlib.Core.List.{List, map, Memᴰ}
use Prim.Native.Nat.{ℕ, zero, suc, ◌≤◌}
use native.Mathlib.Omega.{arith}
use lib.ListN.{length, length-map}
use Rattle.records.specs.Handles.{handle_index}
use Rattle.model.specs.Doc.{Doc, on_path}
use Rattle.model.specs.Tree.{Tree, above}
use Rattle.laws.proofs.Wf.{Distinct, Ends, WF}
use Rattle.laws.proofs.Sim.{Sim}
use Rattle.laws.proofs.Basics.{birth-below, same-births}
use Rattle.laws.proofs.Nested.{Nested, nested}
use Rattle.laws.proofs.Membership.{pigeonhole, mem-map-cases, distinct-map}
use Rattle.laws.proofs.Climb.{path, steps, length-path, path-distinct, path-live, steps-births, some-steps}

module _ {d : Doc} {t : Tree} {hs : ℕ → ℕ} (S : Sim d t hs) where
  -- live births, none twice, are at most as many as the slots
  pub slots-enough : (l : List ℕ) → Distinct l → ((y : ℕ) → Memᴰ y l → t.live y ≡ true) → length l ≤ length d.gens
  slots-enough l u al =
      let h =
      pigeonhole (length d.gens) (map (λ b. handle_index (hs b)) l)
      (distinct-map (λ b. handle_index (hs b)) l (λ a b ma mb e. S.inj a b (al a ma) (al b mb) e) u)
      (λ y m. let o = mem-map-cases (λ b. handle_index (hs b)) l m in rw o.2 (birth-below d t hs S o.0 (al o.0 o.1)))
      in
      omega (arith, length-map l (λ b. handle_index (hs b)))

  on-path : Nested t → (b : ℕ) → t.live b ≡ true → {x : ℕ} (r : Ends t.parent x) → t.live x ≡ true → (f g : ℕ) → steps r ≤ f → steps r ≤ g
      → on_path f d (hs b) (hs x) ≡ above g t.parent b x
  unfolding steps
  on-path N b lb r lx zero g h k = absurd (let s = some-steps r in omega arith)
  on-path N b lb r lx (suc f) zero h k = absurd (let s = some-steps r in omega arith)
  on-path N b lb {x} (Ends.top e) lx (suc f) (suc g) h k =
      rw (S.parent x lx, e) (ap (λ (q : Bool). q || false) (same-births d t hs S x b lx lb))
  on-path N b lb {x} (Ends.up p e r) lx (suc f) (suc g) h k =
      let ih = on-path N b lb r (N.upward x p lx e).0 f g (omega arith) (omega arith) in
      rw (S.parent x lx, e) (ap₂ ◌||◌ (same-births d t hs S x b lx lb) ih)

  pub cycle-agrees : WF t → (c p : ℕ) → t.live c ≡ true → t.live p ≡ true
      → on_path (length d.gens) d (hs c) (hs p) ≡ above t.births t.parent c p
  cycle-agrees W c p lc lp =
      let N = nested W in
      let r = W.ends p lp in
      let h = slots-enough (path r) (path-distinct r) (path-live N r lp) in
      on-path N c lc r lp (length d.gens) t.births (omega (arith, length-path r)) (steps-births N r lp)
