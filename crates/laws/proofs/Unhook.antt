-- A node taken off its parent: what changes, and that the rules of the plain tree hold, but for the one on nodes that have no parent.
-- Assumes nothing.
use Rattle.std.proofs.lemmas.Option.{none-some, same_Some}
use Rattle.std.specs.Prelude.{Option, None, Some}
use mathlib.Core.Path.{◌≡◌, refl, sym, ap, ◌∙◌, subst}
use mathlib.Core.Logic.{◌≢◌, ◌⊎◌, inl, inr}
use mathlib.Core.Bool.{true}
use mathlib.Core.List.{List, Memᴰ}
use Prim.Native.Nat.{ℕ}
use native.Mathlib.Decide.{ℕ_discrete}
use lib.Dec.{eqb}
use Rattle.words.specs.Lists.{without}
use Rattle.model.specs.Kinds.{Which, children, which_of, owns}
use Rattle.model.specs.Edits.{update_which}
use Rattle.model.specs.Tree.{Tree, update, set_list, set_parent, unlink_from, unlink, unhook}
use Rattle.laws.proofs.Wf.{Distinct, Ends}
use Rattle.laws.proofs.Nested.{Nested}
use Rattle.laws.proofs.Basics.{update_same, update_other}
use Rattle.laws.proofs.Columns.{list-at, list_cases, ends-update}
use Rattle.laws.proofs.Membership.{mem-without, mem-without-old, distinct_without}

-- unlinking changes nothing but the lists
pub unlink-rest : (t : Tree) (b : ℕ)
    → ((unlink t b).live ≡ t.live) × ((unlink t b).kind ≡ t.kind) × ((unlink t b).parent ≡ t.parent) × ((unlink t b).births ≡ t.births)
unfolding unlink set_list
unlink-rest t b = go (t.parent b)
  where
    go : (o : Option ℕ)
        → ((unlink_from o t b).live ≡ t.live) × ((unlink_from o t b).kind ≡ t.kind) × ((unlink_from o t b).parent ≡ t.parent) × ((unlink_from o t b).births ≡ t.births)
    go None = (refl, refl, refl, refl)
    go (Some p) = (refl, refl, refl, refl)

module _ (t : Tree) (b : ℕ) where
  pub unhook-live : (unhook t b).live ≡ t.live
  unfolding set_parent
  unhook-live = (unlink-rest t b).0

  pub unhook-kind : (unhook t b).kind ≡ t.kind
  unfolding set_parent
  unhook-kind = (unlink-rest t b).1

  pub unhook-births : (unhook t b).births ≡ t.births
  unfolding set_parent
  unhook-births = (unlink-rest t b).3

  pub unhook-parent : (unhook t b).parent ≡ update t.parent b None
  unfolding set_parent
  unhook-parent = ap (λ (f : ℕ → Option ℕ). update f b None) (unlink-rest t b).2

  pub unhook-parentless : (unhook t b).parent b ≡ None
  unfolding set_parent
  unhook-parentless = update_same (unlink t b).parent b None

module _ {t : Tree} (N : Nested t) where
  -- what it does to the lists
  pub unlinked : (b : ℕ) (v : Which) (q : ℕ) → t.live q ≡ true
      → Distinct ((unlink t b).lists v q) × ((x : ℕ) → Memᴰ x ((unlink t b).lists v q) → Memᴰ x (t.lists v q) × (x ≢ b))
      × ((x : ℕ) → x ≢ b → Memᴰ x (t.lists v q) → Memᴰ x ((unlink t b).lists v q))
  unfolding unlink set_list
  unlinked b v q lq = go (t.parent b) refl
    where
      go : (o : Option ℕ) → t.parent b ≡ o
          → Distinct ((unlink_from o t b).lists v q) × ((x : ℕ) → Memᴰ x ((unlink_from o t b).lists v q) → Memᴰ x (t.lists v q) × (x ≢ b))
          × ((x : ℕ) → x ≢ b → Memᴰ x (t.lists v q) → Memᴰ x ((unlink_from o t b).lists v q))
      go None e =
          (N.once v q lq, (λ x m. (m, λ f. none-some q (sym e ∙ ap t.parent (sym f) ∙ (N.downward v q x lq m).1))), λ x n m. m)
      go (Some p) e = part (list_cases t.lists w p l v q)
        where
          w : Which
          w = which_of (t.kind b)

          l : List ℕ
          l = without (eqb b) (t.lists w p)

          ls : Which → ℕ → List ℕ
          ls = update_which t.lists w (update (t.lists w) p l)

          part : ((v ≡ w) × (q ≡ p)) ⊎ ((v ≡ w → q ≡ p → ⊥) × (ls v q ≡ t.lists v q))
              → Distinct (ls v q) × ((x : ℕ) → Memᴰ x (ls v q) → Memᴰ x (t.lists v q) × (x ≢ b))
              × ((x : ℕ) → x ≢ b → Memᴰ x (t.lists v q) → Memᴰ x (ls v q))
          part (inl f) =
              rw (f.0, f.1, list-at t.lists w p l)
              (let lp : t.live p ≡ true = rw (← f.1) lq in
              let u = distinct_without b (t.lists w p) (N.once w p lp) in
              (u.0, (λ x m. (mem-without-old b (t.lists w p) m, λ g. u.1 (subst (λ (k : ℕ). Memᴰ k l) g m))), λ x n m. mem-without b (t.lists w p) n m))
          part (inr f) =
              rw f.1 (
                N.once v q lq,
                (λ x m. (
                  m,
                  λ g.
                      let d = N.downward v q x lq m in
                      f.0 (sym d.2 ∙ ap (λ (z : ℕ). which_of (t.kind z)) g) (same_Some q p (sym d.1 ∙ ap t.parent g ∙ e)),
                )),
                λ x n m. m,
              )

  pub nested-unhook : (b : ℕ) → Nested (unhook t b)
  unfolding set_parent
  nested-unhook b = rw ((unlink-rest t b).0, (unlink-rest t b).1, (unlink-rest t b).2, (unlink-rest t b).3) (record {
    root_kind = N.root_kind;
    root_parent = root_parent (ℕ_discrete 0 b);
    root_live = N.root_live;
    root_only = N.root_only;
    counted = N.counted;
    upward = λ x q lx. upward x q lx (ℕ_discrete x b);
    downward = λ v q x lq m. let o = (unlinked b v q lq).1 x m in let u = N.downward v q x lq o.0 in (u.0, update_other t.parent b None x o.1 ∙ u.1, u.2);
    once = λ v q lq. (unlinked b v q lq).0;
    ends = λ x lx. ends-update None (Ends.top (update_same t.parent b None)) (N.ends x lx);
    one_element = λ a c ma mc. N.one_element a c ((unlinked b children 0 N.root_live).1 a ma).0 ((unlinked b children 0 N.root_live).1 c mc).0;
  })
    where
      root_parent : Dec (0 ≡ b) → update t.parent b None 0 ≡ None
      root_parent (yes e) = rw (← e) (update_same t.parent 0 None)
      root_parent (no n) = update_other t.parent b None 0 n ∙ N.root_parent

      upward : (x q : ℕ) → t.live x ≡ true → Dec (x ≡ b) → update t.parent b None x ≡ Some q
          → (t.live q ≡ true) × (owns (which_of (t.kind x)) (t.kind q) ≡ true) × Memᴰ x ((unlink t b).lists (which_of (t.kind x)) q)
      upward x q lx (yes e) = rw (e, update_same t.parent b None) (λ g. absurd (none-some q g))
      upward x q lx (no n) =
          rw (update_other t.parent b None x n)
          (λ g. let u = N.upward x q lx g in (u.0, u.1, (unlinked b (which_of (t.kind x)) q u.0).2 x n u.2))

  -- what stands in a list stood there before, and is another node
  pub unhooked : (b : ℕ) (v : Which) (q : ℕ) → t.live q ≡ true → (x : ℕ) → Memᴰ x ((unhook t b).lists v q) → Memᴰ x (t.lists v q) × (x ≢ b)
  unfolding set_parent
  unhooked b v q lq = (unlinked b v q lq).1
