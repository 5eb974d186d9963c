-- A birth and an attachment keep the rules of the plain tree, but for the one on nodes that have no parent.
-- Assumes nothing.
use Rattle.std.proofs.lemmas.Option.{none-some, same_Some}
use Rattle.std.specs.Prelude.{None, Some}
use mathlib.Core.Path.{◌≡◌, sym, ap, ap₂, ◌∙◌, subst}
use mathlib.Core.Logic.{◌≢◌, ◌⊎◌, inl, inr}
use mathlib.Core.Bool.{true, false, false≢true}
use mathlib.Core.List.{List, [], Memᴰ}
use Prim.Native.Nat.{ℕ, suc, ◌<◌}
use native.Mathlib.Omega.{arith}
use native.Mathlib.Decide.{ℕ_discrete}
use Rattle.words.specs.Lists.{insert_at}
use Rattle.names.specs.Table.{Name}
use Rattle.model.specs.Kinds.{Kind, Which, children, which_of, is_element, is_root, owns}
use Rattle.model.specs.Edits.{update_which}
use Rattle.model.specs.Tree.{Tree, update, set_list, set_parent, born, attach}
use Rattle.laws.proofs.Wf.{Distinct, Ends, Clear}
use Rattle.laws.proofs.Nested.{Nested}
use Rattle.laws.proofs.Basics.{update_same, update_other}
use Rattle.laws.proofs.Columns.{list-at, list_cases, clear-ends, clear-update, ends-update}
use Rattle.laws.proofs.Membership.{mem-insert_at, mem-insert_at-old, mem-insert_at-cases, distinct-insert_at}

-- no element stands under the Root
abbrev pub NoRootElement : Tree → Type 0
NoRootElement t = (a : ℕ) → Memᴰ a (t.lists children 0) → is_element (t.kind a) ≡ true → ⊥

module _ {t : Tree} (N : Nested t) where
  -- ---- a new birth

  pub nested-born : (k : Kind Name (List ℕ)) → is_root k ≡ false → Nested (born t k)
  unfolding born
  nested-born k nr = record {
    root_kind = update_other t.kind n k 0 z ∙ N.root_kind;
    root_parent = update_other t.parent n None 0 z ∙ N.root_parent;
    root_live = live 0 N.root_live;
    root_only = λ b lb. root_only b lb (ℕ_discrete b n);
    counted = λ b lb. counted b lb (ℕ_discrete b n);
    upward = λ b p lb. upward b p lb (ℕ_discrete b n);
    downward = λ w p b lp. downward w p b lp (ℕ_discrete p n);
    once = λ w p lp. once w p lp (ℕ_discrete p n);
    ends = λ b lb. ends b lb (ℕ_discrete b n);
    one_element = one_element;
  }
    where
      n : ℕ
      n = t.births

      z : 0 ≢ n
      z = let h = N.counted 0 N.root_live in omega arith

      old : (b : ℕ) → b ≢ n → update t.live n true b ≡ true → t.live b ≡ true
      old b nb lb = sym (update_other t.live n true b nb) ∙ lb

      not_new : (b : ℕ) → t.live b ≡ true → b ≢ n
      not_new b lb = let h = N.counted b lb in omega arith

      live : (b : ℕ) → t.live b ≡ true → update t.live n true b ≡ true
      live b lb = update_other t.live n true b (not_new b lb) ∙ lb

      root_only : (b : ℕ) → update t.live n true b ≡ true → Dec (b ≡ n) → is_root (update t.kind n k b) ≡ true → b ≡ 0
      root_only b lb (yes q) = rw (q, update_same t.kind n k) (λ e. absurd (false≢true (sym nr ∙ e)))
      root_only b lb (no m) = rw (update_other t.kind n k b m) (N.root_only b (old b m lb))

      counted : (b : ℕ) → update t.live n true b ≡ true → Dec (b ≡ n) → b < suc n
      counted b lb (yes q) = omega arith
      counted b lb (no m) = let h = N.counted b (old b m lb) in omega arith

      upward : (b p : ℕ) → update t.live n true b ≡ true → Dec (b ≡ n) → update t.parent n None b ≡ Some p
          → (update t.live n true p ≡ true) × (owns (which_of (update t.kind n k b)) (update t.kind n k p) ≡ true)
          × Memᴰ b (update (t.lists (which_of (update t.kind n k b))) n [] p)
      upward b p lb (yes q) = rw (q, update_same t.parent n None) (λ e. absurd (none-some p e))
      upward b p lb (no m) = rw (update_other t.parent n None b m, update_other t.kind n k b m) (λ e. go (N.upward b p (old b m lb) e))
        where
          go : (t.live p ≡ true) × (owns (which_of (t.kind b)) (t.kind p) ≡ true) × Memᴰ b (t.lists (which_of (t.kind b)) p)
              → (update t.live n true p ≡ true) × (owns (which_of (t.kind b)) (update t.kind n k p) ≡ true)
              × Memᴰ b (update (t.lists (which_of (t.kind b))) n [] p)
          go u =
              (live p u.0, rw (update_other t.kind n k p (not_new p u.0)) u.1, rw (update_other (t.lists (which_of (t.kind b))) n [] p (not_new p u.0)) u.2)

      downward : (w : Which) (p b : ℕ) → update t.live n true p ≡ true → Dec (p ≡ n) → Memᴰ b (update (t.lists w) n [] p)
          → (update t.live n true b ≡ true) × (update t.parent n None b ≡ Some p) × (which_of (update t.kind n k b) ≡ w)
      downward w p b lp (yes q) = rw (q, update_same (t.lists w) n []) (λ m. absurd (mathlib.Core.List.Memᴰ.not-nil m))
      downward w p b lp (no m) = rw (update_other (t.lists w) n [] p m) (λ h. go (N.downward w p b (old p m lp) h))
        where
          go : (t.live b ≡ true) × (t.parent b ≡ Some p) × (which_of (t.kind b) ≡ w)
              → (update t.live n true b ≡ true) × (update t.parent n None b ≡ Some p) × (which_of (update t.kind n k b) ≡ w)
          go u =
              (live b u.0, update_other t.parent n None b (not_new b u.0) ∙ u.1, ap which_of (update_other t.kind n k b (not_new b u.0)) ∙ u.2)

      once : (w : Which) (p : ℕ) → update t.live n true p ≡ true → Dec (p ≡ n) → Distinct (update (t.lists w) n [] p)
      once w p lp (yes q) = rw (q, update_same (t.lists w) n []) tt
      once w p lp (no m) = rw (update_other (t.lists w) n [] p m) (N.once w p (old p m lp))

      top : Ends (update t.parent n None) n
      top = Ends.top (update_same t.parent n None)

      ends : (b : ℕ) → update t.live n true b ≡ true → Dec (b ≡ n) → Ends (update t.parent n None) b
      ends b lb (yes q) = rw q top
      ends b lb (no m) = ends-update None top (N.ends b (old b m lb))

      was : (b : ℕ) → Memᴰ b (t.lists children 0) → is_element (update t.kind n k b) ≡ true → is_element (t.kind b) ≡ true
      was b mb eb = sym (ap is_element (update_other t.kind n k b (not_new b (N.downward children 0 b N.root_live mb).0))) ∙ eb

      one_element : (a b : ℕ) → Memᴰ a (update (t.lists children) n [] 0) → Memᴰ b (update (t.lists children) n [] 0)
          → is_element (update t.kind n k a) ≡ true → is_element (update t.kind n k b) ≡ true → a ≡ b
      one_element a b =
          rw (update_other (t.lists children) n [] 0 z) (λ ma mb ea eb. N.one_element a b ma mb (was a ma ea) (was b mb eb))

  -- ---- a node without a parent put under p

  pub nested-attach : (w : Which) (p i b : ℕ) → t.live b ≡ true → t.live p ≡ true → b ≢ 0 → t.parent b ≡ None → which_of (t.kind b) ≡ w
      → owns w (t.kind p) ≡ true → Clear t.parent b p → (p ≡ 0 → is_element (t.kind b) ≡ true → NoRootElement t) → Nested (attach t w p i b)
  unfolding set_list set_parent
  nested-attach w p i b lb lp b0 pb wb fp cl one = record {
    root_kind = N.root_kind;
    root_parent = update_other t.parent b (Some p) 0 (λ e. b0 (sym e)) ∙ N.root_parent;
    root_live = N.root_live;
    root_only = N.root_only;
    counted = N.counted;
    upward = λ x q lx. upward x q lx (ℕ_discrete x b);
    downward = λ v q x lq m. downward v q x lq (cases v q x m);
    once = once;
    ends = λ x lx. ends-update (Some p) below-p (N.ends x lx);
    one_element = λ a c ma mc. one_element a c (cases children 0 a ma) (cases children 0 c mc);
  }
    where
      l : List ℕ
      l = insert_at i b (t.lists w p)

      ls : Which → ℕ → List ℕ
      ls = update_which t.lists w (update (t.lists w) p l)

      nowhere : (v : Which) (q : ℕ) → t.live q ≡ true → Memᴰ b (t.lists v q) → ⊥
      nowhere v q lq m = none-some q (sym pb ∙ (N.downward v q b lq m).1)

      cases : (v : Which) (q x : ℕ) → Memᴰ x (ls v q) → ((v ≡ w) × (q ≡ p) × (x ≡ b)) ⊎ Memᴰ x (t.lists v q)
      cases v q x m = go (list_cases t.lists w p l v q)
        where
          new : v ≡ w → q ≡ p → (x ≡ b) ⊎ Memᴰ x (t.lists w p) → ((v ≡ w) × (q ≡ p) × (x ≡ b)) ⊎ Memᴰ x (t.lists v q)
          new e g (inl h) = inl (e, g, h)
          new e g (inr h) = inr (rw (e, g) h)

          go : ((v ≡ w) × (q ≡ p)) ⊎ ((v ≡ w → q ≡ p → ⊥) × (ls v q ≡ t.lists v q)) → ((v ≡ w) × (q ≡ p) × (x ≡ b)) ⊎ Memᴰ x (t.lists v q)
          go (inl e) =
              let m' : Memᴰ x l = subst (λ (k : List ℕ). Memᴰ x k) (ap₂ ls e.0 e.1 ∙ list-at t.lists w p l) m in
              new e.0 e.1 (mem-insert_at-cases i b (t.lists w p) m')
          go (inr e) = inr (subst (λ (k : List ℕ). Memᴰ x k) e.1 m)

      keep : (v : Which) (q x : ℕ) → Memᴰ x (t.lists v q) → Memᴰ x (ls v q)
      keep v q x m = go (list_cases t.lists w p l v q)
        where
          go : ((v ≡ w) × (q ≡ p)) ⊎ ((v ≡ w → q ≡ p → ⊥) × (ls v q ≡ t.lists v q)) → Memᴰ x (ls v q)
          go (inl e) =
              subst (λ (k : List ℕ). Memᴰ x k) (sym (ap₂ ls e.0 e.1 ∙ list-at t.lists w p l))
              (mem-insert_at-old i b (t.lists w p) (subst (λ (k : List ℕ). Memᴰ x k) (ap₂ t.lists e.0 e.1) m))
          go (inr e) = subst (λ (k : List ℕ). Memᴰ x k) (sym e.1) m

      upward : (x q : ℕ) → t.live x ≡ true → Dec (x ≡ b) → update t.parent b (Some p) x ≡ Some q
          → (t.live q ≡ true) × (owns (which_of (t.kind x)) (t.kind q) ≡ true) × Memᴰ x (ls (which_of (t.kind x)) q)
      upward x q lx (yes e) =
          rw (e, update_same t.parent b (Some p))
          (λ g.
          let pq : p ≡ q = same_Some p q g in
          (rw (← pq) lp, rw (← pq, wb) fp, rw (← pq, wb) (subst (λ (k : List ℕ). Memᴰ b k) (sym (list-at t.lists w p l)) (mem-insert_at i b (t.lists w p)))))
      upward x q lx (no n) =
          rw (update_other t.parent b (Some p) x n) (λ g. let u = N.upward x q lx g in (u.0, u.1, keep (which_of (t.kind x)) q x u.2))

      downward : (v : Which) (q x : ℕ) → t.live q ≡ true → ((v ≡ w) × (q ≡ p) × (x ≡ b)) ⊎ Memᴰ x (t.lists v q)
          → (t.live x ≡ true) × (update t.parent b (Some p) x ≡ Some q) × (which_of (t.kind x) ≡ v)
      downward v q x lq (inl e) = (rw e.2 lb, rw (e.2, e.1) (update_same t.parent b (Some p)), rw (e.2, e.0) wb)
      downward v q x lq (inr m) =
          let u = N.downward v q x lq m in
          (u.0, update_other t.parent b (Some p) x (λ e. nowhere v q lq (subst (λ (k : ℕ). Memᴰ k (t.lists v q)) e m)) ∙ u.1, u.2)

      once : (v : Which) (q : ℕ) → t.live q ≡ true → Distinct (ls v q)
      once v q lq = go (list_cases t.lists w p l v q)
        where
          go : ((v ≡ w) × (q ≡ p)) ⊎ ((v ≡ w → q ≡ p → ⊥) × (ls v q ≡ t.lists v q)) → Distinct (ls v q)
          go (inl e) =
              subst Distinct (sym (ap₂ ls e.0 e.1 ∙ list-at t.lists w p l)) (distinct-insert_at i b (t.lists w p) (nowhere w p lp) (N.once w p lp))
          go (inr e) = subst Distinct (sym e.1) (N.once v q lq)

      below-p : Ends (update t.parent b (Some p)) b
      below-p = Ends.up p (update_same t.parent b (Some p)) (clear-ends (clear-update (Some p) cl))

      at_b : (a : ℕ) → a ≡ b → is_element (t.kind a) ≡ true → is_element (t.kind b) ≡ true
      at_b a e ea = sym (ap (λ (z : ℕ). is_element (t.kind z)) e) ∙ ea

      one_element : (a c : ℕ) → ((children ≡ w) × (0 ≡ p) × (a ≡ b)) ⊎ Memᴰ a (t.lists children 0)
          → ((children ≡ w) × (0 ≡ p) × (c ≡ b)) ⊎ Memᴰ c (t.lists children 0) → is_element (t.kind a) ≡ true → is_element (t.kind c) ≡ true → a ≡ c
      one_element a c (inl e) (inl f) ea ec = e.2 ∙ sym f.2
      one_element a c (inl e) (inr f) ea ec = absurd (one (sym e.1) (at_b a e.2 ea) c f ec)
      one_element a c (inr e) (inl f) ea ec = absurd (one (sym f.1) (at_b c f.2 ec) a e ea)
      one_element a c (inr e) (inr f) ea ec = N.one_element a c e f ea ec
