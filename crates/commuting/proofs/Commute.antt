-- Two moves of different nodes commute on the plain tree, where no parent is left or entered by both.
-- Assumes nothing.
use Rattle.std.proofs.lemmas.Option.{none-some, same_Some}
use Rattle.std.specs.Prelude.{Option, None, Some}
use mathlib.Core.Path.{◌≡◌, refl, sym, ap, ◌∙◌, fun_ext}
use mathlib.Core.Logic.{◌≢◌, ◌⊎◌, inl, inr}
use mathlib.Core.Bool.{false}
use mathlib.Core.List.{List}
use Prim.Native.Nat.{ℕ}
use native.Mathlib.Decide.{ℕ_discrete}
use borrow.Author.Tests.{eq-eqb, ne_eqb}
use Rattle.model.specs.Kinds.{Which, children, attributes, namespaces, which_of}
use Rattle.model.specs.Tree.{Tree, update, moved}
use Rattle.laws.proofs.Basics.{update_other}
use Rattle.commuting.proofs.Moved.{left, across, lists_after, shifted, moved_told}

-- x is the parent that a move leaves, or the one that it enters
abbrev pub Touched : Option ℕ → ℕ → ℕ → Type 0
Touched o p x = (o ≡ Some x) ⊎ (p ≡ x)

left_other : (o : Option ℕ) (c x : ℕ) (l : List ℕ) → (o ≢ Some x) → left o c x l ≡ l
left_other None c x l n = refl
left_other (Some q) c x l n = rw (ne_eqb x q (λ e. n (ap {B = Option ℕ} Some (sym e))))

across-other : (o : Option ℕ) (p : ℕ) (at : Option ℕ) (c x : ℕ) (l : List ℕ) → (Touched o p x → ⊥) → across o p at c x l ≡ l
across-other o p at c x l n = rw (ne_eqb x p (λ e. n (inr (sym e)))) (left_other o c x l (λ e. n (inl e)))

touched-or-not : (o : Option ℕ) (p x : ℕ) → Touched o p x ⊎ (Touched o p x → ⊥)
touched-or-not o p x = go o (ℕ_discrete p x)
  where
    not-both : (o : Option ℕ) → (o ≢ Some x) → (p ≢ x) → Touched o p x → ⊥
    not-both o a b (inl e) = a e
    not-both o a b (inr e) = b e

    in_some : (q : ℕ) → p ≢ x → Dec (q ≡ x) → Touched (Some q) p x ⊎ (Touched (Some q) p x → ⊥)
    in_some q b (yes e) = inl (inl (ap {B = Option ℕ} Some e))
    in_some q b (no n) = inr (not-both (Some q) (λ e. n (same_Some q x e)) b)

    go : (o : Option ℕ) → Dec (p ≡ x) → Touched o p x ⊎ (Touched o p x → ⊥)
    go o (yes e) = inl (inr e)
    go None (no n) = inr (not-both None (λ e. none-some x e) n)
    go (Some q) (no n) = in_some q n (ℕ_discrete q x)

update_swap : {A : Type 0} (f : ℕ → A) (a b : ℕ) (u v : A) → a ≢ b → (x : ℕ) → update (update f a u) b v x ≡ update (update f b v) a u x
update_swap f a b u v n x = go (ℕ_discrete x a) (ℕ_discrete x b)
  where
    go : Dec (x ≡ a) → Dec (x ≡ b) → update (update f a u) b v x ≡ update (update f b v) a u x
    go (yes e) (yes g) = absurd (n (sym e ∙ g))
    go (yes e) (no g) = rw (eq-eqb x a e, ne_eqb x b g)
    go (no e) (yes g) = rw (ne_eqb x a e, eq-eqb x b g)
    go (no e) (no g) = rw (ne_eqb x a e, ne_eqb x b g)

-- a goes from where it stands to p, b from where it stands to q
module _ (t : Tree) (p q : ℕ) (at bt : Option ℕ) (a b : ℕ) (n : a ≢ b)
    (apart : (x : ℕ) → Touched (t.parent a) p x → Touched (t.parent b) q x → ⊥) where
  abbrev a-from : Option ℕ
  a-from = t.parent a

  abbrev b-from : Option ℕ
  b-from = t.parent b

  -- at each list one of the two does nothing
  list-swap : (x : ℕ) (l : List ℕ) → across b-from q bt b x (across a-from p at a x l) ≡ across a-from p at a x (across b-from q bt b x l)
  list-swap x l = go (touched-or-not a-from p x)
    where
      go : Touched a-from p x ⊎ (Touched a-from p x → ⊥) → across b-from q bt b x (across a-from p at a x l) ≡ across a-from p at a x (across b-from q bt b x l)
      go (inl m) =
          let z = apart x m in
          across-other b-from q bt b x (across a-from p at a x l) z ∙ ap (across a-from p at a x) (sym (across-other b-from q bt b x l z))
      go (inr m) =
          ap (across b-from q bt b x) (across-other a-from p at a x l m) ∙ sym (across-other a-from p at a x (across b-from q bt b x l) m)

  -- a move changes the parent of no other node, so that each node leaves the parent that it had before both
  lists-swap : (w : Which) (x : ℕ)
      → lists_after (lists_after t.lists a-from p at a) (update t.parent a (Some p) b) q bt b w x
      ≡ lists_after (lists_after t.lists b-from q bt b) (update t.parent b (Some q) a) p at a w x
  lists-swap children x =
      rw (update_other t.parent a (Some p) b (λ e. n (sym e)), update_other t.parent b (Some q) a n) (list-swap x (t.lists children x))
  lists-swap attributes x = refl
  lists-swap namespaces x = refl

  shifted-swap : shifted (shifted t p at a) q bt b ≡ shifted (shifted t q bt b) p at a
  shifted-swap = λ i. record {
    births = t.births;
    live = t.live;
    kind = t.kind;
    parent = fun_ext (update_swap t.parent a b (Some p) (Some q) n) i;
    lists = fun_ext (λ w. fun_ext (λ x. lists-swap w x)) i;
    current = false;
  }

  pub moves-commute : which_of (t.kind a) ≡ children → which_of (t.kind b) ≡ children → moved (moved t p at a) q bt b ≡ moved (moved t q bt b) p at a
  moves-commute ka kb =
      ap (λ (u : Tree). moved u q bt b) (moved_told t p at a ka)
      ∙ moved_told (shifted t p at a) q bt b kb
      ∙ shifted-swap
      ∙ sym (moved_told (shifted t q bt b) p at a ka)
      ∙ ap (λ (u : Tree). moved u p at a) (sym (moved_told t q bt b kb))
