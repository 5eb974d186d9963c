-- Laws of rule 5 for families of blocks, and the way from one block's edit to the promise for all owners.
-- Assumes nothing.
use mathlib.Core.Path.{◌≡◌, refl, sym, ap, ◌∙◌, subst, fun_ext}
use mathlib.Core.Bool.{Bool, true, false, cond}
use mathlib.Core.List.{List}
use Prim.Native.Nat.{ℕ, ◌≤◌}
use native.Mathlib.Decide.{ℕ_discrete}
use native.Mathlib.Omega.{arith}
use lib.ListN.{length}
use lib.Dec.{eqb}
use borrow.Author.Tests.{eq-eqb, ne_eqb}
use Rattle.blocks.specs.Arena.{Arena, Block, cap_of, list_of}
use Rattle.blocks.specs.Rule.{Inside, Apart, empty_left, empty_right, before, behind, Shaped, BlocksApart, at, Edited}
use Rattle.words.specs.Parts.{part, put}
use Rattle.words.proofs.Parts.{part_none, part-put-before, part-put-after}
use Rattle.blocks.proofs.Capacities.{capacity-least}
use Rattle.blocks.proofs.Edits.{block-fits}

-- ---- a family with another value at i

module _ {A : Type 0} (f : ℕ → A) (i : ℕ) where
  pub at_same : (x : A) (j : ℕ) → j ≡ i → at f i x j ≡ x
  at_same x j e = rw (eq-eqb j i e)

  pub at_other : (x : A) (j : ℕ) → (j ≡ i → ⊥) → at f i x j ≡ f j
  at_other x j h = rw (ne_eqb j i h)

  pub at_at : (x y : A) (j : ℕ) → at (at f i x) i y j ≡ at f i y j
  at_at x y j = go (eqb j i)
    where
      go : (t : Bool) → cond t y (cond t x (f j)) ≡ cond t y (f j)
      go true = refl
      go false = refl

  pub at-ext : (g : ℕ → A) (x : A) (j : ℕ) → f j ≡ g j → at f i x j ≡ at g i x j
  at-ext g x j e = ap (cond (eqb j i) x) e

  pub at_map : {B : Type 0} (g : A → B) (x : A) (j : ℕ) → g (at f i x j) ≡ at (λ (k : ℕ). g (f k)) i (g x) j
  at_map g x j = go (eqb j i)
    where
      go : (t : Bool) → g (cond t x (f j)) ≡ cond t (g x) (g (f j))
      go true = refl
      go false = refl

-- ---- the rule

pub apart-ext : (a : Arena) (B C : ℕ → Block) → ((j : ℕ) → B j ≡ C j) → BlocksApart a B → BlocksApart a C
apart-ext a B C h r = subst (λ (X : ℕ → Block). BlocksApart a X) (fun_ext h) r

pub apart-sym : {a : Arena} {b c : Block} → Apart a b c → Apart a c b
apart-sym (empty_left h) = empty_right h
apart-sym (empty_right h) = empty_left h
apart-sym (before h) = behind h
apart-sym (behind h) = before h

-- capacities that are no larger keep blocks apart
pub apart-less : {a a' : Arena} {b c : Block} → cap_of a' b ≤ cap_of a b → cap_of a' c ≤ cap_of a c → Apart a b c → Apart a' b c
apart-less p q (empty_left h) = empty_left h
apart-less p q (empty_right h) = empty_right h
apart-less p q (before h) = before (omega arith)
apart-less p q (behind h) = behind (omega arith)

-- what is put within a block's capacity leaves a list that lies apart
module _ (a : Arena) (b : Block) (sh : Shaped a) (inb : Inside a b) where
  pub put-apart : (vs : List ℕ) (c : Block) → length vs ≤ cap_of a b → (b.len ≡ 0 → ⊥) → Apart a b c → part c.start c.len (put b.start vs a.ids) ≡ list_of a c
  put-apart vs c h p (empty_left e) = absurd (p e)
  put-apart vs c h p (empty_right e) =
      ap (λ (n : ℕ). part c.start n (put b.start vs a.ids)) e
      ∙ part_none (put b.start vs a.ids) c.start
      ∙ sym (part_none a.ids c.start)
      ∙ ap (λ (n : ℕ). part c.start n a.ids) (sym e)
  put-apart vs c h p (before e) =
      part-put-after a.ids b.start vs c.start c.len (omega arith) (omega (arith, block-fits a b sh inb))
  put-apart vs c h p (behind e) =
      part-put-before a.ids b.start vs c.start c.len
      (omega (arith, capacity-least a.caps c)) (omega (arith, block-fits a b sh inb))

-- ---- one edit

-- what the edit that makes b to b' does to a block that is apart from b
pub record OtherBlock (a a' : Arena) (b' c : Block) : Type 0 where
  pub same : list_of a' c ≡ list_of a c
  pub less : cap_of a' c ≤ cap_of a c
  pub apart : Apart a' b' c

-- the edit, seen from the edited block and from any that is apart from it
pub record OneEdit (a a' : Arena) (b b' : Block) (new : List ℕ) : Type 0 where
  pub shaped : Shaped a'
  pub list : list_of a' b' ≡ new
  pub inside : Inside a' b'
  pub grows : a.used ≤ a'.used
  pub limit : length a'.ids ≡ length a.ids
  pub other : (c : Block) → Inside a c → Apart a b c → OtherBlock a a' b' c

module _ (a : Arena) (B : ℕ → Block) (i : ℕ) (a' : Arena) (b' : Block) (new : List ℕ) (rule : BlocksApart a B) (edit : OneEdit a a' (B i) b' new) where
  others : (j : ℕ) → (j ≡ i → ⊥) → OtherBlock a a' b' (B j)
  others j h = edit.other (B j) (rule.inside j) (rule.apart i j (λ e. h (sym e)))

  all-inside : (j : ℕ) → Inside a' (at B i b' j)
  all-inside j = go (ℕ_discrete j i)
    where
      go : Dec (j ≡ i) → Inside a' (at B i b' j)
      go (yes e) = rw (at_same B i b' j e) edit.inside
      go (no h) = rw (at_other B i b' j h) (record { below = omega (arith, (rule.inside j).below, (others j h).less, edit.grows) })

  all_apart : (j k : ℕ) → (j ≡ k → ⊥) → Apart a' (at B i b' j) (at B i b' k)
  all_apart j k d = go (ℕ_discrete j i) (ℕ_discrete k i)
    where
      go : Dec (j ≡ i) → Dec (k ≡ i) → Apart a' (at B i b' j) (at B i b' k)
      go (yes e) (yes f) = absurd (d (e ∙ sym f))
      go (yes e) (no h) = rw (at_same B i b' j e, at_other B i b' k h) (others k h).apart
      go (no h) (yes e) = rw (at_other B i b' j h, at_same B i b' k e) (apart-sym (others j h).apart)
      go (no h) (no g) =
          rw (at_other B i b' j h, at_other B i b' k g) (apart-less (others j h).less (others k g).less (rule.apart j k d))

  all-lists : (j : ℕ) → list_of a' (at B i b' j) ≡ at (λ (k : ℕ). list_of a (B k)) i new j
  all-lists j = go (ℕ_discrete j i)
    where
      go : Dec (j ≡ i) → list_of a' (at B i b' j) ≡ at (λ (k : ℕ). list_of a (B k)) i new j
      go (yes e) = rw (at_same B i b' j e, at_same (λ (k : ℕ). list_of a (B k)) i new j e) edit.list
      go (no h) = rw (at_other B i b' j h, at_other (λ (k : ℕ). list_of a (B k)) i new j h) (others j h).same

  pub edited : Edited a B i new a' b'
  edited =
      record {
        rule = record { shaped = edit.shaped; inside = all-inside; apart = all_apart };
        lists = all-lists;
        grows = edit.grows;
        limit = edit.limit;
        capacities = λ j h. (others j h).less;
      }

-- two edits of one owner's block are one
pub edited-edited : (a a₁ a₂ : Arena) (B : ℕ → Block) (i : ℕ) (l₁ l₂ : List ℕ) (b₁ b₂ : Block) → Edited a B i l₁ a₁ b₁ → Edited a₁ (at B i b₁) i l₂ a₂ b₂ → Edited a B i l₂ a₂ b₂
edited-edited a a₁ a₂ B i l₁ l₂ b₁ b₂ e f =
    record {
      rule = apart-ext a₂ (at (at B i b₁) i b₂) (at B i b₂) (at_at B i b₁ b₂) f.rule;
      lists = λ j.
          ap (list_of a₂) (sym (at_at B i b₁ b₂ j))
          ∙ f.lists j
          ∙ at-ext (λ (k : ℕ). list_of a₁ (at B i b₁ k)) i (at (λ (k : ℕ). list_of a (B k)) i l₁) l₂ j (e.lists j)
          ∙ at_at (λ (k : ℕ). list_of a (B k)) i l₁ l₂ j;
      grows = omega (arith, e.grows, f.grows);
      limit = f.limit ∙ e.limit;
      capacities = λ j h.
          omega (arith, e.capacities j h, rw (at_other B i b₁ j h) at (f.capacities j h));
    }
