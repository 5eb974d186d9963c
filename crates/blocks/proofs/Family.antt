-- Families of blocks: first blocks, blocks given up, what an edit leaves owner by owner, and the family as the list that a document holds.
-- Assumes nothing.
use mathlib.Core.Path.{◌≡◌, refl, sym, ap, ◌∙◌}
use mathlib.Core.Bool.{cond}
use mathlib.Core.List.{List, [], map}
use Prim.Native.Nat.{ℕ, ◌≤◌, ◌<◌}
use native.Mathlib.Decide.{ℕ_discrete}
use native.Mathlib.Omega.{arith}
use lib.ListN.{length, get_or, set, length-set, length-map, get_or-map}
use lib.Seq.{get_or-set_same, get_or-set_other, ext_get_or}
use lib.Dec.{eqb}
use borrow.Author.Tests.{eq-eqb, ne_eqb}
use Rattle.words.proofs.Parts.{part_none}
use Rattle.blocks.specs.Arena.{Arena, Block, block, list_of, fresh_arena}
use Rattle.blocks.specs.Rule.{empty_left, BlocksApart, at, Edited}
use Rattle.blocks.proofs.Capacities.{capacity-empty}
use Rattle.blocks.proofs.Apart.{edited, at_same, at_other}

pub list-empty : (a : Arena) (b : Block) → b.len ≡ 0 → list_of a b ≡ []
list-empty a b e = rw e (part_none a.ids b.start)

-- "A block is (start, len) in an arena, first (0, 0)."
pub fresh-apart : (limit : ℕ) → BlocksApart (fresh_arena limit) (λ (i : ℕ). block 0 0)
fresh-apart limit =
    record {
      shaped = record { fits = omega arith; paired = refl };
      inside = λ i. record { below = omega arith };
      apart = λ i j h. empty_left refl;
    }

-- a block that is given up, as that of a freed node: any empty block within the arena may stand in its place
pub forget : (a : Arena) (B : ℕ → Block) (i : ℕ) (b : Block) → BlocksApart a B → b.len ≡ 0 → b.start ≤ a.used → Edited a B i [] a b
forget a B i b rule e h =
    edited a B i a b [] rule
    (record {
      shaped = rule.shaped;
      list = list-empty a b e;
      inside = record { below = omega (arith, capacity-empty a.caps b e) };
      grows = omega arith;
      limit = refl;
      other = λ c ic p. record { same = refl; less = omega arith; apart = empty_left e };
    })

-- ---- what an edit leaves, owner by owner

module _ (a : Arena) (B : ℕ → Block) (i : ℕ) (new : List ℕ) (a' : Arena) (b' : Block) (e : Edited a B i new a' b') where
  pub edited-list : list_of a' b' ≡ new
  edited-list =
      ap (list_of a') (sym (at_same B i b' i refl)) ∙ e.lists i ∙ at_same (λ (k : ℕ). list_of a (B k)) i new i refl

  pub edited-other : (j : ℕ) → (j ≡ i → ⊥) → list_of a' (B j) ≡ list_of a (B j)
  edited-other j h =
      ap (list_of a') (sym (at_other B i b' j h)) ∙ e.lists j ∙ at_other (λ (k : ℕ). list_of a (B k)) i new j h

-- ---- as a list

-- a store in the list is another value of the family
pub at_set : {A : Type 0} (l : List A) (i : ℕ) (x d : A) (j : ℕ) → i < length l → get_or (set l i x) j d ≡ at (λ (k : ℕ). get_or l k d) i x j
at_set l i x d j h = go (ℕ_discrete j i)
  where
    go : Dec (j ≡ i) → get_or (set l i x) j d ≡ at (λ (k : ℕ). get_or l k d) i x j
    go (yes e) = ap (λ (k : ℕ). get_or (set l i x) k d) e ∙ get_or-set_same l i x d h ∙ sym (rw (eq-eqb j i e))
    go (no g) = get_or-set_other l i j x d g ∙ sym (rw (ne_eqb j i g))

-- owners past the list have the first block
abbrev pub family : List Block → ℕ → Block
family bs i = get_or bs i (block 0 0)

-- the lists of all owners, read as one list: an edit is a store
pub lists-set : (a a' : Arena) (bs : List Block) (i : ℕ) (new : List ℕ) (b' : Block) → i < length bs → Edited a (family bs) i new a' b'
    → map (list_of a') (set bs i b') ≡ set (map (list_of a) bs) i new
lists-set a a' bs i new b' h e =
    ext_get_or [] (map (list_of a') (set bs i b')) (set (map (list_of a) bs) i new)
    (length-map (set bs i b') (list_of a') ∙ length-set bs i b' ∙ sym (length-set (map (list_of a) bs) i new ∙ length-map bs (list_of a)))
    (λ j g. left j ∙ e.lists j ∙ sym (right j))
  where
    left : (j : ℕ) → get_or (map (list_of a') (set bs i b')) j [] ≡ list_of a' (at (family bs) i b' j)
    left j =
        ap (get_or (map (list_of a') (set bs i b')) j) (sym (list-empty a' (block 0 0) refl))
        ∙ get_or-map (list_of a') (set bs i b') j (block 0 0)
        ∙ ap (list_of a') (at_set bs i b' (block 0 0) j h)

    each : (k : ℕ) → get_or (map (list_of a) bs) k [] ≡ list_of a (family bs k)
    each k =
        ap (get_or (map (list_of a) bs) k) (sym (list-empty a (block 0 0) refl)) ∙ get_or-map (list_of a) bs k (block 0 0)

    right : (j : ℕ) → get_or (set (map (list_of a) bs) i new) j [] ≡ at (λ (k : ℕ). list_of a (family bs k)) i new j
    right j =
        at_set (map (list_of a) bs) i new [] j (rw (length-map bs (list_of a)) h)
        ∙ ap (cond (eqb j i) new) (each j)
