-- Compaction: laying a list is an edit of its owner's block.
-- Assumes nothing.
use mathlib.Core.Path.{◌≡◌, refl, sym, ap, ◌∙◌}
use mathlib.Core.Bool.{Bool, true, false, ◌||◌, cond}
use mathlib.Core.List.{List, [], ◌∷◌}
use Prim.Native.Nat.{ℕ, ◌+◌, ◌≤◌, ◌<◌}
use native.Mathlib.Decide.{ℕ_discrete, dec_lt}
use native.Mathlib.Omega.{arith}
use lib.ListN.{length, get_or, replicate, length-replicate, get_or-replicate, get_or-eq_default}
use lib.Dec.{eqb}
use borrow.Author.Tests.{eq-eqb, ne_eqb}
use Rattle.words.specs.Parts.{put}
use Rattle.words.specs.Lists.{any}
use Rattle.words.proofs.Parts.{part-put-same, part-put-before, length-put}
use Rattle.blocks.specs.Arena.{Arena, Block, block, cap_of, list_of, laid}
use Rattle.blocks.specs.Rule.{empty_left, behind, BlocksApart, at, Edited}
use Rattle.blocks.specs.Compact.{NoRecords, cleared, Layout, lay_owner, lay_owners, lengths, Laid}
use Rattle.blocks.proofs.Capacities.{capacity-empty, capacity-some, capacity-least}
use Rattle.blocks.proofs.Apart.{edited}

pub cleared-none : (a : Arena) → NoRecords (cleared a)
cleared-none a = record { none = λ p. go p (dec_lt p (length a.ids)) }
  where
    go : (p : ℕ) → Dec (p < length a.ids) → get_or {A = ℕ} (replicate (length a.ids) 0) p 0 ≡ 0
    go p (yes h) = get_or-replicate (length a.ids) p 0 0 h
    go p (no h) = get_or-eq_default (replicate (length a.ids) 0) 0 (omega (arith, length-replicate {A = ℕ} (length a.ids) 0))

-- a block of a cleared arena is first (0, 0)
pub cleared-apart : (a : Arena) → BlocksApart (cleared a) (λ (i : ℕ). block 0 0)
cleared-apart a =
    record {
      shaped = record { fits = omega arith; paired = length-replicate (length a.ids) 0 };
      inside = λ i. record { below = omega arith };
      apart = λ i j h. empty_left refl;
    }

-- ---- one list laid

-- where no capacity is recorded a block is exactly full
pub exactly-full : (a : Arena) (b : Block) → NoRecords a → cap_of a b ≡ b.len
exactly-full a b none = go (ℕ_discrete b.len 0)
  where
    go : Dec (b.len ≡ 0) → cap_of a b ≡ b.len
    go (yes e) = capacity-empty a.caps b e ∙ sym e
    go (no h) = capacity-some a.caps b h ∙ omega (arith, none.none b.start)

pub lay-promise : (a : Arena) (B : ℕ → Block) (i : ℕ) (l : List ℕ) → BlocksApart a B → NoRecords a → a.used + length l ≤ length a.ids
    → Edited a B i l (laid a l).arena (laid a l).block
lay-promise a B i l rule none fit =
    let m : length (put a.used l a.ids) ≡ length a.ids = length-put a.ids a.used l fit in
    let full : cap_of (laid a l).arena (laid a l).block ≡ length l = exactly-full a (block a.used (length l)) none in
    edited a B i (laid a l).arena (laid a l).block l rule
    (record {
      shaped = record { fits = omega arith; paired = rule.shaped.paired ∙ sym m };
      list = part-put-same a.ids a.used l rule.shaped.fits;
      inside = record { below = omega arith };
      grows = omega arith;
      limit = m;
      other = λ c ic p.
          record {
            same =
                part-put-before a.ids a.used l c.start c.len
                (omega (arith, ic.below, capacity-least a.caps c)) rule.shaped.fits;
            less = omega arith;
            apart = behind (omega (arith, ic.below));
          };
    })

-- ---- the lists of owners laid in the order given

pub lay-owners : (lists : ℕ → List ℕ) (s : Layout) (order : List ℕ) → BlocksApart s.arena s.blocks → NoRecords s.arena
    → s.arena.used + lengths lists order ≤ length s.arena.ids → Laid lists s (lay_owners lists s order) order
unfolding lay_owners
lay-owners lists s [] rule none fit =
    record { rule = rule; records = none; shown = λ j. refl; used = omega arith; limit = refl }
lay-owners lists s (i ∷ order) rule none fit =
    let e = lay-promise s.arena s.blocks i (lists i) rule none (omega arith) in
    next e (lay-owners lists (lay_owner lists s i) order e.rule (record { none = none.none }) (omega (arith, e.limit)))
  where
    next : Edited s.arena s.blocks i (lists i) (lay_owner lists s i).arena (laid s.arena (lists i)).block
        → Laid lists (lay_owner lists s i) (lay_owners lists (lay_owner lists s i) order) order → Laid lists s (lay_owners lists (lay_owner lists s i) order) (i ∷ order)
    next e r =
        record {
          rule = r.rule;
          records = r.records;
          shown = λ j. r.shown j ∙ ap (cond (any (eqb j) order) (lists j)) (e.lists j) ∙ each j (ℕ_discrete j i) (any (eqb j) order);
          used = omega (arith, r.used);
          limit = r.limit ∙ e.limit;
        }
      where
        each : (j : ℕ) → Dec (j ≡ i) → (t : Bool)
            → cond t (lists j) (at (λ (k : ℕ). list_of s.arena (s.blocks k)) i (lists i) j) ≡ cond (eqb j i || t) (lists j) (list_of s.arena (s.blocks j))
        each j (yes q) true = rw (eq-eqb j i q)
        each j (yes q) false = rw (eq-eqb j i q, q)
        each j (no q) true = rw (ne_eqb j i q)
        each j (no q) false = rw (ne_eqb j i q)
