-- Rule 5 is what the claims of its blocks decide, one after another.
-- Assumes nothing.
use mathlib.Core.Path.{◌≡◌, refl, sym, ap, ◌∙◌, subst}
use mathlib.Core.Bool.{true, false, false≢true}
use mathlib.Core.List.{List, [], ◌∷◌}
use Prim.Native.Nat.{ℕ, zero, suc, ◌+◌, ◌-◌, ◌≤◌, ◌<◌, max}
use native.Mathlib.Decide.{ℕ_discrete, dec_lt, dec_le}
use native.Mathlib.Omega.{arith}
use lib.ListN.{length, get_or, replicate, length-replicate, get_or-replicate, get_or-eq_default}
use lib.Dec.{eqb}
use borrow.Author.Tests.{eq-eqb, ne_eqb}
use Rattle.words.specs.Parts.{part, put}
use Rattle.words.specs.Lists.{all}
use Rattle.words.proofs.Parts.{get_or-part, length_part, length-put, get_or-put-before, get_or-put-after, part-put-same}
use Rattle.blocks.specs.Arena.{Arena, Block, cap_of}
use Rattle.blocks.specs.Rule.{Apart, empty_left, empty_right, before, behind, Shaped, BlocksApart}
use Rattle.blocks.specs.Claims.{ApartBefore, block_claimable, block_claimed, Covers, Marked}
use Rattle.blocks.proofs.Capacities.{capacity-least, capacity-empty}
use Rattle.blocks.proofs.Apart.{apart-sym}
use Rattle.blocks.proofs.Claimable.{claimable-within, claimable-fits, claimable-clear, claimed-met}

pub apart-all : (a : Arena) (B : ℕ → Block) → Shaped a → ((k : ℕ) → ApartBefore a B k) → BlocksApart a B
apart-all a B sh f =
    record {
      shaped = sh;
      inside = λ i. (f i).inside;
      apart = λ i j h. go i j h (dec_lt i j);
    }
  where
    go : (i j : ℕ) → (i ≡ j → ⊥) → Dec (i < j) → Apart a (B i) (B j)
    go i j h (yes l) = (f j).apart i l
    go i j h (no l) = apart-sym ((f i).apart j (omega arith))

pub apart-each : (a : Arena) (B : ℕ → Block) (k : ℕ) → BlocksApart a B → ApartBefore a B k
apart-each a B k r = record { inside = r.inside k; apart = λ i h. r.apart i k (λ e. omega arith) }

-- an owner without a list
pub apart-empty : (a : Arena) (B : ℕ → Block) (k : ℕ) → (B k).len ≡ 0 → (B k).start ≤ a.used → ApartBefore a B k
apart-empty a B k e h =
    record {
      inside = record { below = omega (arith, capacity-empty a.caps (B k) e) };
      apart = λ i l. empty_right e;
    }

-- ---- the marks

all-zero : (l : List ℕ) → ((i : ℕ) → i < length l → get_or l i 0 ≡ 0) → all (eqb 0) l ≡ true
all-zero [] h = refl
all-zero (x ∷ l) h = rw (eq-eqb 0 x (sym (h 0 (omega arith)))) (all-zero l (λ i g. h (suc i) (omega arith)))

zero-all : (l : List ℕ) → all (eqb 0) l ≡ true → (i : ℕ) → i < length l → get_or l i 0 ≡ 0
zero-all [] e i h = absurd (omega arith)
zero-all (x ∷ l) e i h = go (ℕ_discrete 0 x) (zero-all l) i h
  where
    go : Dec (0 ≡ x) → (all (eqb 0) l ≡ true → (j : ℕ) → j < length l → get_or l j 0 ≡ 0) → (i : ℕ) → i < suc (length l) → get_or (x ∷ l) i 0 ≡ 0
    go (yes q) ih zero g = sym q
    go (yes q) ih (suc j) g = ih (sym (rw (eq-eqb 0 x q)) ∙ e) j (omega arith)
    go (no q) ih j g = absurd (false≢true (sym (rw (ne_eqb 0 x q)) ∙ e))

-- no entry is in two blocks that are apart
apart-not : {a : Arena} {b c : Block} (p : ℕ) → Apart a b c → Covers a b p → Covers a c p → ⊥
apart-not {a} {b} {c} p (empty_left e) x y = omega (arith, x.low, x.high, capacity-empty a.caps b e)
apart-not {a} {b} {c} p (empty_right e) x y = omega (arith, y.low, y.high, capacity-empty a.caps c e)
apart-not p (before h) x y = omega (arith, x.high, y.low)
apart-not p (behind h) x y = omega (arith, y.high, x.low)

pub marked-none : (a : Arena) (B : ℕ → Block) → Marked a B 0 (replicate a.used 0)
marked-none a B =
    record {
      size = length-replicate a.used 0;
      outside = λ p h e i g. absurd (omega arith);
      clean = λ p h. go p (dec_lt p a.used);
    }
  where
    go : (p : ℕ) → Dec (p < a.used) → get_or {A = ℕ} (replicate a.used 0) p 0 ≡ 0
    go p (yes g) = get_or-replicate a.used p 0 0 g
    go p (no g) = get_or-eq_default (replicate a.used 0) 0 (omega (arith, length-replicate {A = ℕ} a.used 0))

module _ (a : Arena) (B : ℕ → Block) (k : ℕ) (m : List ℕ) (marks : Marked a B k m) where
  -- an owner without a list needs no claim
  pub marked_empty : (B k).len ≡ 0 → Marked a B (k + 1) m
  marked_empty e =
      record {
        size = marks.size;
        outside = λ p h z i g x. go p h z i g x (ℕ_discrete i k);
        clean = λ p h. marks.clean p (λ i g. h i (omega arith));
      }
    where
      go : (p : ℕ) → p < length m → get_or m p 0 ≡ 0 → (i : ℕ) → i < k + 1 → Covers a (B i) p → Dec (i ≡ k) → ⊥
      go p h z i g x (yes q) =
          let y : Covers a (B k) p = subst (λ (j : ℕ). Covers a (B j) p) q x in
          omega (arith, y.low, y.high, capacity-empty a.caps (B k) e)
      go p h z i g x (no q) = marks.outside p h z i (omega arith) x

  abbrev s : ℕ
  s = (B k).start

  abbrev n : ℕ
  n = cap_of a (B k)

  module _ (e : block_claimable a m (B k) ≡ true) where
    fit : s + n ≤ length m
    fit = claimable-fits m s n e

    -- the claim is met: the block lies inside, and apart from every one before
    pub apart-then : ApartBefore a B k
    apart-then =
        record {
          inside = record { below = omega (arith, fit, marks.size) };
          apart = λ i h. go i h (ℕ_discrete (B k).len 0) (ℕ_discrete (B i).len 0) (dec_le ((B i).start + cap_of a (B i)) s) (dec_le (s + n) (B i).start);
        }
      where
        both : (i p : ℕ) → i < k → Covers a (B i) p → Covers a (B k) p → ⊥
        both i p h x y =
            let z : get_or (part s n m) (p - s) 0 ≡ 0 = zero-all (part s n m) (claimable-clear m s n e) (p - s) (omega (arith, length_part m s n fit, y.low, y.high)) in
            let q : s + (p - s) ≡ p = omega (arith, y.low) in
            marks.outside p (omega (arith, y.high, fit))
            (ap (λ (j : ℕ). get_or m j 0) (sym q) ∙ sym (get_or-part m s n (p - s) 0 (omega (arith, y.low, y.high))) ∙ z) i h x

        go : (i : ℕ) → i < k → Dec ((B k).len ≡ 0) → Dec ((B i).len ≡ 0) → Dec ((B i).start + cap_of a (B i) ≤ s) → Dec (s + n ≤ (B i).start) → Apart a (B i) (B k)
        go i h (yes z) u v w = empty_right z
        go i h (no z) (yes u) v w = empty_left u
        go i h (no z) (no u) (yes v) w = before v
        go i h (no z) (no u) (no v) (yes w) = behind w
        go i h (no z) (no u) (no v) (no w) =
            absurd (both i (max (B i).start s) h
            (record { low = omega arith; high = omega (arith, capacity-least a.caps (B i)) })
            (record { low = omega arith; high = omega (arith, capacity-least a.caps (B k)) }))

    m' : List ℕ
    m' = put s (replicate n 1) m

    claimed-at : (p : ℕ) → s ≤ p → p < s + n → get_or m' p 0 ≡ 1
    unfolding m'
    claimed-at p l h =
        let q : s + (p - s) ≡ p = omega arith in
        let same : part s n m' ≡ replicate n 1 =
        ap (λ (j : ℕ). part s j m') (sym (length-replicate n 1)) ∙ part-put-same m s (replicate n 1) (omega (arith, fit)) in
        ap (λ (j : ℕ). get_or m' j 0) (sym q)
        ∙ sym (get_or-part m' s n (p - s) 0 (omega arith))
        ∙ ap (λ (r : List ℕ). get_or r (p - s) 0) same
        ∙ get_or-replicate n (p - s) 1 0 (omega arith)

    claimed-elsewhere : (p : ℕ) → (Covers a (B k) p → ⊥) → get_or m' p 0 ≡ get_or m p 0
    unfolding m'
    claimed-elsewhere p h = go (dec_lt p s) (dec_lt p (s + n))
      where
        go : Dec (p < s) → Dec (p < s + n) → get_or m' p 0 ≡ get_or m p 0
        go (yes l) u = get_or-put-before m s (replicate n 1) p 0 l (omega (arith, fit))
        go (no l) (yes u) = absurd (h (record { low = omega arith; high = u }))
        go (no l) (no u) = get_or-put-after m s (replicate n 1) p 0 (omega (arith, length-replicate {A = ℕ} n 1)) (omega (arith, fit))

    claimed-length : length m' ≡ length m
    unfolding m'
    claimed-length = length-put m s (replicate n 1) (omega (arith, length-replicate {A = ℕ} n 1, fit))

    -- and its entries are among the marks
    pub marked_more : Marked a B (k + 1) (block_claimed a m (B k))
    unfolding m'
    marked_more =
        rw (claimed-met m s n e)
        (record {
          size = claimed-length ∙ marks.size;
          outside = λ p h z i g x. go p h z i g x (dec_lt p s) (dec_lt p (s + n));
          clean = λ p h. claimed-elsewhere p (h k (omega arith)) ∙ marks.clean p (λ i g. h i (omega arith));
        })
      where
        earlier : (p i : ℕ) → p < length m → get_or m' p 0 ≡ 0 → i < k + 1 → Covers a (B i) p → (Covers a (B k) p → ⊥) → Dec (i ≡ k) → ⊥
        earlier p i h z g x o (yes q) = o (subst (λ (j : ℕ). Covers a (B j) p) q x)
        earlier p i h z g x o (no q) = marks.outside p h (sym (claimed-elsewhere p o) ∙ z) i (omega arith) x

        go : (p : ℕ) → p < length m' → get_or m' p 0 ≡ 0 → (i : ℕ) → i < k + 1 → Covers a (B i) p → Dec (p < s) → Dec (p < s + n) → ⊥
        go p h z i g x (yes l) u = earlier p i (omega (arith, claimed-length)) z g x (λ y. omega (arith, y.low)) (ℕ_discrete i k)
        go p h z i g x (no l) (yes u) = omega (arith, claimed-at p (omega arith) u)
        go p h z i g x (no l) (no u) = earlier p i (omega (arith, claimed-length)) z g x (λ y. omega (arith, y.high)) (ℕ_discrete i k)

  -- a block that lies inside and apart from those before is claimed
  pub claim-apart : ApartBefore a B k → block_claimable a m (B k) ≡ true
  claim-apart f =
      let within : s + n ≤ length m = omega (arith, f.inside.below, marks.size) in
      sym (claimable-within m s n within true
      (sym (all-zero (part s n m) (λ i g. clear within i (omega (arith, length_part m s n within))))))
    where
      clear : s + n ≤ length m → (i : ℕ) → i < n → get_or (part s n m) i 0 ≡ 0
      clear within i g =
          get_or-part m s n i 0 g
          ∙ marks.clean (s + i) (λ j l x. apart-not (s + i) (f.apart j l) x (record { low = omega arith; high = omega arith }))

  -- the claim is refused: the block does not lie so
  pub clash : block_claimable a m (B k) ≡ false → ApartBefore a B k → ⊥
  clash e f = false≢true (sym e ∙ claim-apart f)
