-- Laws of decoding: what a pass over a text has left at an index, and what its step knows.
-- Assumes nothing.
use mathlib.Core.Path.{◌≡◌, refl, sym, ap, subst, ◌∙◌}
use mathlib.Core.Logic.{◌⊎◌, ⊎_elim, inl, inr}
use mathlib.Core.List.{List, [], ◌∷◌}
use Prim.Native.Nat.{ℕ, zero, suc, ◌+◌, ◌≤◌, ◌<◌}
use native.Mathlib.Nat.{add-zero}
use native.Mathlib.Decide.{dec_lt}
use native.Mathlib.Omega.{arith}
use lib.ListN.{length, get_or, drop, drop_of_length-le, get_or-eq_default}
use lib.Seq.{drop-cons, get_or-drop, drop-drop}
use Rattle.std.specs.Prelude.{Some, None, Option}
use Rattle.chars.specs.declared.Point.{Point}
use Rattle.chars.specs.Utf8.{Step, step, step_at, follows, and_then, decode_after, decode}
use Rattle.chars.proofs.Rows.{Known, by_rows}

-- skipping is dropping
after-drop : (n : ℕ) (l : List ℕ) → decode_after n l ≡ decode_after 0 (drop n l)
after-drop zero [] = refl
after-drop (suc n) [] = refl
after-drop zero (a ∷ l) = refl
after-drop (suc n) (a ∷ l) = after-drop n l

pub step_at-drop : (l : List ℕ) (i : ℕ) → step_at (drop i l) 0 ≡ step_at l i
unfolding step_at
step_at-drop l i = rw (get_or-drop i l 0 0, get_or-drop i l (0 + 1) 0, get_or-drop i l (0 + 2) 0, get_or-drop i l (0 + 3) 0, add-zero i)

and_then-same : (s : Step) (f g : ℕ → Option (List ℕ)) → ((n : ℕ) → f n ≡ g n) → and_then s f ≡ and_then s g
and_then-same (Some p) f g h = ap (follows p.code) (h p.more)
and_then-same None f g h = refl

pub decode-cons : (a : ℕ) (l : List ℕ) → decode (a ∷ l) ≡ and_then (step_at (a ∷ l) 0) (λ (n : ℕ). decode (drop n l))
unfolding decode
decode-cons a l = and_then-same (step_at (a ∷ l) 0) (λ (n : ℕ). decode_after n l) (λ (n : ℕ). decode_after 0 (drop n l)) (λ n. after-drop n l)

past : (l : List ℕ) (i n : ℕ) → drop n (drop (suc i) l) ≡ drop (i + 1 + n) l
past l i n =
    let e : suc i + n ≡ i + 1 + n = omega arith in
    drop-drop n (suc i) l ∙ ap (λ (k : ℕ). drop k l) e

-- what is left at an index: the step there, and what is left past it
pub decode-step : (l : List ℕ) (i : ℕ) → i < length l → decode (drop i l) ≡ and_then (step_at l i) (λ (n : ℕ). decode (drop (i + 1 + n) l))
decode-step l i h =
    ap decode (drop-cons l i 0 h)
    ∙ decode-cons (get_or l i 0) (drop (suc i) l)
    ∙ ap (λ (s : Step). and_then s (λ (n : ℕ). decode (drop n (drop (suc i) l)))) (ap (λ (r : List ℕ). step_at r 0) (sym (drop-cons l i 0 h)) ∙ step_at-drop l i)
    ∙ and_then-same (step_at l i) (λ (n : ℕ). decode (drop n (drop (suc i) l))) (λ (n : ℕ). decode (drop (i + 1 + n) l)) (λ n. ap decode (past l i n))

pub decode-end : (l : List ℕ) (i : ℕ) → length l ≤ i → decode (drop i l) ≡ Some []
unfolding decode
decode-end l i h = rw (drop_of_length-le l {i = i} h)

pub decode-point : (l : List ℕ) (i : ℕ) (p : Point) → i < length l → step_at l i ≡ Some p
    → decode (drop i l) ≡ follows p.code (decode (drop (i + 1 + p.more) l))
decode-point l i p h e = decode-step l i h ∙ ap (λ (s : Step). and_then s (λ (n : ℕ). decode (drop (i + 1 + n) l))) e

pub decode-bad : (l : List ℕ) (i : ℕ) → i < length l → step_at l i ≡ None → decode (drop i l) ≡ None
decode-bad l i h e = decode-step l i h ∙ ap (λ (s : Step). and_then s (λ (n : ℕ). decode (drop (i + 1 + n) l))) e

-- ---- what a step that finds a code point knows of its code point

-- the last number that a code point takes
abbrev last : ℕ → ℕ → ℕ → ℕ → ℕ → ℕ
last a b c d more = get_or (a ∷ b ∷ c ∷ d ∷ []) more 0

pub record Spelled (a b c d code more : ℕ) : Type 0 where
  -- at most three numbers after the first, and the last of them is no 0 that stands past the end
  pub few : more ≤ 3
  pub there : (more ≡ 0) ⊎ (0 < last a b c d more)
  -- what is no ASCII byte begins no ASCII character
  pub high : 0x80 ≤ a → 0x80 ≤ code
  -- a Unicode scalar value: no surrogate, nothing above U+10FFFF
  pub scalar : (code < 0xD800) ⊎ ((0xE000 ≤ code) × (code ≤ 0x10FFFF))

pub sound : (a b c d : ℕ) → Known (Spelled a b c d) (step a b c d)
sound a b c d =
    by_rows a b c d (Spelled a b c d)
    (λ h. record { few = omega arith; there = inl refl; high = λ k. omega arith; scalar = inl (omega arith) })
    (λ t. record { few = omega arith; there = inr (omega arith); high = λ k. omega arith; scalar = inl (omega arith) })
    (λ t. record { few = omega arith; there = inr (omega arith); high = λ k. omega arith; scalar = ⊎_elim (λ s. inl s) (λ s. inr (s, omega arith)) t.scalar })
    (λ t. record { few = omega arith; there = inr (omega arith); high = λ k. omega arith; scalar = inr (omega arith) })

-- what is not 0 is no number past the end
within : (l : List ℕ) (k : ℕ) → 0 < get_or l k 0 → k < length l
within l k h = go (dec_lt k (length l))
  where
    go : Dec (k < length l) → k < length l
    go (yes q) = q
    go (no q) =
        let e : get_or l k 0 ≡ 0 = get_or-eq_default l 0 (omega arith) in
        absurd (omega arith)

-- the numbers that a code point takes are in the text
pub taken : (l : List ℕ) (i : ℕ) (p : Point) → i < length l → step_at l i ≡ Some p → i + p.more < length l
unfolding step_at
taken l i p h e = go p.more s.few s.there
  where
    s : Spelled (get_or l i 0) (get_or l (i + 1) 0) (get_or l (i + 2) 0) (get_or l (i + 3) 0) p.code p.more
    s = subst (Known (Spelled (get_or l i 0) (get_or l (i + 1) 0) (get_or l (i + 2) 0) (get_or l (i + 3) 0))) e (sound (get_or l i 0) (get_or l (i + 1) 0) (get_or l (i + 2) 0) (get_or l (i + 3) 0))

    go : (more : ℕ) → more ≤ 3 → (more ≡ 0) ⊎ (0 < last (get_or l i 0) (get_or l (i + 1) 0) (get_or l (i + 2) 0) (get_or l (i + 3) 0) more) → i + more < length l
    go more f (inl z) = omega arith
    go zero f (inr z) = omega arith
    go (suc zero) f (inr z) = within l (i + 1) z
    go (suc (suc zero)) f (inr z) = within l (i + 2) z
    go (suc (suc (suc zero))) f (inr z) = within l (i + 3) z
    go (suc (suc (suc (suc more)))) f (inr z) = absurd (omega arith)
