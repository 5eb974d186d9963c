-- Every Unicode scalar value comes back from its bytes, whatever follows them, and bytes that spell a text are the bytes of its code points.
-- Assumes nothing.
use mathlib.Core.Path.{◌≡◌, refl, sym, ap, ◌∙◌}
use mathlib.Core.Bool.{Bool, true, ◌&&◌, and-false, false≢true}
use mathlib.Core.Logic.{◌⊎◌, inl, inr}
use mathlib.Core.List.{List, [], ◌∷◌, ◌++◌}
use Prim.Native.Nat.{ℕ, zero, suc, ◌+◌, ◌-◌, ◌*◌, ◌/◌, ◌%◌, ◌≤◌, ◌<◌}
use native.Mathlib.Decide.{dec_lt}
use native.Mathlib.Omega.{arith}
use lib.Dec.{leb}
use lib.ListN.{length, get_or, take, drop, length-drop, take-append-drop}
use borrow.Author.Tests.{le-leb, lt-ltb, le-ltb}
use Rattle.words.specs.Lists.{all, joined}
use Rattle.std.specs.Prelude.{Some, None, Option}
use Rattle.chars.specs.Productions.{within}
use Rattle.chars.specs.Utf8.{Step, point, two, three, four, rows, step, step_at, follows, and_then, decode, encode}
use Rattle.chars.proofs.Steps.{stands, row_step, by_row}
use Rattle.chars.proofs.Rows.{Known, two-code, three-code, four-code, Four, by_rows}
use Rattle.chars.proofs.Decoding.{decode-cons}
use Rattle.chars.proofs.Ascii.{decode-ascii}

is_within : (x l h : ℕ) → l ≤ x → x ≤ h → within x (l, h) ≡ true
unfolding within
is_within x l h a b = rw (le-leb l x a, le-leb x h b)

-- a step's code point stands first
module _ (code : ℕ) (l : List ℕ) where
  after_two : (a b : ℕ) → step a b (get_or l 0 0) (get_or l 1 0) ≡ point code 1 → decode (a ∷ b ∷ l) ≡ follows code (decode l)
  unfolding step_at
  after_two a b e = decode-cons a (b ∷ l) ∙ ap (λ (s : Step). and_then s (λ (n : ℕ). decode (drop n (b ∷ l)))) e

  after-three : (a b c : ℕ) → step a b c (get_or l 0 0) ≡ point code 2 → decode (a ∷ b ∷ c ∷ l) ≡ follows code (decode l)
  unfolding step_at
  after-three a b c e = decode-cons a (b ∷ c ∷ l) ∙ ap (λ (s : Step). and_then s (λ (n : ℕ). decode (drop n (b ∷ c ∷ l)))) e

  after-four : (a b c d : ℕ) → step a b c d ≡ point code 3 → decode (a ∷ b ∷ c ∷ d ∷ l) ≡ follows code (decode l)
  unfolding step_at
  after-four a b c d e = decode-cons a (b ∷ c ∷ d ∷ l) ∙ ap (λ (s : Step). and_then s (λ (n : ℕ). decode (drop n (b ∷ c ∷ d ∷ l)))) e

-- ---- the row of each range of code points

two-point : (code a b c d : ℕ) → 0xC2 ≤ a → a ≤ 0xDF → 0x80 ≤ b → b ≤ 0xBF → code ≡ (a - 0xC0) * 64 + (b - 0x80) → step a b c d ≡ point code 1
unfolding two
two-point code a b c d a₀ a₁ b₀ b₁ e = sym (by_row 0xC2 0xDF 1 a b c d (point code 1) a₀ a₁ refl spelled)
  where
    spelled : point code 1 ≡ two a b
    spelled = rw (is_within b 0x80 0xBF b₀ b₁, e)

-- row k, the first byte within x and y, the second within l and h
module _ (x y k l h code a b c d : ℕ) where
  three-point : (x ≤ a) × (a ≤ y) × (l ≤ b) × (b ≤ h) × (0x80 ≤ c) × (c ≤ 0xBF) × (code ≡ ((a - 0xE0) * 64 + (b - 0x80)) * 64 + (c - 0x80))
      → stands x y k (rows a b c d) ≡ true → three (l, h) a b c ≡ row_step k (rows a b c d) → step a b c d ≡ point code 2
  unfolding three
  three-point f s r = sym (by_row x y k a b c d (point code 2) f.0 f.1 s (spelled ∙ r))
    where
      spelled : point code 2 ≡ three (l, h) a b c
      spelled = rw (is_within b l h f.2 f.3, is_within c 0x80 0xBF f.4 f.5, f.6)

  four-point : (x ≤ a) × (a ≤ y) × (l ≤ b) × (b ≤ h) × (0x80 ≤ c) × (c ≤ 0xBF) × (0x80 ≤ d) × (d ≤ 0xBF)
      × (code ≡ (((a - 0xF0) * 64 + (b - 0x80)) * 64 + (c - 0x80)) * 64 + (d - 0x80))
      → stands x y k (rows a b c d) ≡ true → four (l, h) a b c d ≡ row_step k (rows a b c d) → step a b c d ≡ point code 3
  unfolding four
  four-point f s r = sym (by_row x y k a b c d (point code 3) f.0 f.1 s (spelled ∙ r))
    where
      spelled : point code 3 ≡ four (l, h) a b c d
      spelled = rw (is_within b l h f.2 f.3, is_within c 0x80 0xBF f.4 f.5, is_within d 0x80 0xBF f.6 f.7, f.8)

module _ (c : ℕ) (l : List ℕ) where
  Back : Type 0
  Back = decode (encode c ++ l) ≡ follows c (decode l)

  back_one : c < 0x80 → Back
  unfolding Back encode
  back_one h = rw (lt-ltb c 0x80 h) (decode-ascii c l h)

  back-two : 0x80 ≤ c → c < 0x800 → Back
  unfolding Back encode
  back-two h k =
      rw (le-ltb c 0x80 h, lt-ltb c 0x800 k)
      (after_two c l (0xC0 + c / 64) (0x80 + c % 64) (two-point c _ _ _ _ (omega arith) (omega arith) (omega arith) (omega arith) (omega arith)))

  three-step : ℕ → Type 0
  three-step d = step (0xE0 + c / 64 / 64) (0x80 + c / 64 % 64) (0x80 + c % 64) d ≡ point c 2

  back-three : 0x800 ≤ c → c < 0x10000 → three-step (get_or l 0 0) → Back
  unfolding Back encode three-step
  back-three h k e =
      rw (le-ltb c 0x80 (omega arith), le-ltb c 0x800 h, lt-ltb c 0x10000 k) (after-three c l (0xE0 + c / 64 / 64) (0x80 + c / 64 % 64) (0x80 + c % 64) e)

  step-three : (d : ℕ) → 0x800 ≤ c → c < 0x10000 → (c < 0xD800) ⊎ (0xE000 ≤ c) → three-step d
  unfolding three-step
  step-three d h k s = go (dec_lt c 0x1000) (dec_lt c 0xD000) s
    where
      go : Dec (c < 0x1000) → Dec (c < 0xD000) → (c < 0xD800) ⊎ (0xE000 ≤ c) → three-step d
      go (yes p) q s = three-point 0xE0 0xE0 2 0xA0 0xBF c _ _ _ d (omega arith) refl refl
      go (no p) (yes q) s = three-point 0xE1 0xEC 3 0x80 0xBF c _ _ _ d (omega arith) refl refl
      go (no p) (no q) (inl s) = three-point 0xED 0xED 4 0x80 0x9F c _ _ _ d (omega arith) refl refl
      go (no p) (no q) (inr s) = three-point 0xEE 0xEF 5 0x80 0xBF c _ _ _ d (omega arith) refl refl

  four-step : Type 0
  four-step = step (0xF0 + c / 64 / 64 / 64) (0x80 + c / 64 / 64 % 64) (0x80 + c / 64 % 64) (0x80 + c % 64) ≡ point c 3

  back-four : 0x10000 ≤ c → four-step → Back
  unfolding Back encode four-step
  back-four h e =
      rw (le-ltb c 0x80 (omega arith), le-ltb c 0x800 (omega arith), le-ltb c 0x10000 h)
      (after-four c l (0xF0 + c / 64 / 64 / 64) (0x80 + c / 64 / 64 % 64) (0x80 + c / 64 % 64) (0x80 + c % 64) e)

  step-four : 0x10000 ≤ c → c ≤ 0x10FFFF → four-step
  unfolding four-step
  step-four h k = go (dec_lt c 0x40000) (dec_lt c 0x100000)
    where
      go : Dec (c < 0x40000) → Dec (c < 0x100000) → four-step
      go (yes p) q = four-point 0xF0 0xF0 6 0x90 0xBF c _ _ _ _ (omega arith) refl refl
      go (no p) (yes q) = four-point 0xF1 0xF3 7 0x80 0xBF c _ _ _ _ (omega arith) refl refl
      go (no p) (no q) = four-point 0xF4 0xF4 8 0x80 0x8F c _ _ _ _ (omega arith) refl refl

  pub decode-encode : (c < 0xD800) ⊎ ((0xE000 ≤ c) × (c ≤ 0x10FFFF)) → decode (encode c ++ l) ≡ follows c (decode l)
  unfolding Back
  decode-encode s = go (dec_lt c 0x80) (dec_lt c 0x800) (dec_lt c 0x10000)
    where
      high : (c < 0xD800) ⊎ ((0xE000 ≤ c) × (c ≤ 0x10FFFF)) → (c < 0xD800) ⊎ (0xE000 ≤ c)
      high (inl p) = inl p
      high (inr p) = inr p.0

      top : (c < 0xD800) ⊎ ((0xE000 ≤ c) × (c ≤ 0x10FFFF)) → c ≤ 0x10FFFF
      top (inl p) = omega arith
      top (inr p) = p.1

      go : Dec (c < 0x80) → Dec (c < 0x800) → Dec (c < 0x10000) → Back
      go (yes p) q r = back_one p
      go (no p) (yes q) r = back-two (omega arith) q
      go (no p) (no q) (yes r) = back-three (omega arith) r (step-three (get_or l 0 0) (omega arith) r (high s))
      go (no p) (no q) (no r) = back-four (omega arith) (step-four (omega arith) (top s))

-- ---- what was decoded is encoded so: no other form of a code point is accepted

encode-two : (e a b : ℕ) → (0x80 ≤ e) × (e < 0x800) × (0xC0 + e / 64 ≡ a) × (0x80 + e % 64 ≡ b) → encode e ≡ a ∷ b ∷ []
unfolding encode
encode-two e a b f = rw (le-ltb e 0x80 f.0, lt-ltb e 0x800 f.1, f.2, f.3)

encode-three : (e a b c : ℕ) → (0x800 ≤ e) × (e < 0x10000) × (0xE0 + e / 64 / 64 ≡ a) × (0x80 + e / 64 % 64 ≡ b) × (0x80 + e % 64 ≡ c)
    → encode e ≡ a ∷ b ∷ c ∷ []
unfolding encode
encode-three e a b c f = rw (le-ltb e 0x80 (omega arith), le-ltb e 0x800 f.0, lt-ltb e 0x10000 f.1, f.2, f.3, f.4)

encode-four : (e a b c d : ℕ)
    → (0x10000 ≤ e) × (0xF0 + e / 64 / 64 / 64 ≡ a) × (0x80 + e / 64 / 64 % 64 ≡ b) × (0x80 + e / 64 % 64 ≡ c) × (0x80 + e % 64 ≡ d)
    → encode e ≡ a ∷ b ∷ c ∷ d ∷ []
unfolding encode
encode-four e a b c d f = rw (le-ltb e 0x80 (omega arith), le-ltb e 0x800 (omega arith), le-ltb e 0x10000 f.0, f.1, f.2, f.3, f.4)

-- the digits of a number to the base 64
module _ (x y z w : ℕ) (hy : y < 64) (hz : z < 64) (hw : w < 64) where
  first-cut : (((x * 64 + y) * 64 + z) * 64 + w) / 64 ≡ (x * 64 + y) * 64 + z
  first-cut = omega arith

  second-cut : ((x * 64 + y) * 64 + z) / 64 ≡ x * 64 + y
  second-cut = omega arith

  digits : ((((x * 64 + y) * 64 + z) * 64 + w) / 64 / 64 / 64 ≡ x) × ((((x * 64 + y) * 64 + z) * 64 + w) / 64 / 64 % 64 ≡ y)
      × ((((x * 64 + y) * 64 + z) * 64 + w) / 64 % 64 ≡ z) × ((((x * 64 + y) * 64 + z) * 64 + w) % 64 ≡ w)
  digits = (rw (first-cut, second-cut) (omega arith), rw (first-cut, second-cut) (omega arith), rw first-cut (omega arith), omega arith)

four_bytes : (a b c d : ℕ) → Four a b c d → encode (four-code a b c d) ≡ a ∷ b ∷ c ∷ d ∷ []
four_bytes a b c d t =
    let g = digits (a - 0xF0) (b - 0x80) (c - 0x80) (d - 0x80) (omega arith) (omega arith) (omega arith) in
    encode-four (four-code a b c d) a b c d (
      t.least,
      ap (λ (n : ℕ). 0xF0 + n) g.0 ∙ back 0xF0 a t.first.0,
      ap (λ (n : ℕ). 0x80 + n) g.1 ∙ back 0x80 b t.second.0,
      ap (λ (n : ℕ). 0x80 + n) g.2 ∙ back 0x80 c t.third.0,
      ap (λ (n : ℕ). 0x80 + n) g.3 ∙ back 0x80 d t.fourth.0,
    )
  where
    back : (k n : ℕ) → k ≤ n → k + (n - k) ≡ n
    back k n h = omega arith

-- the numbers that a step took are the bytes of its code point, and those after the first are no 0 that stands past the end
record Encoded (a b c d code more : ℕ) : Type 0 where
  few : more ≤ 3
  bytes : encode code ≡ take (suc more) (a ∷ b ∷ c ∷ d ∷ [])
  tails : all (leb 0x80) (take more (b ∷ c ∷ d ∷ [])) ≡ true

encoded : (a b c d : ℕ) → Known (Encoded a b c d) (step a b c d)
unfolding encode
encoded a b c d =
    by_rows a b c d (Encoded a b c d)
    (λ h. record { few = omega arith; bytes = rw (lt-ltb a 0x80 (omega arith)); tails = refl })
    (λ t. record { few = omega arith; bytes = encode-two (two-code a b) a b (omega arith); tails = rw (le-leb 0x80 b t.second.0) })
    (λ t. record { few = omega arith; bytes = encode-three (three-code a b c) a b c (omega arith); tails = rw (le-leb 0x80 b t.second.0, le-leb 0x80 c t.third.0) })
    (λ t. record { few = omega arith; bytes = four_bytes a b c d t; tails = rw (le-leb 0x80 b t.second.0, le-leb 0x80 c t.third.0, le-leb 0x80 d t.fourth.0) })

abbrev heads : List ℕ → List ℕ
heads b = get_or b 0 0 ∷ get_or b 1 0 ∷ get_or b 2 0 ∷ []

there : (more : ℕ) → more ≤ 3 → (b : List ℕ) → all (leb 0x80) (take more (heads b)) ≡ true → take more (heads b) ≡ take more b
there zero h b t = refl
there (suc zero) h [] t = absurd (false≢true t)
there (suc zero) h (x ∷ b) t = refl
there (suc (suc zero)) h [] t = absurd (false≢true t)
there (suc (suc zero)) h (x ∷ []) t = absurd (false≢true (sym (and-false (leb 0x80 x)) ∙ t))
there (suc (suc zero)) h (x ∷ y ∷ b) t = refl
there (suc (suc (suc zero))) h [] t = absurd (false≢true t)
there (suc (suc (suc zero))) h (x ∷ []) t = absurd (false≢true (sym (and-false (leb 0x80 x)) ∙ t))
there (suc (suc (suc zero))) h (x ∷ y ∷ []) t =
    absurd (false≢true (sym (ap (λ (s : Bool). leb 0x80 x && s) (and-false (leb 0x80 y)) ∙ and-false (leb 0x80 x)) ∙ t))
there (suc (suc (suc zero))) h (x ∷ y ∷ z ∷ b) t = refl
there (suc (suc (suc (suc more)))) h b t = absurd (omega arith)

encoded-at : (a : ℕ) (b : List ℕ) → Known (Encoded a (get_or b 0 0) (get_or b 1 0) (get_or b 2 0)) (step_at (a ∷ b) 0)
unfolding step_at
encoded-at a b = encoded a (get_or b 0 0) (get_or b 1 0) (get_or b 2 0)

-- of lists up to a length
abbrev Unique : ℕ → Type 0
Unique n = (b l : List ℕ) → length b ≤ n → decode b ≡ Some l → joined encode l ≡ b

no_bytes : (l : List ℕ) → decode [] ≡ Some l → joined encode l ≡ []
unfolding decode
no_bytes l e =
    let q : l ≡ [] = cc in
    ap (joined encode) q

longer : (n : ℕ) → Unique n → Unique (suc n)
longer n shorter [] l h e = no_bytes l e
longer n shorter (a ∷ b) l h e = go (step_at (a ∷ b) 0) (encoded-at a b) (sym (decode-cons a b) ∙ e) (λ m k. shorter (drop m b) k (simp length-drop (omega arith)))
  where
    go : (s : Step) → Known (Encoded a (get_or b 0 0) (get_or b 1 0) (get_or b 2 0)) s → and_then s (λ (m : ℕ). decode (drop m b)) ≡ Some l
        → ((m : ℕ) (k : List ℕ) → decode (drop m b) ≡ Some k → joined encode k ≡ drop m b) → joined encode l ≡ a ∷ b
    go None k f ih =
        let z : ◌≡◌ {A = ℕ} 0 1 = cc in
        absurd (omega arith)
    go (Some p) k f ih = past (decode (drop p.more b)) f (ih p.more)
      where
        past : (o : Option (List ℕ)) → follows p.code o ≡ Some l → ((m : List ℕ) → o ≡ Some m → joined encode m ≡ drop p.more b) → joined encode l ≡ a ∷ b
        past None f ih =
            let z : ◌≡◌ {A = ℕ} 0 1 = cc in
            absurd (omega arith)
        past (Some m) f ih =
            let q : l ≡ p.code ∷ m = cc in
            ap (joined encode) q
            ∙ ap (λ (r : List ℕ). r ++ joined encode m) (k.bytes ∙ ap (λ (r : List ℕ). a ∷ r) (there p.more k.few b k.tails))
            ∙ ap (λ (r : List ℕ). a ∷ (take p.more b ++ r)) (ih m refl)
            ∙ ap (λ (r : List ℕ). a ∷ r) (take-append-drop p.more b)

shortest : Unique 0
shortest [] l h e = no_bytes l e
shortest (a ∷ b) l h e = absurd (omega arith)

unique : (n : ℕ) → Unique n
unique zero = shortest
unique (suc n) = longer n (unique n)

-- bytes that spell a text are the bytes of its code points
pub encode-decode : (b l : List ℕ) → decode b ≡ Some l → joined encode l ≡ b
encode-decode b l e = unique (length b) b l (omega arith) e
