-- What a step that is not bad knows of its numbers: one case for each length of a sequence.
-- Assumes nothing.
use mathlib.Core.Path.{◌≡◌, refl}
use mathlib.Core.Bool.{Bool, true, false, ◌&&◌, cond}
use mathlib.Core.Logic.{◌⊎◌, inl, inr}
use Prim.Native.Nat.{ℕ, ◌+◌, ◌-◌, ◌*◌, ◌≤◌, ◌<◌}
use native.Mathlib.Omega.{arith}
use Rattle.std.specs.Prelude.{Some, None}
use Rattle.chars.specs.Productions.{within}
use Rattle.chars.specs.Utf8.{Step, point, is_tail, two, three, four, step}
use Rattle.chars.proofs.Steps.{bounds}

abbrev pub Known : (ℕ → ℕ → Type 0) → Step → Type 0
Known P (Some p) = P p.code p.more
Known P None = Unit {0}

choose : (P : ℕ → ℕ → Type 0) (w : Bool) (s t : Step) → (w ≡ true → Known P s) → Known P t → Known P (cond w s t)
choose P true s t f g = f refl
choose P false s t f g = g

abbrev pub two-code : ℕ → ℕ → ℕ
two-code a b = (a - 0xC0) * 64 + (b - 0x80)

abbrev pub three-code : ℕ → ℕ → ℕ → ℕ
three-code a b c = ((a - 0xE0) * 64 + (b - 0x80)) * 64 + (c - 0x80)

abbrev pub four-code : ℕ → ℕ → ℕ → ℕ → ℕ
four-code a b c d = (((a - 0xF0) * 64 + (b - 0x80)) * 64 + (c - 0x80)) * 64 + (d - 0x80)

pub record Two (a b : ℕ) : Type 0 where
  pub first : (0xC2 ≤ a) × (a ≤ 0xDF)
  pub second : (0x80 ≤ b) × (b ≤ 0xBF)

pub record Three (a b c : ℕ) : Type 0 where
  pub first : (0xE0 ≤ a) × (a ≤ 0xEF)
  pub second : (0x80 ≤ b) × (b ≤ 0xBF)
  pub third : (0x80 ≤ c) × (c ≤ 0xBF)
  -- no overlong form, and no surrogate
  pub least : 0x800 ≤ three-code a b c
  pub scalar : (three-code a b c < 0xD800) ⊎ (0xE000 ≤ three-code a b c)

pub record Four (a b c d : ℕ) : Type 0 where
  pub first : (0xF0 ≤ a) × (a ≤ 0xF4)
  pub second : (0x80 ≤ b) × (b ≤ 0xBF)
  pub third : (0x80 ≤ c) × (c ≤ 0xBF)
  pub fourth : (0x80 ≤ d) × (d ≤ 0xBF)
  -- no overlong form, and nothing above U+10FFFF
  pub least : 0x10000 ≤ four-code a b c d
  pub most : four-code a b c d ≤ 0x10FFFF

module _ (a b c d : ℕ) (P : ℕ → ℕ → Type 0) where
  known_two : within a (0xC2, 0xDF) ≡ true → (Two a b → P (two-code a b) 1) → Known P (two a b)
  unfolding two
  known_two wa f = choose P (is_tail b) _ _ (λ wb. f (record { first = bounds a 0xC2 0xDF _ refl wa; second = bounds b 0x80 0xBF _ refl wb })) tt

  -- the second byte within l and h
  known-three : (l h : ℕ) → ((l ≤ b) × (b ≤ h) → (0x80 ≤ c) × (c ≤ 0xBF) → Three a b c) → (Three a b c → P (three-code a b c) 2)
      → Known P (three (l, h) a b c)
  unfolding three
  known-three l h g f = go (within b (l, h)) (is_tail c) refl refl
    where
      go : (s t : Bool) → within b (l, h) ≡ s → is_tail c ≡ t → Known P (cond (s && t) (point (three-code a b c) 2) None)
      go true true es et = f (g (bounds b l h (within b (l, h)) refl es) (bounds c 0x80 0xBF (is_tail c) refl et))
      go true false es et = tt
      go false t es et = tt

  known-four : (l h : ℕ) → ((l ≤ b) × (b ≤ h) → (0x80 ≤ c) × (c ≤ 0xBF) → (0x80 ≤ d) × (d ≤ 0xBF) → Four a b c d)
      → (Four a b c d → P (four-code a b c d) 3)
      → Known P (four (l, h) a b c d)
  unfolding four
  known-four l h g f = go (within b (l, h)) (is_tail c) (is_tail d) refl refl refl
    where
      go : (s t u : Bool) → within b (l, h) ≡ s → is_tail c ≡ t → is_tail d ≡ u → Known P (cond (s && (t && u)) (point (four-code a b c d) 3) None)
      go true true true es et eu =
          f (g (bounds b l h (within b (l, h)) refl es) (bounds c 0x80 0xBF (is_tail c) refl et) (bounds d 0x80 0xBF (is_tail d) refl eu))
      go true true false es et eu = tt
      go true false u es et eu = tt
      go false t u es et eu = tt

  module _ (one : a ≤ 0x7F → P a 0) (by_two : Two a b → P (two-code a b) 1) (by_three : Three a b c → P (three-code a b c) 2) (by-four : Four a b c d → P (four-code a b c d) 3) where
    -- a row of three bytes below the surrogates, one above them, and a row of four bytes
    three-below : (x y l h : ℕ) → within a (x, y) ≡ true
        → ((x ≤ a) × (a ≤ y) → (l ≤ b) × (b ≤ h) → (0x80 ≤ c) × (c ≤ 0xBF) → (0xE0 ≤ a) × (a ≤ 0xEF) × (0x80 ≤ b) × (b ≤ 0xBF) × (0x800 ≤ three-code a b c) × (three-code a b c < 0xD800))
        → Known P (three (l, h) a b c)
    three-below x y l h w k =
        known-three l h
        (λ q r. let e = k (bounds a x y _ refl w) q r in record { first = (e.0, e.1); second = (e.2, e.3); third = r; least = e.4; scalar = inl e.5 }) by_three

    three-above : (x y l h : ℕ) → within a (x, y) ≡ true
        → ((x ≤ a) × (a ≤ y) → (l ≤ b) × (b ≤ h) → (0x80 ≤ c) × (c ≤ 0xBF) → (0xE0 ≤ a) × (a ≤ 0xEF) × (0x80 ≤ b) × (b ≤ 0xBF) × (0x800 ≤ three-code a b c) × (0xE000 ≤ three-code a b c))
        → Known P (three (l, h) a b c)
    three-above x y l h w k =
        known-three l h
        (λ q r. let e = k (bounds a x y _ refl w) q r in record { first = (e.0, e.1); second = (e.2, e.3); third = r; least = e.4; scalar = inr e.5 }) by_three

    four-row : (x y l h : ℕ) → within a (x, y) ≡ true
        → ((x ≤ a) × (a ≤ y) → (l ≤ b) × (b ≤ h) → (0x80 ≤ c) × (c ≤ 0xBF) → (0x80 ≤ d) × (d ≤ 0xBF)
        → (0xF0 ≤ a) × (a ≤ 0xF4) × (0x80 ≤ b) × (b ≤ 0xBF) × (0x10000 ≤ four-code a b c d) × (four-code a b c d ≤ 0x10FFFF))
        → Known P (four (l, h) a b c d)
    four-row x y l h w k =
        known-four l h
        (λ q r s. let e = k (bounds a x y _ refl w) q r s in record { first = (e.0, e.1); second = (e.2, e.3); third = r; fourth = s; least = e.4; most = e.5 }) by-four

    pub by_rows : Known P (step a b c d)
    unfolding step
    by_rows =
        choose P (within a (0x00, 0x7F)) _ _ (λ w. one (bounds a 0x00 0x7F _ refl w).1)
        (choose P (within a (0xC2, 0xDF)) _ _ (λ w. known_two w by_two)
        (choose P (within a (0xE0, 0xE0)) _ _ (λ w. three-below 0xE0 0xE0 0xA0 0xBF w (λ p q r. omega arith))
        (choose P (within a (0xE1, 0xEC)) _ _ (λ w. three-below 0xE1 0xEC 0x80 0xBF w (λ p q r. omega arith))
        (choose P (within a (0xED, 0xED)) _ _ (λ w. three-below 0xED 0xED 0x80 0x9F w (λ p q r. omega arith))
        (choose P (within a (0xEE, 0xEF)) _ _ (λ w. three-above 0xEE 0xEF 0x80 0xBF w (λ p q r. omega arith))
        (choose P (within a (0xF0, 0xF0)) _ _ (λ w. four-row 0xF0 0xF0 0x90 0xBF w (λ p q r s. omega arith))
        (choose P (within a (0xF1, 0xF3)) _ _ (λ w. four-row 0xF1 0xF3 0x80 0xBF w (λ p q r s. omega arith))
        (choose P (within a (0xF4, 0xF4)) _ _ (λ w. four-row 0xF4 0xF4 0x80 0x8F w (λ p q r s. omega arith))
        tt))))))))
