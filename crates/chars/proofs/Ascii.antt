-- A test that no code point from U+0080 on passes says the same of the bytes as of the text that they spell.
-- Assumes nothing.
use mathlib.Core.Path.{◌≡◌, refl, sym, ap, ◌∙◌}
use mathlib.Core.Bool.{Bool, true, false, ◌&&◌, and-false, or-true, false≢true}
use mathlib.Core.List.{List, [], ◌∷◌, map, map-id}
use Prim.Native.Nat.{ℕ, ◌≤◌, ◌<◌}
use native.Mathlib.Decide.{dec_lt}
use native.Mathlib.Omega.{arith}
use lib.Dec.{eqb, ltb}
use lib.ListN.{drop, get_or}
use borrow.Author.Tests.{ltb-true, ne_eqb}
use Rattle.words.specs.Lists.{all}
use Rattle.std.specs.Prelude.{Some, None, Option}
use Rattle.chars.specs.Utf8.{Step, point, step_at, follows, and_then, decode}
use Rattle.chars.specs.Checks.{quoted, spells, is_empty, is_xmlns, lower, is_xml, is_space, is_white_space, tested, of_text}
use Rattle.chars.proofs.Ranges.{outside}
use Rattle.chars.proofs.Steps.{by_row}
use Rattle.chars.proofs.Rows.{Known}
use Rattle.chars.proofs.Decoding.{Spelled, sound, decode-cons}

-- an ASCII byte is a code point by itself
pub decode-ascii : (a : ℕ) (b : List ℕ) → a < 0x80 → decode (a ∷ b) ≡ follows a (decode b)
unfolding step_at
decode-ascii a b h = decode-cons a b ∙ ap (λ (s : Step). and_then s (λ (n : ℕ). decode (drop n b))) (sym (by_row 0x00 0x7F 0 a _ _ _ (point a 0) (omega arith) (omega arith) refl refl))

-- anything else is no text, or begins one with a code point that is no ASCII character
high-first : (a : ℕ) (b : List ℕ) (test : Option (List ℕ) → Bool) → 0x80 ≤ a → test None ≡ false
    → ((code : ℕ) (o : Option (List ℕ)) → 0x80 ≤ code → test (follows code o) ≡ false) → test (decode (a ∷ b)) ≡ false
unfolding step_at
high-first a b test h n f = ap test (decode-cons a b) ∙ go (step_at (a ∷ b) 0) (sound a _ _ _)
  where
    go : (s : Step) → Known (Spelled a (get_or b 0 0) (get_or b 1 0) (get_or b 2 0)) s → test (and_then s (λ (n : ℕ). decode (drop n b))) ≡ false
    go (Some p) k = f p.code (decode (drop p.more b)) (k.high h)
    go None k = n

-- ---- all code points pass

module _ (p : ℕ → Bool) (low : (c : ℕ) → 0x80 ≤ c → p c ≡ false) where
  tested-follows : (code : ℕ) (o : Option (List ℕ)) → tested (all p) (follows code o) ≡ (p code && tested (all p) o)
  tested-follows code None = sym (and-false (p code))
  tested-follows code (Some l) = refl

  pub all-bytes : (b : List ℕ) → tested (all p) (decode b) ≡ all p b
  unfolding decode
  all-bytes [] = refl
  all-bytes (a ∷ b) = go (dec_lt a 0x80) (all-bytes b)
    where
      go : Dec (a < 0x80) → tested (all p) (decode b) ≡ all p b → tested (all p) (decode (a ∷ b)) ≡ (p a && all p b)
      go (yes h) ih = ap (tested (all p)) (decode-ascii a b h) ∙ tested-follows a (decode b) ∙ ap (λ (t : Bool). p a && t) ih
      go (no h) ih =
          high-first a b (tested (all p)) (omega arith) refl (λ code o k. tested-follows code o ∙ ap (λ (t : Bool). t && tested (all p) o) (low code k))
          ∙ sym (ap (λ (t : Bool). t && all p b) (low a (omega arith)))

-- ---- the text is a given one of ASCII characters, seen through f

module _ (f : ℕ → ℕ) (keeps : (c : ℕ) → 0x80 ≤ c → 0x80 ≤ f c) where
  spelt : List ℕ → List ℕ → Bool
  spelt k l = spells k (map f l)

  spelt-nil : (code : ℕ) (o : Option (List ℕ)) → tested (spelt []) (follows code o) ≡ false
  unfolding spelt
  spelt-nil code None = refl
  spelt-nil code (Some l) = refl

  spelt-cons : (x : ℕ) (k : List ℕ) (code : ℕ) (o : Option (List ℕ))
      → tested (spelt (x ∷ k)) (follows code o) ≡ (eqb x (f code) && tested (spelt k) o)
  unfolding spelt
  spelt-cons x k code None = sym (and-false (eqb x (f code)))
  spelt-cons x k code (Some l) = refl

  apart : (x c : ℕ) → ltb x 0x80 ≡ true → 0x80 ≤ c → eqb x (f c) ≡ false
  apart x c h k =
      let g : x < 0x80 = ltb-true x 0x80 h in
      let j : 0x80 ≤ f c = keeps c k in
      ne_eqb x (f c) (λ e. omega arith)

  nil-bytes : (b : List ℕ) → tested (spelt []) (decode b) ≡ spelt [] b
  unfolding spelt decode
  nil-bytes [] = refl
  nil-bytes (a ∷ b) = go (dec_lt a 0x80)
    where
      go : Dec (a < 0x80) → tested (spelt []) (decode (a ∷ b)) ≡ false
      go (yes h) = ap (tested (spelt [])) (decode-ascii a b h) ∙ spelt-nil a (decode b)
      go (no h) = high-first a b (tested (spelt [])) (omega arith) refl (λ code o j. spelt-nil code o)

  cons-bytes : (x : ℕ) (k : List ℕ) → ltb x 0x80 ≡ true → ((b : List ℕ) → tested (spelt k) (decode b) ≡ spelt k b) → (b : List ℕ)
      → tested (spelt (x ∷ k)) (decode b) ≡ spelt (x ∷ k) b
  unfolding spelt decode
  cons-bytes x k hx ih [] = refl
  cons-bytes x k hx ih (a ∷ b) = go (dec_lt a 0x80)
    where
      go : Dec (a < 0x80) → tested (spelt (x ∷ k)) (decode (a ∷ b)) ≡ (eqb x (f a) && spelt k b)
      go (yes h) = ap (tested (spelt (x ∷ k))) (decode-ascii a b h) ∙ spelt-cons x k a (decode b) ∙ ap (λ (t : Bool). eqb x (f a) && t) (ih b)
      go (no h) =
          high-first a b (tested (spelt (x ∷ k))) (omega arith) refl (λ code o j. spelt-cons x k code o ∙ ap (λ (t : Bool). t && tested (spelt k) o) (apart x code hx j))
          ∙ sym (ap (λ (t : Bool). t && spelt k b) (apart x a hx (omega arith)))

  both : (s t : Bool) → (s && t) ≡ true → (s ≡ true) × (t ≡ true)
  both true t h = (refl, h)
  both false t h = absurd (false≢true h)

  spelt-all : (k : List ℕ) → all (λ (x : ℕ). ltb x 0x80) k ≡ true → (b : List ℕ) → tested (spelt k) (decode b) ≡ spelt k b
  spelt-all [] h = nil-bytes
  spelt-all (x ∷ k) h =
      let g = both (ltb x 0x80) (all (λ (y : ℕ). ltb y 0x80) k) h in
      cons-bytes x k g.0 (spelt-all k g.1)

  pub spelt-bytes : (k : List ℕ) → all (λ (x : ℕ). ltb x 0x80) k ≡ true → (b : List ℕ)
      → tested (λ (l : List ℕ). spells k (map f l)) (decode b) ≡ spells k (map f b)
  unfolding spelt
  spelt-bytes = spelt-all

-- ---- the tests of the checks

pub spells-bytes : (k : List ℕ) → all (λ (x : ℕ). ltb x 0x80) k ≡ true → (b : List ℕ) → tested (spells k) (decode b) ≡ spells k b
spells-bytes k h b = sym (same (decode b)) ∙ spelt-bytes (λ (c : ℕ). c) (λ c j. j) k h b ∙ ap (spells k) (map-id b)
  where
    same : (o : Option (List ℕ)) → tested (λ (l : List ℕ). spells k (map (λ (c : ℕ). c) l)) o ≡ tested (spells k) o
    same None = refl
    same (Some l) = ap (spells k) (map-id l)

-- "xmlns" is as well said of the bytes, and so is "xml" in any ASCII case
pub xmlns-bytes : (b : List ℕ) → of_text is_xmlns b ≡ is_xmlns b
unfolding of_text is_xmlns
xmlns-bytes b = spells-bytes (quoted "xmlns") refl b

lower-keeps : (c : ℕ) → 0x80 ≤ c → 0x80 ≤ lower c
lower-keeps c h = rw (outside 0x80 c c h (omega arith) 0x41 0x5A (ltb c 0x41) (ltb 0x5A 0x80) refl refl (or-true (ltb c 0x41))) h

pub xml-bytes : (b : List ℕ) → of_text is_xml b ≡ is_xml b
unfolding of_text is_xml
xml-bytes b = spelt-bytes lower lower-keeps (quoted "xml") refl b

-- white space is as well said of the bytes
high-space : (c : ℕ) → 0x80 ≤ c → is_space c ≡ false
unfolding is_space
high-space c h = rw (ne_eqb c 0x20 (λ e. omega arith), ne_eqb c 0x9 (λ e. omega arith), ne_eqb c 0xA (λ e. omega arith))

pub white-space-bytes : (b : List ℕ) → of_text is_white_space b ≡ is_white_space b
unfolding of_text is_white_space
white-space-bytes b = all-bytes is_space high-space b

-- no bytes are no text but the empty one
pub empty-bytes : (b : List ℕ) → tested is_empty (decode b) ≡ is_empty b
empty-bytes b = sym (same (decode b)) ∙ spells-bytes [] refl b ∙ nil b
  where
    nil : (l : List ℕ) → spells [] l ≡ is_empty l
    nil [] = refl
    nil (x ∷ l) = refl

    same : (o : Option (List ℕ)) → tested (spells []) o ≡ tested is_empty o
    same None = refl
    same (Some l) = nil l
