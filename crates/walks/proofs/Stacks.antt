-- A stack of words: pushed and popped in lent words.
-- Assumes nothing.
use Rattle.std.proofs.lemmas.List.{drop_more, drop-drop, length-drop}
use Rattle.std.proofs.lemmas.Slice.{take-put_mid, drop-put_mid}
use Rattle.std.proofs.lemmas.Option.{same_Some, none-some}
use Rattle.std.specs.List.{slice_get}
use Rattle.std.specs.Prelude.{None, Some}
use mathlib.Core.Path.{◌≡◌, refl, sym, ap, ◌∙◌}
use mathlib.Core.List.{List, [], ◌∷◌, ◌++◌, reverse, reverse-append}
use Prim.Native.Nat.{ℕ, zero, suc, ◌+◌, ◌-◌, ◌≤◌, ◌<◌}
use native.Mathlib.Omega.{arith}
use native.Mathlib.Numerals.{add-one}
use lib.ListN.{length, get_or, set, take, drop, length-append, length-reverse}
use lib.Seq.{take-suc}
use borrow.Rule.Slice.PartMut.{put_mid}
use Rattle.walks.specs.Stack.{Stacked, stacked, pushed, popped}

-- the same words on it, and the same free ones
same-stack : {a b c e : List ℕ} → a ≡ b → c ≡ e → ◌≡◌ {A = Stacked} (record { entries = a; free = c }) (record { entries = b; free = e })
same-stack p q = λ i. record { entries = p i; free = q i }

-- the stack one word lower
pub stack-popped : (words : List ℕ) (height : ℕ) → 0 < height → height ≤ length words → stacked (height - 1) words ≡ popped (stacked height words)
stack-popped words zero a b = absurd (omega arith)
stack-popped words (suc h) a b =
    let z : suc h - 1 ≡ h = omega arith in
    let top : reverse (take (suc h) words) ≡ get_or words h 0 ∷ reverse (take h words) = ap reverse (take-suc words h 0 b) ∙ reverse-append (take h words) (get_or words h 0 ∷ []) in
    rw (z, top) (same-stack refl (drop_more words h 0 b ∙ ap (λ (k : ℕ). get_or words h 0 ∷ drop k words) (add-one h)))

-- words written behind the top
pub stack-pushed : (words l : List ℕ) (height n : ℕ) → length l ≡ n → height ≤ length words
    → stacked (height + n) (put_mid height (height + n - height) words l) ≡ pushed (reverse l) (stacked height words)
stack-pushed words l h n size b =
    same-stack
    (ap reverse (take-put_mid h (h + n - h) words l (h + n) (omega arith) b) ∙ reverse-append (take h words) l)
    (drop-put_mid h (h + n - h) words l (h + n) (omega arith) b (omega arith)
    ∙ ap (λ (k : ℕ). drop k words) (omega (arith, length-reverse l))
    ∙ sym (drop-drop (length (reverse l)) h words))

-- the top, when there is one
pub word_popped : (s : Stacked) (word : ℕ) → Some word ≡ slice_get s.entries 0 → s.entries ≡ word ∷ (popped s).entries
word_popped s word e = go s.entries e
  where
    go : (l : List ℕ) → Some word ≡ slice_get l 0 → l ≡ word ∷ drop 1 l
    go [] e = absurd (none-some word (sym e))
    go (x ∷ l) e = ap (λ (k : ℕ). k ∷ l) (same_Some x word (sym e))

pub none_popped : (s : Stacked) → None ≡ slice_get s.entries 0 → s.entries ≡ []
none_popped s e = go s.entries e
  where
    go : (l : List ℕ) → None ≡ slice_get l 0 → l ≡ []
    go [] e = refl
    go (x ∷ l) e = absurd (none-some x e)

-- ---- how many words the stack lies in

abbrev pub room_of : Stacked → ℕ
room_of s = length s.entries + length s.free

pub room-first : (words : List ℕ) (word : ℕ) → 0 < length words → room_of (stacked 1 (set words 0 word)) ≡ length words
room-first [] word h = absurd (omega arith)
room-first (x ∷ words) word h = omega arith

pub entries-first : (words : List ℕ) (word : ℕ) → 0 < length words → (stacked 1 (set words 0 word)).entries ≡ word ∷ []
entries-first [] word h = absurd (omega arith)
entries-first (x ∷ words) word h = refl

pub room-popped : (s : Stacked) → room_of (popped s) ≡ room_of s
room-popped s = go s.entries
  where
    go : (l : List ℕ) → length (drop 1 l) + length (take 1 l ++ s.free) ≡ length l + length s.free
    go [] = refl
    go (x ∷ l) = omega arith

pub room-pushed : (l : List ℕ) (s : Stacked) → length l ≤ length s.free → room_of (pushed l s) ≡ room_of s
room-pushed l s h = omega (arith, length-append l s.entries, length-drop (length l) s.free)
