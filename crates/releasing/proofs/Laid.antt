-- Texts laid one behind the other from slot 0 on: the pieces of the words are then these texts.
-- Assumes nothing.
use mathlib.Core.Path.{◌≡◌, refl, sym, ap, ◌∙◌}
use mathlib.Core.Bool.{true}
use mathlib.Core.List.{List, [], ◌∷◌, ◌++◌, map, append-nil}
use Prim.Native.Nat.{ℕ, suc, ◌+◌, ◌-◌, ◌≤◌, ◌<◌}
use native.Mathlib.Omega.{arith}
use lib.ListN.{length, get_or, set, take, drop, length-append}
use lib.Seq.{take-set-lt, drop-set-lt, set-append_left, length-take-le, take-append_seam, drop-append_seam}
use borrow.Author.Tests.{eq-eqb}
use Rattle.words.specs.Parts.{part, put}
use Rattle.words.specs.Pieces.{pieces}
use Rattle.words.specs.Ends.{lengths_from, lengths_of, ends_from, ends_of, ends_reach}
use Rattle.words.proofs.Parts.{take_part, drop-part, length-put, take-put-before, part-put-same, part-put-before, part-put-after, get_or-put-before, get_or-put-after, put-nil, put_front, put-put, set-put-after}
use Rattle.words.proofs.Joined.{joined-append}
use Rattle.words.proofs.Reach.{reach-cons}
use Rattle.texts.specs.Pool.{bytes_of}
use Rattle.texts.specs.Words.{laid}

-- a store before what was put, and a second put right behind the first
set-before-put : {A : Type 0} (l : List A) (p : ℕ) (vs : List A) (i : ℕ) (v : A) → i < p → p ≤ length l → set (put p vs l) i v ≡ put p vs (set l i v)
unfolding put
set-before-put l p vs i v h f =
    set-append_left (take p l) (vs ++ drop (p + length vs) l) i v (omega (arith, length-take-le p l f))
    ∙ ap (λ (x : List _). x ++ (vs ++ drop (p + length vs) l)) (sym (take-set-lt p l i v h))
    ∙ ap (λ (x : List _). take p (set l i v) ++ (vs ++ x)) (sym (drop-set-lt (p + length vs) l i v (omega arith)))

put-behind : {A : Type 0} (l : List A) (p : ℕ) (vs ws : List A) → p + length vs ≤ length l → put (p + length vs) ws (put p vs l) ≡ put p (vs ++ ws) l
put-behind l p vs ws h =
    put_front (put p vs l) (length vs) ws p (omega (arith, length-put l p vs h))
    ∙ ap (λ (x : List _). put p (x ++ ws) (put p vs l)) (part-put-same l p vs (omega arith))
    ∙ put-put l p (vs ++ ws) vs (omega arith) (omega (arith, length-append vs ws))

-- ---- the ends of texts, the first of which begins at from

pub length-ends : (from : ℕ) (ts : List (List ℕ)) → length (ends_from from ts) ≡ length ts
length-ends from [] = refl
length-ends from (t ∷ ts) = ap suc (length-ends (from + length t) ts)

lengths-ends : (from : ℕ) (ts : List (List ℕ)) → lengths_from from (ends_from from ts) ≡ map length ts
lengths-ends from [] = refl
lengths-ends from (t ∷ ts) =
    let e : from + length t - from ≡ length t = omega arith in
    ap (λ (n : ℕ). n ∷ lengths_from (from + length t) (ends_from (from + length t) ts)) e ∙ ap (λ (l : List ℕ). length t ∷ l) (lengths-ends (from + length t) ts)

ends-reach : (from : ℕ) (ts : List (List ℕ)) (used : ℕ) → used ≡ from + length (bytes_of ts) → ends_reach from (ends_from from ts) used ≡ true
ends-reach from [] used e = eq-eqb from used (omega arith)
ends-reach from (t ∷ ts) used e =
    reach-cons from (from + length t) used (ends_from (from + length t) ts) (omega arith)
    (ends-reach (from + length t) ts used (omega (arith, length-append t (bytes_of ts))))

ends_snoc : (from : ℕ) (ts : List (List ℕ)) (t : List ℕ) → ends_from from (ts ++ (t ∷ [])) ≡ ends_from from ts ++ ((from + length (bytes_of ts) + length t) ∷ [])
ends_snoc from [] t =
    let e : from + length t ≡ from + 0 + length t = omega arith in
    ap (λ (n : ℕ). n ∷ []) e
ends_snoc from (x ∷ ts) t =
    let e : from + length x + length (bytes_of ts) + length t ≡ from + length (x ++ bytes_of ts) + length t = omega (arith, length-append x (bytes_of ts)) in
    ap (λ (l : List ℕ). (from + length x) ∷ l) (ends_snoc (from + length x) ts t ∙ ap (λ (n : ℕ). ends_from (from + length x) ts ++ (n ∷ [])) e)

-- the pieces of their bytes are the texts
pieces-joined : (at : ℕ) (ts : List (List ℕ)) (words : List ℕ) → part at (length (bytes_of ts)) words ≡ bytes_of ts → pieces at (map length ts) words ≡ ts
pieces-joined at [] words e = refl
pieces-joined at (t ∷ ts) words e =
    let n : length (t ++ bytes_of ts) ≡ length t + length (bytes_of ts) = length-append t (bytes_of ts) in
    let q : part at (length t + length (bytes_of ts)) words ≡ t ++ bytes_of ts = ap (λ (k : ℕ). part at k words) (sym n) ∙ e in
    let first : part at (length t) words ≡ t =
    sym (take_part words at (length t + length (bytes_of ts)) (length t) (omega arith)) ∙ ap (take (length t)) q ∙ take-append_seam t (bytes_of ts) in
    let rest : part (at + length t) (length (bytes_of ts)) words ≡ bytes_of ts =
    sym (drop-part words at (length (bytes_of ts)) (length t)) ∙ ap (drop (length t)) q ∙ drop-append_seam t (bytes_of ts) in
    ap (λ (x : List ℕ). x ∷ pieces (at + length t) (map length ts) words) first
    ∙ ap (λ (x : List (List ℕ)). t ∷ x) (pieces-joined (at + length t) ts words rest)

module _ (base : ℕ) (words : List ℕ) (ts : List (List ℕ)) (a : length ts ≤ base) (b : base + length (bytes_of ts) ≤ length words) where
  abbrev tabled : List ℕ
  tabled = put 0 (ends_of ts) words

  size-tabled : length tabled ≡ length words
  size-tabled = length-put words 0 (ends_of ts) (omega (arith, length-ends 0 ts))

  pub size-laid : length (laid base ts words) ≡ length words
  unfolding laid
  size-laid = length-put tabled base (bytes_of ts) (omega (arith, size-tabled)) ∙ size-tabled

  -- words between the ends and the bytes, and behind the bytes, are as they were
  pub laid_table : (i : ℕ) → length ts ≤ i → i < base → get_or (laid base ts words) i 0 ≡ get_or words i 0
  unfolding laid
  laid_table i f g =
      get_or-put-before tabled base (bytes_of ts) i 0 g (omega (arith, size-tabled))
      ∙ get_or-put-after words 0 (ends_of ts) i 0 (omega (arith, length-ends 0 ts)) (omega arith)

  pub laid-between : (s n : ℕ) → length ts ≤ s → s + n ≤ base → part s n (laid base ts words) ≡ part s n words
  unfolding laid
  laid-between s n f g =
      part-put-before tabled base (bytes_of ts) s n g (omega (arith, size-tabled))
      ∙ part-put-after words 0 (ends_of ts) s n (omega (arith, length-ends 0 ts)) (omega arith)

  pub laid-behind : (s n : ℕ) → length (bytes_of ts) ≤ s → part (base + s) n (laid base ts words) ≡ part (base + s) n words
  unfolding laid
  laid-behind s n f =
      part-put-after tabled base (bytes_of ts) (base + s) n (omega arith) (omega (arith, size-tabled))
      ∙ part-put-after words 0 (ends_of ts) (base + s) n (omega (arith, length-ends 0 ts)) (omega arith)

  laid-ends : take (length ts) (laid base ts words) ≡ ends_of ts
  unfolding laid part
  laid-ends =
      take-put-before tabled base (bytes_of ts) (length ts) a (omega (arith, size-tabled))
      ∙ ap (λ (n : ℕ). take n tabled) (sym (length-ends 0 ts))
      ∙ part-put-same words 0 (ends_of ts) (omega arith)

  pub laid-texts : pieces base (lengths_of (take (length ts) (laid base ts words))) (laid base ts words) ≡ ts
  unfolding laid
  laid-texts =
      ap (λ (l : List ℕ). pieces base l (laid base ts words)) (ap lengths_of laid-ends ∙ lengths-ends 0 ts)
      ∙ pieces-joined base ts (laid base ts words) (part-put-same tabled base (bytes_of ts) (omega (arith, size-tabled)))

  pub laid-reach : ends_reach 0 (take (length ts) (laid base ts words)) (length (bytes_of ts)) ≡ true
  laid-reach = ap (λ (l : List ℕ). ends_reach 0 l (length (bytes_of ts))) laid-ends ∙ ends-reach 0 ts (length (bytes_of ts)) (omega arith)

  -- one more
  pub laid_next : (t : List ℕ) (end : ℕ) → end ≡ length (bytes_of ts) + length t → length ts < base
      → set (put (base + length (bytes_of ts)) t (laid base ts words)) (length ts) end ≡ laid base (ts ++ (t ∷ [])) words
  unfolding laid
  laid_next t end e f =
      let n : 0 + length (ends_of ts) ≡ length ts = omega (arith, length-ends 0 ts) in
      let q : end ≡ 0 + length (bytes_of ts) + length t = omega arith in
      ap (λ (x : List ℕ). set x (length ts) end) (put-behind tabled base (bytes_of ts) t (omega (arith, size-tabled)))
      ∙ set-before-put tabled base (bytes_of ts ++ t) (length ts) end f (omega (arith, size-tabled))
      ∙ ap (λ (i : ℕ). put base (bytes_of ts ++ t) (set tabled i end)) (sym n)
      ∙ ap (put base (bytes_of ts ++ t))
      (set-put-after words 0 (ends_of ts) end (omega (arith, n))
      ∙ ap (λ (x : ℕ). put 0 (ends_of ts ++ (x ∷ [])) words) q
      ∙ ap (λ (x : List ℕ). put 0 x words) (sym (ends_snoc 0 ts t)))
      ∙ ap (λ (x : List ℕ). put base x (put 0 (ends_of (ts ++ (t ∷ []))) words))
      (sym (joined-append (λ x. x) ts (t ∷ []) ∙ ap (λ (x : List ℕ). bytes_of ts ++ x) (append-nil t)))

pub laid_none : (base : ℕ) (words : List ℕ) → laid base [] words ≡ words
unfolding laid
laid_none base words = put-nil (put 0 [] words) base [] ∙ put-nil words 0 []
