-- Generations, the free list, the pool and the blocks after a list of nodes was freed.
-- Assumes nothing.
use Rattle.std.specs.Prelude.{Option, None, Some}
use mathlib.Core.Path.{◌≡◌, refl, sym, ap, ◌∙◌, subst}
use mathlib.Core.Logic.{◌≢◌, ◌⊎◌, inl, inr}
use mathlib.Core.List.Memᴰ
use mathlib.Core.List.{List, [], ◌∷◌, ◌++◌, map, reverse, reverse_aux, append_assoc, Memᴰ}
use Prim.Native.Nat.{ℕ, ◌+◌, ◌≤◌, ◌<◌}
use native.Mathlib.Omega.{arith}
use native.Mathlib.Decide.{ℕ_discrete, dec_lt}
use lib.ListN.{length, get_or, set, length-set}
use lib.Seq.{get_or-set_same, get_or-set_other, set_out}
use Rattle.words.specs.Lists.{joined}
use Rattle.blocks.specs.Arena.{Arena, Block, block, cap_of}
use Rattle.blocks.specs.Rule.{Apart, empty_left, empty_right, BlocksApart}
use Rattle.records.specs.Handles.{handle_index}
use Rattle.texts.specs.Pool.{Pool, bytes_of, released}
use Rattle.texts.proofs.Pool.{released-same, released-other, released-bytes}
use Rattle.model.specs.Edits.{up, raised_all, freed_all, released_all}
use Rattle.model.specs.Rules.{slots_held}
use Rattle.laws.proofs.Wf.{Distinct}
use Rattle.laws.proofs.Membership.{mem-reverse, mem-reverse-old, distinct_append, distinct-reverse}
use Rattle.laws.proofs.SimEdits.{set-fits}

-- the slots of a list of handles
abbrev pub slots_of : List ℕ → List ℕ
slots_of l = map handle_index l

pub mem? : (i : ℕ) (l : List ℕ) → Dec (Memᴰ i l)
mem? i [] = no (λ m. Memᴰ.not-nil m)
mem? i (x ∷ l) = go (ℕ_discrete i x) (mem? i l)
  where
    neither : (i ≢ x) → (Memᴰ i l → ⊥) → (i ≡ x) ⊎ Memᴰ i l → ⊥
    neither n k (inl e) = n e
    neither n k (inr m) = k m

    go : Dec (i ≡ x) → Dec (Memᴰ i l) → Dec (Memᴰ i (x ∷ l))
    go (yes e) q = yes (Memᴰ.head e)
    go (no n) (yes m) = yes (Memᴰ.tail m)
    go (no n) (no k) = no (λ m. neither n k (Memᴰ.cases_cons m))

-- ---- generations

pub length-raised_all : (l gens : List ℕ) → length (raised_all gens l) ≡ length gens
length-raised_all [] gens = refl
length-raised_all (h ∷ l) gens = length-raised_all l (set gens (handle_index h) _) ∙ length-set gens (handle_index h) _

pub raised_all-other : (l gens : List ℕ) (i : ℕ) → (Memᴰ i (slots_of l) → ⊥) → get_or (raised_all gens l) i 1 ≡ get_or gens i 1
raised_all-other [] gens i n = refl
raised_all-other (h ∷ l) gens i n =
    raised_all-other l (set gens (handle_index h) _) i (λ m. n (Memᴰ.tail m)) ∙ get_or-set_other gens (handle_index h) i _ 1 (λ e. n (Memᴰ.head e))

pub raised_all-at : (l gens : List ℕ) (i : ℕ) → Distinct (slots_of l) → Memᴰ i (slots_of l) → i < length gens → get_or (raised_all gens l) i 1 ≡ up (get_or gens i 1)
raised_all-at [] gens i u m lt = absurd (Memᴰ.not-nil m)
raised_all-at (h ∷ l) gens i u m lt = go (λ gens q lt. raised_all-at l gens i u.1 q lt) (Memᴰ.cases_cons m)
  where
    go : ((gens : List ℕ) → Memᴰ i (slots_of l) → i < length gens → get_or (raised_all gens l) i 1 ≡ up (get_or gens i 1)) → (i ≡ handle_index h) ⊎ Memᴰ i (slots_of l)
        → get_or (raised_all (set gens (handle_index h) (up (get_or gens (handle_index h) 1))) l) i 1 ≡ up (get_or gens i 1)
    go ih (inl e) =
        raised_all-other l (set gens (handle_index h) (up (get_or gens (handle_index h) 1))) i (λ q. u.0 (subst (λ (j : ℕ). Memᴰ j (slots_of l)) e q))
        ∙ ap (λ (j : ℕ). get_or (set gens j (up (get_or gens j 1))) i 1) (sym e)
        ∙ get_or-set_same gens i (up (get_or gens i 1)) 1 lt
    go ih (inr q) =
        ih (set gens (handle_index h) (up (get_or gens (handle_index h) 1))) q (simp length-set lt)
        ∙ ap up (get_or-set_other gens (handle_index h) i (up (get_or gens (handle_index h) 1)) 1 (λ e. u.0 (subst (λ (j : ℕ). Memᴰ j (slots_of l)) e q)))

up_fits : (g : ℕ) → up g < 4294967296
up_fits g = omega arith

-- generations stay words of 32 bits
pub raised_all-fits : (l gens : List ℕ) → ((i : ℕ) → get_or gens i 0 < 4294967296) → (i : ℕ) → get_or (raised_all gens l) i 0 < 4294967296
raised_all-fits [] gens f i = f i
raised_all-fits (h ∷ l) gens f i =
    raised_all-fits l (set gens (handle_index h) (up (get_or gens (handle_index h) 1)))
    (set-fits gens (handle_index h) (up (get_or gens (handle_index h) 1)) (up_fits (get_or gens (handle_index h) 1)) f) i

-- ---- entries pushed in turn, the last first

pushed-append : (l r : List ℕ) → reverse_aux l r ≡ reverse l ++ r
pushed-append [] r = refl
pushed-append (x ∷ l) r =
    pushed-append l (x ∷ r) ∙ sym (ap (λ (k : List ℕ). k ++ r) (pushed-append l (x ∷ [])) ∙ append_assoc (reverse l) (x ∷ []) r)

pushed-cases : (l r : List ℕ) {y : ℕ} → Memᴰ y (reverse_aux l r) → Memᴰ y r ⊎ Memᴰ y l
pushed-cases l r {y} m = go (Memᴰ.append_cases (reverse l) (subst (λ (k : List ℕ). Memᴰ y k) (pushed-append l r) m))
  where
    go : Memᴰ y (reverse l) ⊎ Memᴰ y r → Memᴰ y r ⊎ Memᴰ y l
    go (inl q) = inr (mem-reverse-old l q)
    go (inr q) = inl q

mem-pushed : (l r : List ℕ) {y : ℕ} → Memᴰ y r ⊎ Memᴰ y l → Memᴰ y (reverse_aux l r)
mem-pushed l r {y} (inl m) = subst (λ (k : List ℕ). Memᴰ y k) (sym (pushed-append l r)) (Memᴰ.append_right (reverse l) m)
mem-pushed l r {y} (inr m) = subst (λ (k : List ℕ). Memᴰ y k) (sym (pushed-append l r)) (Memᴰ.append_left r (mem-reverse l m))

distinct-pushed : (l r : List ℕ) → Distinct r → Distinct l → ((y : ℕ) → Memᴰ y l → Memᴰ y r → ⊥) → Distinct (reverse_aux l r)
distinct-pushed l r u v apart =
    subst Distinct (sym (pushed-append l r)) (distinct_append (reverse l) r (distinct-reverse l v) u (λ y m n. apart y (mem-reverse-old l m) n))

-- ---- the free list

freed_all-pushed : (l free : List ℕ) → freed_all free l ≡ reverse_aux (slots_of l) free
freed_all-pushed [] free = refl
freed_all-pushed (h ∷ l) free = freed_all-pushed l (handle_index h ∷ free)

module _ (l free : List ℕ) where
  pub freed_all-cases : (i : ℕ) → Memᴰ i (freed_all free l) → Memᴰ i free ⊎ Memᴰ i (slots_of l)
  freed_all-cases i m = pushed-cases (slots_of l) free (subst (λ (k : List ℕ). Memᴰ i k) (freed_all-pushed l free) m)

  pub mem-freed_all : (i : ℕ) → Memᴰ i free ⊎ Memᴰ i (slots_of l) → Memᴰ i (freed_all free l)
  mem-freed_all i m = subst (λ (k : List ℕ). Memᴰ i k) (sym (freed_all-pushed l free)) (mem-pushed (slots_of l) free m)

  pub freed_all-once : Distinct free → Distinct (slots_of l) → ((i : ℕ) → Memᴰ i (slots_of l) → Memᴰ i free → ⊥) → Distinct (freed_all free l)
  freed_all-once u v apart = subst Distinct (sym (freed_all-pushed l free)) (distinct-pushed (slots_of l) free u v apart)

-- ---- the pool

abbrev Texts : Type 0
Texts = List (Option ℕ)

pub slots_held-append : (a b : List (Option ℕ)) → slots_held (a ++ b) ≡ slots_held a ++ slots_held b
slots_held-append [] b = refl
slots_held-append (None ∷ a) b = slots_held-append a b
slots_held-append (Some s ∷ a) b = ap (λ (l : List ℕ). s ∷ l) (slots_held-append a b)

-- the text slots of a list of nodes
pub slots_held-joined : (f : ℕ → List (Option ℕ)) (hs : ℕ → ℕ) (l : List ℕ) → slots_held (joined f (map hs l)) ≡ joined (λ x. slots_held (f (hs x))) l
slots_held-joined f hs [] = refl
slots_held-joined f hs (x ∷ l) =
    slots_held-append (f (hs x)) (joined f (map hs l)) ∙ ap (λ (k : List ℕ). slots_held (f (hs x)) ++ k) (slots_held-joined f hs l)

pub length-released_all : (l : Texts) (p : Pool) → length (released_all p l).texts ≡ length p.texts
unfolding released
length-released_all [] p = refl
length-released_all (None ∷ l) p = length-released_all l p
length-released_all (Some s ∷ l) p = length-released_all l (released p (Some s)) ∙ length-set p.texts s []

-- every text that is not released is as before
pub released_all-other : (l : Texts) (p : Pool) (s : ℕ) → (Memᴰ s (slots_held l) → ⊥) → get_or (released_all p l).texts s [] ≡ get_or p.texts s []
unfolding released
released_all-other [] p s n = refl
released_all-other (None ∷ l) p s n = released_all-other l p s n
released_all-other (Some x ∷ l) p s n =
    released_all-other l (released p (Some x)) s (λ m. n (Memᴰ.tail m)) ∙ get_or-set_other p.texts x s [] [] (λ e. n (Memᴰ.head e))

-- a text that is released is empty, and so is one that was empty
pub released_all-empty : (l : Texts) (p : Pool) (s : ℕ) → Memᴰ s (slots_held l) ⊎ (get_or p.texts s [] ≡ []) → get_or (released_all p l).texts s [] ≡ []
unfolding released
released_all-empty [] p s (inl m) = absurd (Memᴰ.not-nil m)
released_all-empty [] p s (inr e) = e
released_all-empty (None ∷ l) p s h = released_all-empty l p s h
released_all-empty (Some x ∷ l) p s h = released_all-empty l (released p (Some x)) s (go (ℕ_discrete s x) h)
  where
    tail : s ≢ x → (s ≡ x) ⊎ Memᴰ s (slots_held l) → Memᴰ s (slots_held l) ⊎ (get_or (released p (Some x)).texts s [] ≡ [])
    tail n (inl e) = absurd (n e)
    tail n (inr m) = inl m

    go : Dec (s ≡ x) → Memᴰ s (slots_held (Some x ∷ l)) ⊎ (get_or p.texts s [] ≡ []) → Memᴰ s (slots_held l) ⊎ (get_or (released p (Some x)).texts s [] ≡ [])
    go (yes e) h = inr (ap (λ (i : ℕ). get_or (released p (Some x)).texts i []) e ∙ released-same p x)
    go (no n) (inl m) = tail n (Memᴰ.cases_cons m)
    go (no n) (inr e) = inr (released-other p x s n ∙ e)

released_all-pushed : (l : Texts) (p : Pool) → (released_all p l).free ≡ reverse_aux (slots_held l) p.free
unfolding released
released_all-pushed [] p = refl
released_all-pushed (None ∷ l) p = released_all-pushed l p
released_all-pushed (Some s ∷ l) p = released_all-pushed l (released p (Some s))

module _ (l : Texts) (p : Pool) where
  pub released_all-cases : (s : ℕ) → Memᴰ s (released_all p l).free → Memᴰ s p.free ⊎ Memᴰ s (slots_held l)
  released_all-cases s m = pushed-cases (slots_held l) p.free (subst (λ (k : List ℕ). Memᴰ s k) (released_all-pushed l p) m)

  pub mem-released_all : (s : ℕ) → Memᴰ s p.free ⊎ Memᴰ s (slots_held l) → Memᴰ s (released_all p l).free
  mem-released_all s m = subst (λ (k : List ℕ). Memᴰ s k) (sym (released_all-pushed l p)) (mem-pushed (slots_held l) p.free m)

  pub released_all-once : Distinct p.free → Distinct (slots_held l) → ((s : ℕ) → Memᴰ s (slots_held l) → Memᴰ s p.free → ⊥)
      → Distinct (released_all p l).free
  released_all-once u v apart = subst Distinct (sym (released_all-pushed l p)) (distinct-pushed (slots_held l) p.free u v apart)

-- bytes are only given back
pub released_all-bytes : (l : Texts) (p : Pool) → length (bytes_of (released_all p l).texts) ≤ length (bytes_of p.texts)
unfolding released
released_all-bytes [] p = omega arith
released_all-bytes (None ∷ l) p = released_all-bytes l p
released_all-bytes (Some s ∷ l) p =
    let ih = released_all-bytes l (released p (Some s)) in
    let o = one (dec_lt s (length p.texts)) in
    omega arith
  where
    one : Dec (s < length p.texts) → length (bytes_of (released p (Some s)).texts) ≤ length (bytes_of p.texts)
    one (yes h) = omega (arith, released-bytes p s h)
    one (no h) = rw (set_out p.texts s [] (omega arith)) (omega arith)

-- ---- the blocks

-- owners fewer than before
pub blocks-fewer : (a : Arena) (B C : ℕ → Block) → ((i : ℕ) → (C i ≡ B i) ⊎ (C i ≡ block 0 0)) → BlocksApart a B → BlocksApart a C
blocks-fewer a B C each R =
    record { shaped = R.shaped; inside = λ i. record { below = inside i (each i) }; apart = λ i j n. apart i j n (each i) (each j) }
  where
    inside : (i : ℕ) → (C i ≡ B i) ⊎ (C i ≡ block 0 0) → (C i).start + cap_of a (C i) ≤ a.used
    inside i (inl e) = rw e (R.inside i).below
    inside i (inr e) = rw e (omega arith)

    apart : (i j : ℕ) → (i ≡ j → ⊥) → (C i ≡ B i) ⊎ (C i ≡ block 0 0) → (C j ≡ B j) ⊎ (C j ≡ block 0 0) → Apart a (C i) (C j)
    apart i j n (inl e) (inl f) = rw (e, f) (R.apart i j n)
    apart i j n (inl e) (inr f) = empty_right (ap (λ (b : Block). b.len) f)
    apart i j n (inr e) f = empty_left (ap (λ (b : Block). b.len) e)
