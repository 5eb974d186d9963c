-- What every proof about the relation uses: columns changed at one place, live slots, and the birth that a handle means.
-- Assumes nothing.
use Rattle.std.specs.Prelude.{Option, None, Some}
use mathlib.Core.Path.{◌≡◌, refl, sym, ap, ◌∙◌, subst}
use mathlib.Core.Logic.{◌≢◌, ◌⊎◌, inl, inr}
use mathlib.Core.Bool.{Bool, true, false, cond, ◌&&◌, false≢true, true≢false}
use mathlib.Core.List.Memᴰ
use mathlib.Core.List.{List, [], ◌∷◌, ◌++◌, Memᴰ}
use Prim.Native.Nat.{ℕ, zero, suc, ◌+◌, ◌≤◌, ◌<◌}
use native.Mathlib.Omega.{arith}
use native.Mathlib.Decide.{ℕ_discrete, dec_lt}
use borrow.Author.Tests.{ltb-true, leb-true, eqb-true, eq-eqb, ne_eqb}
use lib.Dec.{eqb, ltb, leb}
use lib.ListN.{length, get_or, get_or-eq_default}
use lib.Seq.{get_or_at}
use Rattle.words.specs.Lists.{count_of}
use Rattle.words.proofs.Tests.{and_left, and_right, and_both}
use Rattle.records.specs.Handles.{handle_index, handle_generation}
use Rattle.model.specs.Kinds.{Kind, root, Which, children, attributes, namespaces, same_which}
use Rattle.model.specs.Doc.{Doc, Limits, limits_ok, generation_at, live_slot, handle_at, resolves, even, is_some, kind_in, or_else}
use Rattle.model.specs.Tree.{Tree, update, live_below, means}
use Rattle.laws.proofs.Handles.{handle-same, handle_word-halves}
use Rattle.laws.proofs.Sim.{Sim}

-- ---- columns

module _ {A : Type 0} where
  pub update_same : (f : ℕ → A) (i : ℕ) (v : A) → update f i v i ≡ v
  update_same f i v = rw (eq-eqb i i refl)

  pub update_other : (f : ℕ → A) (i : ℕ) (v : A) (x : ℕ) → x ≢ i → update f i v x ≡ f x
  update_other f i v x n = rw (ne_eqb x i n)

  pub get_or-snoc-same : (l : List A) (v d : A) → get_or (l ++ (v ∷ [])) (length l) d ≡ v
  get_or-snoc-same l v d = get_or_at l v [] d (length l) refl

  pub get_or-snoc-other : (l : List A) (v d : A) (j : ℕ) → j ≢ length l → get_or (l ++ (v ∷ [])) j d ≡ get_or l j d
  get_or-snoc-other [] v d zero n = absurd (n refl)
  get_or-snoc-other [] v d (suc j) n = refl
  get_or-snoc-other (x ∷ l) v d zero n = refl
  get_or-snoc-other (x ∷ l) v d (suc j) n = get_or-snoc-other l v d j (λ e. n (ap suc e))

pub same_which-refl : (w : Which) → same_which w w ≡ true
same_which-refl children = refl
same_which-refl attributes = refl
same_which-refl namespaces = refl

pub which-cases : (x w : Which) → (x ≡ w) ⊎ (same_which x w ≡ false)
which-cases children children = inl refl
which-cases children attributes = inr refl
which-cases children namespaces = inr refl
which-cases attributes children = inr refl
which-cases attributes attributes = inl refl
which-cases attributes namespaces = inr refl
which-cases namespaces children = inr refl
which-cases namespaces attributes = inr refl
which-cases namespaces namespaces = inl refl

-- ---- an entry is there when it is counted

pub mem-count : (x : ℕ) (l : List ℕ) → Memᴰ x l → 0 < count_of (eqb x) l
mem-count x [] m = absurd (Memᴰ.not-nil m)
mem-count x (y ∷ l) m = go (λ n. mem-count x l n) (Memᴰ.cases_cons m)
  where
    go : (Memᴰ x l → 0 < count_of (eqb x) l) → (x ≡ y) ⊎ Memᴰ x l → 0 < cond (eqb x y) 1 0 + count_of (eqb x) l
    go ih (inl e) = rw (eq-eqb x y e) (omega arith)
    go ih (inr n) = omega (arith, ih n)

pub count-mem : (x : ℕ) (l : List ℕ) → 0 < count_of (eqb x) l → Memᴰ x l
count-mem x [] h = absurd (omega arith)
count-mem x (y ∷ l) h = go (λ n. count-mem x l n) (ℕ_discrete x y) h
  where
    go : (0 < count_of (eqb x) l → Memᴰ x l) → Dec (x ≡ y) → 0 < cond (eqb x y) 1 0 + count_of (eqb x) l → Memᴰ x (y ∷ l)
    go ih (yes e) k = Memᴰ.head e
    go ih (no n) k =
        let q : cond {A = ℕ} (eqb x y) 1 0 ≡ 0 = rw (ne_eqb x y n) in
        Memᴰ.tail (ih (omega arith))

-- ---- the limits

first-five : (a b c d e f g h i : Bool) → (a && b && c && d && e && f && g && h && i) ≡ true
    → (a ≡ true) × (b ≡ true) × (c ≡ true) × (d ≡ true) × (e ≡ true)
first-five a b c d e f g h i q =
    let q₅ : (a && b && c && d && e) ≡ true =
    and_left (a && b && c && d && e) f
    (and_left (a && b && c && d && e && f) g
    (and_left (a && b && c && d && e && f && g) h (and_left (a && b && c && d && e && f && g && h) i q))) in
    let q₄ : (a && b && c && d) ≡ true = and_left (a && b && c && d) e q₅ in
    let q₃ : (a && b && c) ≡ true = and_left (a && b && c) d q₄ in
    let q₂ : (a && b) ≡ true = and_left (a && b) c q₃ in
    (and_left a b q₂, and_right a b q₂, and_right (a && b) c q₃, and_right (a && b && c) d q₄, and_right (a && b && c && d) e q₅)

module _ (l : Limits) (ok : limits_ok l ≡ true) where
  limit-tests : (ltb 0 l.nodes ≡ true) × (leb l.nodes 65536 ≡ true) × (leb (l.entries children) 262144 ≡ true)
      × (leb (l.entries attributes) 262144 ≡ true) × (leb (l.entries namespaces) 262144 ≡ true)
  unfolding limits_ok
  limit-tests =
      first-five (ltb 0 l.nodes) (leb l.nodes 65536) (leb (l.entries children) 262144) (leb (l.entries attributes) 262144)
      (leb (l.entries namespaces) 262144) (leb l.texts 131072) (leb l.text_bytes 16777216) (leb l.names 4096) (leb l.name_bytes 1048576) ok

  pub limit-some : 0 < l.nodes
  limit-some = ltb-true 0 l.nodes limit-tests.0

  pub limit-nodes : l.nodes ≤ 65536
  limit-nodes = leb-true l.nodes 65536 limit-tests.1

  pub limit-entries : (w : Which) → l.entries w ≤ 262144
  limit-entries children = leb-true (l.entries children) 262144 limit-tests.2
  limit-entries attributes = leb-true (l.entries attributes) 262144 limit-tests.3
  limit-entries namespaces = leb-true (l.entries namespaces) 262144 limit-tests.4

-- ---- live slots

module _ (d : Doc) (i : ℕ) where
  pub live-even : live_slot d i ≡ true → even (generation_at d i) ≡ true
  live-even l = and_left (even (generation_at d i)) (is_some (get_or d.kinds i None)) l

  pub live-some : live_slot d i ≡ true → is_some (get_or d.kinds i None) ≡ true
  live-some l = and_right (even (generation_at d i)) (is_some (get_or d.kinds i None)) l

  -- the words of a live slot are a node
  pub live-node : live_slot d i ≡ true → get_or d.kinds i None ≡ Some (kind_in d i)
  live-node l = go (get_or d.kinds i None) (live-some l)
    where
      go : (o : Option (Kind ℕ (Option ℕ))) → is_some o ≡ true → o ≡ Some (or_else root o)
      go None e = absurd (false≢true e)
      go (Some k) e = refl

  pub odd-not-live : even (generation_at d i) ≡ false → live_slot d i ≡ false
  odd-not-live o = rw o

  -- past the slots made the generation reads as odd
  pub even-below : even (generation_at d i) ≡ true → i < length d.gens
  even-below l = go (dec_lt i (length d.gens))
    where
      go : Dec (i < length d.gens) → i < length d.gens
      go (yes h) = h
      go (no h) = absurd (false≢true (sym (ap even (get_or-eq_default d.gens 1 (omega arith))) ∙ l))

  pub live-below : live_slot d i ≡ true → i < length d.gens
  live-below l = even-below (live-even l)

-- ---- births and handles

module _ (d : Doc) (t : Tree) (hs : ℕ → ℕ) (S : Sim d t hs) where
  -- a slot of even generation holds a node
  pub even-live : (i : ℕ) → even (generation_at d i) ≡ true → live_slot d i ≡ true
  even-live i e = and_both (even (generation_at d i)) (is_some (get_or d.kinds i None)) e (S.nodes i e)

  pub birth-below : (b : ℕ) → t.live b ≡ true → handle_index (hs b) < length d.gens
  birth-below b lb = live-below d (handle_index (hs b)) (S.lives b lb)

  pub handle-of-live : (b : ℕ) → t.live b ≡ true → handle_at d (handle_index (hs b)) ≡ hs b
  handle-of-live b lb = rw (S.gen b lb) (handle_word-halves (hs b))

  pub resolves-live : (b : ℕ) → t.live b ≡ true → resolves d (hs b) ≡ true
  resolves-live b lb =
      and_both (live_slot d (handle_index (hs b))) (eqb (generation_at d (handle_index (hs b))) (handle_generation (hs b)))
      (S.lives b lb) (eq-eqb _ _ (S.gen b lb))

  -- a handle that resolves is a live birth's
  pub birth-of : (h : ℕ) → resolves d h ≡ true → (b : ℕ) × (t.live b ≡ true) × (hs b ≡ h)
  birth-of h r =
      let i : ℕ = handle_index h in
      let l : live_slot d i ≡ true = and_left (live_slot d i) (eqb (generation_at d i) (handle_generation h)) r in
      let g : generation_at d i ≡ handle_generation h = eqb-true _ _ (and_right (live_slot d i) (eqb (generation_at d i) (handle_generation h)) r) in
      let o = S.owner i l in
      (o.0, o.1, handle-same (hs o.0) h o.2 (sym (S.gen o.0 o.1) ∙ ap (generation_at d) o.2 ∙ g))

  -- handles of live births are equal exactly when the births are
  pub hs-injective : (a b : ℕ) → t.live a ≡ true → t.live b ≡ true → hs a ≡ hs b → a ≡ b
  hs-injective a b la lb e = S.inj a b la lb (ap handle_index e)

  pub same-births : (a b : ℕ) → t.live a ≡ true → t.live b ≡ true → eqb (hs a) (hs b) ≡ eqb a b
  same-births a b la lb = go (ℕ_discrete a b)
    where
      go : Dec (a ≡ b) → eqb (hs a) (hs b) ≡ eqb a b
      go (yes e) = eq-eqb (hs a) (hs b) (ap hs e) ∙ sym (eq-eqb a b e)
      go (no n) = ne_eqb (hs a) (hs b) (λ e. n (hs-injective a b la lb e)) ∙ sym (ne_eqb a b n)

  -- what the search finds, or that there is nothing to find
  abbrev Found : ℕ → ℕ → Type 0
  Found h n = (b : ℕ) × (live_below t.live hs h n ≡ Some b) × (t.live b ≡ true) × (hs b ≡ h)

  abbrev Missing : ℕ → ℕ → Type 0
  Missing h n = (live_below t.live hs h n ≡ None) × ((b : ℕ) → b < n → t.live b ≡ true → hs b ≢ h)

  found_below : (h n : ℕ) → Found h n ⊎ Missing h n
  found_below h zero = inr (refl, λ b lt. absurd (omega arith))
  found_below h (suc n) = go (found_below h n) (t.live n && eqb (hs n) h) refl
    where
      go : Found h n ⊎ Missing h n → (q : Bool) → (t.live n && eqb (hs n) h) ≡ q
          → ((b : ℕ) × (cond q (Some n) (live_below t.live hs h n) ≡ Some b) × (t.live b ≡ true) × (hs b ≡ h))
          ⊎ ((cond q (Some n) (live_below t.live hs h n) ≡ None) × ((b : ℕ) → b < suc n → t.live b ≡ true → hs b ≢ h))
      go ih true e =
          inl (n, refl, and_left (t.live n) (eqb (hs n) h) e, eqb-true (hs n) h (and_right (t.live n) (eqb (hs n) h) e))
      go (inl ih) false e = inl ih
      go (inr ih) false e = inr (ih.0, λ b lt lb. last b lt lb (ℕ_discrete b n))
        where
          last : (b : ℕ) → b < suc n → t.live b ≡ true → Dec (b ≡ n) → hs b ≢ h
          last b lt lb (yes q) = λ f.
              true≢false (sym (and_both (t.live n) (eqb (hs n) h) (ap t.live (sym q) ∙ lb) (eq-eqb (hs n) h (ap hs (sym q) ∙ f))) ∙ e)
          last b lt lb (no m) = ih.1 b (omega arith) lb

  pub means-live : (b : ℕ) → t.live b ≡ true → means t hs (hs b) ≡ Some b
  means-live b lb = go (found_below (hs b) t.births)
    where
      go : Found (hs b) t.births ⊎ Missing (hs b) t.births → means t hs (hs b) ≡ Some b
      go (inl o) = o.1 ∙ ap {B = Option ℕ} Some (hs-injective o.0 b o.2 lb o.3)
      go (inr o) = absurd (o.1 b (S.counted b lb) lb refl)

  pub means-none : (h : ℕ) → resolves d h ≡ false → means t hs h ≡ None
  means-none h r = go (found_below h t.births)
    where
      go : Found h t.births ⊎ Missing h t.births → means t hs h ≡ None
      go (inl o) = absurd (true≢false (sym (ap (resolves d) (sym o.3) ∙ resolves-live o.0 o.2) ∙ r))
      go (inr o) = o.0

  -- a handle is that of a live birth, or stale on both sides
  pub by-handle : (P : ℕ → Type 0) → ((b : ℕ) → t.live b ≡ true → P (hs b)) → ((h : ℕ) → means t hs h ≡ None → resolves d h ≡ false → P h)
      → (h : ℕ) → P h
  by-handle P live stale h = go (resolves d h) refl
    where
      go : (q : Bool) → resolves d h ≡ q → P h
      go true e = let o = birth-of h e in subst P o.2 (live o.0 o.1)
      go false e = stale h (means-none h e) e
