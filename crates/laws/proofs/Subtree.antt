-- What `free_subtree` visits: the handles of the births at and below the top, each once.
-- Assumes nothing.
use Rattle.std.specs.Prelude.{Some}
use mathlib.Core.Path.{◌≡◌, sym, ap, ap₂, ◌∙◌}
use mathlib.Core.Logic.{◌⊎◌, inl, inr}
use mathlib.Core.Bool.{true}
use mathlib.Core.List.Memᴰ
use mathlib.Core.List.{List, [], ◌∷◌, ◌++◌, map, reverse, Memᴰ}
use Prim.Native.Nat.{ℕ}
use native.Mathlib.Omega.{arith}
use lib.ListN.{length}
use Rattle.words.proofs.Lists.{map-append}
use Rattle.records.specs.Handles.{handle_index}
use Rattle.model.specs.Kinds.{Which, children, attributes, namespaces, which_of}
use Rattle.model.specs.Doc.{Doc}
use Rattle.model.specs.Edits.{walk, pushed_by, subtree}
use Rattle.model.specs.Tree.{Tree}
use Rattle.laws.proofs.Wf.{Distinct}
use Rattle.laws.proofs.Sim.{Sim}
use Rattle.laws.proofs.Nested.{Nested}
use Rattle.laws.proofs.Membership.{mem-map, mem-map-cases, map-reverse, mem-reverse, mem-reverse-old, distinct_append, distinct-map, distinct-reverse}
use Rattle.laws.proofs.Climb.{Below}
use Rattle.laws.proofs.Walk.{visit, walk-is-visit, walk-called, tall, visited, visit-distinct, below-visited}
use Rattle.laws.proofs.Cycle.{slots-enough}
use Rattle.laws.proofs.Freeing.{slots_of}

-- two lists of one node share nothing
pub lists-apart : {t : Tree} → Nested t → (w v : Which) → (w ≡ v → ⊥) → (x y : ℕ) → t.live x ≡ true → Memᴰ y (t.lists w x) → Memᴰ y (t.lists v x) → ⊥
lists-apart N w v n x y lx m q = n (sym (N.downward w x y lx m).2 ∙ (N.downward v x y lx q).2)

-- what the walk pushes after a birth
abbrev pub pushed_after : Tree → ℕ → List ℕ
pushed_after t x = reverse (t.lists children x ++ (t.lists attributes x ++ t.lists namespaces x))

module _ {t : Tree} (N : Nested t) where
  pushed-which : (x y : ℕ) → Memᴰ y (pushed_after t x) → (w : Which) × Memᴰ y (t.lists w x)
  pushed-which x y m = one (Memᴰ.append_cases (t.lists children x) (mem-reverse-old (t.lists children x ++ (t.lists attributes x ++ t.lists namespaces x)) m))
    where
      two : Memᴰ y (t.lists attributes x) ⊎ Memᴰ y (t.lists namespaces x) → (w : Which) × Memᴰ y (t.lists w x)
      two (inl q) = (attributes, q)
      two (inr q) = (namespaces, q)

      one : Memᴰ y (t.lists children x) ⊎ Memᴰ y (t.lists attributes x ++ t.lists namespaces x) → (w : Which) × Memᴰ y (t.lists w x)
      one (inl q) = (children, q)
      one (inr q) = two (Memᴰ.append_cases (t.lists attributes x) q)

  pushed-kid : (x y : ℕ) → t.live x ≡ true → Memᴰ y (pushed_after t x) → (t.live y ≡ true) × (t.parent y ≡ Some x)
  pushed-kid x y lx m =
      let o = pushed-which x y m in
      let k = N.downward o.0 x y lx o.1 in
      (k.0, k.1)

  pushed-all : (x y : ℕ) → t.live y ≡ true → t.parent y ≡ Some x → Memᴰ y (pushed_after t x)
  pushed-all x y ly e = mem-reverse (t.lists children x ++ (t.lists attributes x ++ t.lists namespaces x)) (go (which_of (t.kind y)) (N.upward y x ly e).2)
    where
      go : (w : Which) → Memᴰ y (t.lists w x) → Memᴰ y (t.lists children x ++ (t.lists attributes x ++ t.lists namespaces x))
      go children m = Memᴰ.append_left (t.lists attributes x ++ t.lists namespaces x) m
      go attributes m = Memᴰ.append_right (t.lists children x) (Memᴰ.append_left (t.lists namespaces x) m)
      go namespaces m = Memᴰ.append_right (t.lists children x) (Memᴰ.append_right (t.lists attributes x) m)

  pushed-once : (x : ℕ) → t.live x ≡ true → Distinct (pushed_after t x)
  pushed-once x lx =
      distinct-reverse (t.lists children x ++ (t.lists attributes x ++ t.lists namespaces x))
      (distinct_append (t.lists children x) (t.lists attributes x ++ t.lists namespaces x) (N.once children x lx)
      (distinct_append (t.lists attributes x) (t.lists namespaces x) (N.once attributes x lx) (N.once namespaces x lx)
      (λ y m q. lists-apart N attributes namespaces (λ e. let z : ◌≡◌ {A = ℕ} 0 1 = cc in omega arith) x y lx m q))
      (λ y m q. go y m (Memᴰ.append_cases (t.lists attributes x) q)))
    where
      go : (y : ℕ) → Memᴰ y (t.lists children x) → Memᴰ y (t.lists attributes x) ⊎ Memᴰ y (t.lists namespaces x) → ⊥
      go y m (inl q) = lists-apart N children attributes (λ e. let z : ◌≡◌ {A = ℕ} 0 1 = cc in omega arith) x y lx m q
      go y m (inr q) = lists-apart N children namespaces (λ e. let z : ◌≡◌ {A = ℕ} 0 1 = cc in omega arith) x y lx m q

-- the births that are freed with b
abbrev pub freed : Tree → ℕ → List ℕ
freed t b = visit (pushed_after t) t.births b

module _ {t : Tree} (N : Nested t) (b : ℕ) (lb : t.live b ≡ true) where
  pub freed-once : Distinct (freed t b)
  freed-once = visit-distinct N (pushed_after t) (pushed-kid N) (pushed-once N) t.births b lb

  pub freed-below : (y : ℕ) → Memᴰ y (freed t b) → (t.live y ≡ true) × Below t.parent b y
  freed-below y m = visited N (pushed_after t) (pushed-kid N) t.births b lb y m

  pub below-freed : {y : ℕ} → Below t.parent b y → t.live y ≡ true → Memᴰ y (freed t b)
  below-freed r ly = below-visited N (pushed_after t) (pushed-kid N) (pushed-all N) b lb r ly

-- ---- slots of births

module _ {d : Doc} {t : Tree} {hs : ℕ → ℕ} (S : Sim d t hs) where
  pub slot-of : (l : List ℕ) {x : ℕ} → Memᴰ x l → Memᴰ (handle_index (hs x)) (slots_of (map hs l))
  slot-of l m = mem-map handle_index (map hs l) (mem-map hs l m)

  pub birth-in : (l : List ℕ) {i : ℕ} → Memᴰ i (slots_of (map hs l)) → (x : ℕ) × Memᴰ x l × (i ≡ handle_index (hs x))
  birth-in l m =
      let o = mem-map-cases handle_index (map hs l) m in
      let q = mem-map-cases hs l o.1 in
      (q.0, q.1, o.2 ∙ ap handle_index q.2)

  -- live births, none twice, have slots, none twice
  pub slots-once : (l : List ℕ) → Distinct l → ((x : ℕ) → Memᴰ x l → t.live x ≡ true) → Distinct (slots_of (map hs l))
  slots-once l u al =
      distinct-map handle_index (map hs l)
      (λ h k mh mk e.
      let p = mem-map-cases hs l mh in
      let q = mem-map-cases hs l mk in
      p.2 ∙ ap hs (S.inj p.0 q.0 (al p.0 p.1) (al q.0 q.1) (sym (ap handle_index p.2) ∙ e ∙ ap handle_index q.2)) ∙ sym q.2)
      (distinct-map hs l (λ x y mx my e. S.inj x y (al x mx) (al y my) (ap handle_index e)) u)

  -- a walk of the document along lists that are the tree's is the walk of the tree
  pub walk-births : Nested t → (outer : ℕ → List ℕ) (inner : ℕ → List ℕ) → ((x : ℕ) → t.live x ≡ true → outer (hs x) ≡ map hs (inner x))
      → ((x y : ℕ) → t.live x ≡ true → Memᴰ y (inner x) → (t.live y ≡ true) × (t.parent y ≡ Some x)) → ((x : ℕ) → t.live x ≡ true → Distinct (inner x))
      → (b : ℕ) → t.live b ≡ true → walk outer (length d.gens) (hs b ∷ []) ≡ map hs (visit inner t.births b)
  walk-births N outer inner agree kid once b lb =
      walk-called hs (λ x. t.live x ≡ true) outer inner agree (λ x y lx m. (kid x y lx m).0) (length d.gens) (b ∷ []) (λ y m. go y (Memᴰ.cases_cons m))
      ∙ ap (map hs)
      (walk-is-visit inner t.births (length d.gens) b (tall N inner kid b lb)
      (slots-enough S (visit inner t.births b) (visit-distinct N inner kid once t.births b lb) (λ y m. (visited N inner kid t.births b lb y m).0)))
    where
      go : (y : ℕ) → (y ≡ b) ⊎ Memᴰ y [] → t.live y ≡ true
      go y (inl e) = ap t.live e ∙ lb
      go y (inr m) = absurd (Memᴰ.not-nil m)

  pub subtree-births : Nested t → (b : ℕ) → t.live b ≡ true → subtree d (hs b) ≡ map hs (freed t b)
  subtree-births N b lb = walk-births N (pushed_by d) (pushed_after t) agree (pushed-kid N) (pushed-once N) b lb
    where
      agree : (x : ℕ) → t.live x ≡ true → pushed_by d (hs x) ≡ map hs (pushed_after t x)
      agree x lx =
          ap reverse
          (ap₂ ◌++◌ (S.lists children x lx)
          (ap₂ ◌++◌ (S.lists attributes x lx) (S.lists namespaces x lx) ∙ sym (map-append hs (t.lists attributes x) (t.lists namespaces x)))
          ∙ sym (map-append hs (t.lists children x) (t.lists attributes x ++ t.lists namespaces x)))
          ∙ sym (map-reverse hs (t.lists children x ++ (t.lists attributes x ++ t.lists namespaces x)))
