-- Handles that resolve, and slots that are taken and freed: each way through the definitions, and what they tell.
-- Assumes nothing.
use Rattle.std.specs.Prelude.{None, Some}
use Rattle.std.proofs.Common.{◌≡◌, ℕ, ◌+◌, ◌-◌, ◌%◌, ◌<◌, ◌≤◌, Bool, true, false, cond, ◌&&◌, ◌||◌, eqb, ltb, List, get_or, set, sym, refl, ap, ◌∙◌, subst, arith, ltb-true, le-ltb, lt-ltb, eq-eqb, eqb-true}
use mathlib.Core.Bool.{false≢true}
use native.Mathlib.Decide.{dec_lt}
use Rattle.words.proofs.Tests.{and_left, and_right}
use Rattle.records.specs.declared.NodeId.{NodeId}
use Rattle.records.specs.declared.Node.{Node}
use Rattle.slots.specs.declared.slot.Taken.{Taken}
use Rattle.records.specs.Records.{is_node, found_node, node_of}
use Rattle.slots.specs.Regions.{generation_at, free_at, record_at, node_at, put_generation, put_order, no_position}
use Rattle.slots.specs.Slots.{up, is_current, resolves, resolved, taken, taken_generations, taken_words, CanTake}
use Rattle.records.proofs.Records.{is-node-found, found-is-node}

-- ---- handles

module _ (n : ℕ) (w : List ℕ) (made : ℕ) (h : NodeId) where
  -- what a handle that resolves tells
  pub resolves-found : (m : Node) → resolved n w made h ≡ Some m → resolves n w made h ≡ true
  unfolding resolved resolves node_at
  resolves-found m e = go (is_current n w made h) e
    where
      go : (t : Bool) → cond t (node_of (record_at n w h.index)) None ≡ Some m → (t && is_node (record_at n w h.index)) ≡ true
      go true e = found-is-node (record_at n w h.index) m e
      go false e =
          let z : ◌≡◌ {A = ℕ} 0 1 = cc in
          absurd (omega arith)

  pub resolves-none : resolved n w made h ≡ None → resolves n w made h ≡ false
  unfolding resolved resolves node_at
  resolves-none e = go (is_current n w made h) (is_node (record_at n w h.index)) refl e
    where
      go : (t u : Bool) → is_node (record_at n w h.index) ≡ u → cond t (node_of (record_at n w h.index)) None ≡ None → (t && u) ≡ false
      go true true k e =
          let f = is-node-found (record_at n w h.index) k in
          let z : ◌≡◌ {A = ℕ} 0 1 = cc in
          absurd (omega arith)
      go true false k e = refl
      go false u k e = refl

  pub resolved-found : resolves n w made h ≡ true → resolved n w made h ≡ Some (found_node (record_at n w h.index))
  unfolding resolved resolves node_at
  resolved-found e =
      let t = and_left (is_current n w made h) (is_node (record_at n w h.index)) e in
      let u = and_right (is_current n w made h) (is_node (record_at n w h.index)) e in
      rw t (is-node-found (record_at n w h.index) u)

  pub record Current : Type 0 where
    pub made-slot : h.index < made
    pub same-generation : generation_at n w h.index ≡ h.generation
    pub even-generation : h.generation % 2 ≡ 0

  pub resolves-current : resolves n w made h ≡ true → Current
  unfolding resolves is_current
  resolves-current e =
      let t = and_left (is_current n w made h) (is_node (record_at n w h.index)) e in
      let u = and_right (ltb h.index made) (eqb (generation_at n w h.index) h.generation && eqb (h.generation % 2) 0) t in
      record {
        made-slot = ltb-true _ _ (and_left (ltb h.index made) (eqb (generation_at n w h.index) h.generation && eqb (h.generation % 2) 0) t);
        same-generation = eqb-true _ _ (and_left (eqb (generation_at n w h.index) h.generation) (eqb (h.generation % 2) 0) u);
        even-generation = eqb-true _ _ (and_right (eqb (generation_at n w h.index) h.generation) (eqb (h.generation % 2) 0) u);
      }

  pub current-resolves : Current → is_node (record_at n w h.index) ≡ true → resolves n w made h ≡ true
  unfolding resolves is_current
  current-resolves k e = rw (lt-ltb _ _ k.made-slot, eq-eqb _ _ k.same-generation, eq-eqb _ _ k.even-generation, e)

-- ---- taking a slot

module _ (n : ℕ) (w : List ℕ) (made free : ℕ) where
  -- the slot on top of the free stack
  pub record Top : Type 0 where
    pub slot : get_or w (n + (free - 1)) 0 < n
    pub narrow : get_or w (n + (free - 1)) 0 < 4294967296
    pub generation : generation_at n w (get_or w (n + (free - 1)) 0) < 4294967296

  pub top : CanTake n w made free → 0 < free → Top
  unfolding free_at
  top k b =
      let s = k.rule-2 (free - 1) (omega arith) in
      record { slot = omega (arith, k.made-slots); narrow = omega (arith, k.made-slots, k.narrow); generation = k.rule-1 (get_or w (n + (free - 1)) 0) s }

  -- a slot reused
  pub reused : 0 < free → (g : ℕ) (v : List ℕ) (s : ℕ) → s ≡ get_or w (n + (free - 1)) 0
      → (g ≡ up (generation_at n w s)) × (v ≡ put_generation n w s (up (generation_at n w s)))
      → (record { id = record { index = s; generation = g }; made = made; free = free - 1 } ≡ taken n w made free) × (v ≡ taken_generations n w made free)
  unfolding taken taken_generations free_at
  reused b g v s q e = rw (lt-ltb 0 free b, ← q) (rw e.0, e.1)

  -- a new slot
  pub new-slot : CanTake n w made free → free ≤ 0 → made < n
  new-slot k z = go (ltb made n) refl k.slot
    where
      go : (t : Bool) → ltb made n ≡ t → (ltb 0 free || t) ≡ true → made < n
      go true e h = ltb-true _ _ e
      go false e h = absurd (false≢true (rw (le-ltb 0 free z) at h))

  pub minted : free ≤ 0
      → (record { id = record { index = made; generation = 0 }; made = made + 1; free = 0 } ≡ taken n w made free) × (set w made 0 ≡ taken_generations n w made free)
  unfolding taken taken_generations put_generation
  minted z =
      let e : free ≡ 0 = omega arith in
      rw (le-ltb 0 free z, e) (refl, refl)

  -- the slot taken, and its order word
  pub taken_below : CanTake n w made free → (t : Taken) → t ≡ taken n w made free → t.id.index < n
  unfolding taken free_at
  taken_below k t e = subst (λ (x : Taken). x.id.index < n) (sym e) (go (dec_lt 0 free))
    where
      go : Dec (0 < free) → cond (ltb 0 free) (get_or w (n + (free - 1)) 0) made < n
      go (yes b) = rw (lt-ltb 0 free b) (top k b).slot
      go (no b) = rw (le-ltb 0 free (omega arith)) (new-slot k (omega arith))

  pub unplaced : (t : Taken) (v u : List ℕ) → (t ≡ taken n w made free) × (v ≡ taken_generations n w made free) → u ≡ put_order n v t.id.index no_position
      → (t ≡ taken n w made free) × (u ≡ taken_words n w made free)
  unfolding taken taken_words
  unplaced t v u e q = (e.0, q ∙ ap (λ (x : List ℕ). put_order n x t.id.index no_position) e.1 ∙ ap (λ (x : Taken). put_order n (taken_generations n w made free) x.id.index no_position) e.0)
