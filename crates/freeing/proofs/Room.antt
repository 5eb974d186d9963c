-- Live nodes, none twice, can all be freed: the free list and the free text list have room for them.
-- Assumes nothing.
use mathlib.Core.Path.{◌≡◌, refl, sym, ap, ◌∙◌, subst}
use mathlib.Core.Logic.{◌⊎◌, inl, inr}
use mathlib.Core.Bool.{Bool, true, false, cond}
use mathlib.Core.List.Memᴰ
use mathlib.Core.List.{List, [], ◌∷◌, ◌++◌, map, append-nil, Memᴰ}
use Prim.Native.Nat.{ℕ, zero, suc, ◌+◌, ◌%◌, ◌≤◌, ◌<◌}
use native.Mathlib.Omega.{arith}
use native.Mathlib.Decide.{dec_lt}
use lib.Dec.{eqb}
use lib.ListN.{length, length-append, length-map}
use borrow.Author.Tests.{eqb-true}
use Rattle.words.specs.Lists.{count_of, without, joined, tabulate}
use Rattle.words.proofs.Lists.{count_of-append}
use Rattle.words.proofs.Joined.{joined-append}
use Rattle.records.specs.Handles.{handle_index}
use Rattle.model.specs.Kinds.{texts_of}
use Rattle.model.specs.Doc.{Doc, generation_at, live_slot, resolves, kind_at}
use Rattle.model.specs.Rules.{slots_held, held_in, held}
use Rattle.laws.proofs.Wf.{Distinct}
use Rattle.laws.proofs.Basics.{mem-count, live-even, live-below}
use Rattle.laws.proofs.Counting.{mem_index, get_or-below}
use Rattle.laws.proofs.Freeing.{slots_held-append}
use Rattle.laws.proofs.Membership.{mem-without-old, distinct_without, distinct_append, distinct-map, mem-map-cases, pigeonhole}
use Rattle.walks.proofs.Distinct.{count-distinct}
use Rattle.walks.proofs.Walkable.{live_of, same_index}
use Rattle.texts.specs.Pool.{Pool, reclaimed}
use Rattle.texts.specs.Rule.{FreeTexts}
use Rattle.releasing.proofs.Released.{reclaimed-none}
use Rattle.model.specs.Edits.{released_all, free_all}
use Rattle.edits.specs.Pooled.{set_pool}
use Rattle.freeing.specs.Freed.{free_all_slots}
use Rattle.freeing.specs.Asked.{Freeable, Reclaimable}
use Rattle.freeing.proofs.Pushed.{pushed_all-texts, pushed_all-count, reclaimed-all}
use Rattle.freeing.proofs.AllFreed.{texts_of_all, AllFreeable}

-- ---- the lists of different numbers below n are part of all those lists

module _ (p : ℕ → Bool) (g : ℕ → List ℕ) where
  abbrev counts : List ℕ → ℕ
  counts m = count_of p (joined g m)

  counts-cons : (y : ℕ) (l : List ℕ) → count_of p (joined g (y ∷ l)) ≡ count_of p (g y) + count_of p (joined g l)
  counts-cons y l = count_of-append p (g y) (joined g l)

  counts-without : (x : ℕ) (l : List ℕ) → count_of p (joined g l) ≤ count_of p (g x) + count_of p (joined g (without (eqb x) l))
  counts-without x [] = omega arith
  counts-without x (y ∷ l) = go (counts-without x l) (eqb x y) refl
    where
      go : counts l ≤ count_of p (g x) + counts (without (eqb x) l) → (t : Bool) → eqb x y ≡ t → counts (y ∷ l) ≤ count_of p (g x) + counts (cond t l (y ∷ without (eqb x) l))
      go ih true e = omega (arith, counts-cons y l, ap (λ (i : ℕ). count_of p (g i)) (eqb-true x y e))
      go ih false e = omega (arith, counts-cons y l, counts-cons y (without (eqb x) l))

  pub counts-below : (n : ℕ) (l : List ℕ) → Distinct l → ((x : ℕ) → Memᴰ x l → x < n) → count_of p (joined g l) ≤ count_of p (joined g (tabulate (λ i. i) n))
  counts-below zero [] u h = omega arith
  counts-below zero (x ∷ l) u h = absurd (let z = h x (Memᴰ.head refl) in omega arith)
  counts-below (suc n) l u h =
      let v = distinct_without n l u in
      let ih = counts-below n (without (eqb n) l) v.0 below in
      omega (
        arith,
        counts-without n l,
        ap (count_of p) (joined-append g (tabulate (λ i. i) n) (n ∷ [])),
        count_of-append p (joined g (tabulate (λ i. i) n)) (g n ++ []),
        ap (count_of p) (append-nil (g n)),
      )
    where
      below : (x : ℕ) → Memᴰ x (without (eqb n) l) → x < n
      below x m =
          let b = h x (mem-without-old n l m) in
          let ne : x ≡ n → ⊥ = λ e. (distinct_without n l u).1 (subst (λ (z : ℕ). Memᴰ z (without (eqb n) l)) e m) in
          omega arith

-- two lists that together count each number at most once, and only numbers below n
count_room : (n : ℕ) (a b : List ℕ) → ((x : ℕ) → count_of (eqb x) a + count_of (eqb x) b ≤ 1) → ((x : ℕ) → 0 < count_of (eqb x) a + count_of (eqb x) b → x < n) → length a + length b ≤ n
count_room n a b once below =
    omega (
      arith,
      length-append a b,
      pigeonhole n (a ++ b) (count-distinct (a ++ b) (λ x m. omega (arith, once x, count_of-append (eqb x) a b)))
          (λ x m. below x (omega (arith, mem-count x (a ++ b) m, count_of-append (eqb x) a b))),
    )

module _ (D : Doc) (F : Freeable D) (l : List ℕ) (once : (y : ℕ) → count_of (eqb y) l ≤ 1) (live : (y : ℕ) → Memᴰ y l → resolves D y ≡ true) where
  -- ---- the slots

  abbrev slots : List ℕ
  slots = map handle_index l

  slots-once : Distinct slots
  slots-once = distinct-map handle_index l (λ a b ma mb e. same_index D a b (live a ma) (live b mb) e) (count-distinct l (λ x m. once x))

  slots-live : (s : ℕ) → Memᴰ s slots → live_slot D s ≡ true
  slots-live s m = let o = mem-map-cases handle_index l m in ap (live_slot D) o.2 ∙ live_of D o.0 (live o.0 o.1)

  free-below : (s : ℕ) → Memᴰ s D.free → s < length D.gens
  free-below s m = let o = mem_index D.free s 0 m in subst (λ (x : ℕ). x < length D.gens) o.2 (F.free_list.inside o.0 o.1)

  free-apart : (s : ℕ) → Memᴰ s slots → Memᴰ s D.free → ⊥
  free-apart s m q =
      let b = free-below s q in
      let e = eqb-true (generation_at D s % 2) 0 (live-even D s (slots-live s m)) in
      omega (arith, F.free_list.once s b, mem-count s D.free q, ap (λ (g : ℕ). g % 2) (get_or-below D.gens s 1 0 b))

  free-once : Distinct D.free
  free-once = count-distinct D.free (λ s m. omega (arith, F.free_list.once s (free-below s m)))

  pub free-room : length D.free + length l ≤ D.limits.nodes
  free-room =
      let p = pigeonhole (length D.gens) (slots ++ D.free) (distinct_append slots D.free slots-once free-once free-apart)
      (λ s m. below s (Memᴰ.append_cases slots m)) in
      omega (arith, F.slots, length-append slots D.free, length-map l handle_index)
    where
      below : (s : ℕ) → Memᴰ s slots ⊎ Memᴰ s D.free → s < length D.gens
      below s (inl m) = live-below D s (slots-live s m)
      below s (inr m) = free-below s m

  -- ---- the texts

  held-texts : (m : List ℕ) → ((y : ℕ) → Memᴰ y m → resolves D y ≡ true) → slots_held (texts_of_all D m) ≡ joined (held_in D) (map handle_index m)
  held-texts [] a = refl
  held-texts (h ∷ m) a =
      let e : slots_held (texts_of (kind_at D h)) ≡ held_in D (handle_index h) =
      sym (ap (λ (t : Bool). cond t (slots_held (texts_of (kind_at D h))) []) (live_of D h (a h (Memᴰ.head refl)))) in
      slots_held-append (texts_of (kind_at D h)) (texts_of_all D m)
      ∙ ap (λ (x : List ℕ). x ++ slots_held (texts_of_all D m)) e
      ∙ ap (λ (x : List ℕ). held_in D (handle_index h) ++ x) (held-texts m (λ y q. a y (Memᴰ.tail q)))

  abbrev texts : List ℕ
  texts = slots_held (texts_of_all D l)

  -- each is held by a live node
  text-held : (t : ℕ) → count_of (eqb t) texts ≤ count_of (eqb t) (held D)
  text-held t =
      let e = ap (count_of (eqb t)) (held-texts l live) in
      omega (arith, counts-below (eqb t) (held_in D) (length D.gens) slots slots-once (λ s m. live-below D s (slots-live s m)))

  text-once : (t : ℕ) → count_of (eqb t) texts + count_of (eqb t) D.pool.free ≤ 1
  text-once t = go (dec_lt t (length D.pool.texts))
    where
      go : Dec (t < length D.pool.texts) → count_of (eqb t) texts + count_of (eqb t) D.pool.free ≤ 1
      go (yes b) = omega (arith, text-held t, F.texts.once t b)
      go (no b) = omega (arith, text-held t, F.texts.inside t (omega arith))

  text-below : (t : ℕ) → 0 < count_of (eqb t) texts + count_of (eqb t) D.pool.free → t < length D.pool.texts
  text-below t h = go (dec_lt t (length D.pool.texts))
    where
      go : Dec (t < length D.pool.texts) → t < length D.pool.texts
      go (yes b) = b
      go (no b) = absurd (omega (arith, text-held t, F.texts.inside t (omega arith)))

  pub all-freeable : AllFreeable D l
  all-freeable =
      record {
        made = λ h m. live-below D (handle_index h) (live_of D h (live h m));
        generations = F.generations;
        room = free-room;
        texts = record {
          counts = F.counts;
          lengths = F.texts.lengths;
          room = omega (arith, F.text_slots, count_room (length D.pool.texts) texts D.pool.free text-once text-below);
        };
      }

  -- ---- once they are freed, the bytes of their texts are given back

  pub all-reclaimable : Reclaimable (free_all_slots D l)
  unfolding free_all set_pool
  all-reclaimable = record {
    counts = F.counts;
    lengths = F.texts.lengths;
    made = λ t k.
        omega (arith, text-below t (omega (arith, pushed_all-count (texts_of_all D l) D.pool t)), ap length (pushed_all-texts (texts_of_all D l) D.pool));
  }

-- and that is to free them
module _ (D : Doc) (F : Freeable D) where
  free-texts : FreeTexts D.pool
  free-texts = record { inside = λ s k. go s k (dec_lt s (length D.pool.texts)); empty = F.texts.emptied }
    where
      go : (s : ℕ) → 0 < count_of (eqb s) D.pool.free → Dec (s < length D.pool.texts) → s < length D.pool.texts
      go s k (yes b) = b
      go s k (no b) = absurd (omega (arith, F.texts.inside s (omega arith)))

  pub all-reclaimed : (l : List ℕ) → set_pool (free_all_slots D l) (reclaimed (free_all_slots D l).pool) ≡ free_all D l
  unfolding free_all set_pool
  all-reclaimed l =
      ap (set_pool (free_all D l)) (reclaimed-all (texts_of_all D l) D.pool ∙ ap (λ (p : Pool). released_all p (texts_of_all D l)) (reclaimed-none D.pool free-texts))
