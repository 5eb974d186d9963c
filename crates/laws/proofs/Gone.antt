-- Freeing a node and all below it, with their texts, is the tree's `gone`.
-- Assumes nothing.
use Rattle.std.proofs.lemmas.Option.{none-some}
use Rattle.std.specs.Prelude.{Option, None}
use mathlib.Core.Path.{◌≡◌, refl, sym, ap, ◌∙◌, subst}
use mathlib.Core.Logic.{◌≢◌, ◌⊎◌, inl, inr}
use mathlib.Core.Bool.{Bool, true, false, not, cond, ◌&&◌, false≢true, true≢false}
use mathlib.Core.List.{List, [], map, Memᴰ}
use Prim.Native.Nat.{ℕ, ◌%◌, ◌≤◌, ◌<◌}
use native.Mathlib.Omega.{arith}
use native.Mathlib.Decide.{dec_lt}
use borrow.Author.Tests.{eqb-true, ne_eqb}
use lib.ListN.{length, get_or, get_or-eq_default}
use Rattle.words.specs.Lists.{joined}
use Rattle.words.proofs.Tests.{and_left, and_right, and_both}
use Rattle.blocks.specs.Arena.{block}
use Rattle.blocks.specs.Rule.{BlocksApart}
use Rattle.records.specs.Handles.{handle_index}
use Rattle.model.specs.Kinds.{Which, texts_of}
use Rattle.model.specs.Doc.{Doc, generation_at, live_slot, kind_at, range_in, even, is_some}
use Rattle.model.specs.Edits.{up, raised_all, freed_all, released_all, free_all, subtree}
use Rattle.model.specs.Rules.{block_in, slots_held}
use Rattle.model.specs.Tree.{Tree, above, gone}
use Rattle.laws.proofs.Wf.{Distinct, Clear}
use Rattle.laws.proofs.Sim.{FreeSlots, Pooled, fields, Sim}
use Rattle.laws.proofs.Basics.{live-even, live-some, even-live, birth-below}
use Rattle.laws.proofs.Shown.{texts-kept}
use Rattle.laws.proofs.Membership.{mem-joined, mem-joined-cases, distinct-joined}
use Rattle.laws.proofs.Nested.{Nested}
use Rattle.laws.proofs.Climb.{Below, clear-below, gone-cases}
use Rattle.laws.proofs.Fresh.{fresh-gone}
use Rattle.laws.proofs.Freeing.{slots_of, mem?, slots_held-joined, blocks-fewer, length-raised_all, raised_all-other, raised_all-at, raised_all-fits, freed_all-cases, mem-freed_all, freed_all-once, length-released_all, released_all-other, released_all-empty, released_all-cases, mem-released_all, released_all-once, released_all-bytes}
use Rattle.laws.proofs.Subtree.{freed, freed-once, freed-below, below-freed, slot-of, birth-in, slots-once, subtree-births}

up-odd : (g : ℕ) → even g ≡ true → even (up g) ≡ false
up-odd g e = let n : g % 2 ≡ 0 = eqb-true (g % 2) 0 e in ne_eqb (up g % 2) 0 (omega arith)

module _ {d : Doc} {t : Tree} {hs : ℕ → ℕ} (S : Sim d t hs) (N : Nested t) (b : ℕ) (lb : t.live b ≡ true) where
  abbrev stays_live : ℕ → Bool
  stays_live x = t.live x && not (above t.births t.parent b x)

  abbrev Parted : ℕ → Type 0
  Parted x = (Below t.parent b x × (above t.births t.parent b x ≡ true)) ⊎ (Clear t.parent b x × (above t.births t.parent b x ≡ false))

  stays : (x : ℕ) → stays_live x ≡ true → (t.live x ≡ true) × (Below t.parent b x → ⊥)
  stays x e =
      let lx = and_left (t.live x) (not (above t.births t.parent b x)) e in
      (lx, go (and_right (t.live x) (not (above t.births t.parent b x)) e) (gone-cases N b x lx))
    where
      go : not (above t.births t.parent b x) ≡ true
          → Parted x → Below t.parent b x → ⊥
      go f (inl q) = absurd (false≢true (sym (ap not q.1) ∙ f))
      go f (inr q) = clear-below q.0

  -- a live node is freed, or it stays
  pub freed-or-stays : (x : ℕ) → t.live x ≡ true → Memᴰ x (freed t b) ⊎ (stays_live x ≡ true)
  freed-or-stays x lx = go (gone-cases N b x lx)
    where
      go : Parted x → Memᴰ x (freed t b) ⊎ (stays_live x ≡ true)
      go (inl q) = inl (below-freed N b lb q.0 lx)
      go (inr q) = inr (rw (lx, q.1))

  not-both : (x : ℕ) → Memᴰ x (freed t b) → stays_live x ≡ true → ⊥
  not-both x m e = (stays x e).1 (freed-below N b lb x m).1

  freed-live : (x : ℕ) → Memᴰ x (freed t b) → t.live x ≡ true
  freed-live x m = (freed-below N b lb x m).0

  -- the handles freed, their slots, and the texts released
  abbrev handles : List ℕ
  handles = map hs (freed t b)

  abbrev gens' : List ℕ
  gens' = raised_all d.gens handles

  handles-once : Distinct (slots_of handles)
  handles-once = slots-once S (freed t b) (freed-once N b lb) freed-live

  -- a slot is freed, or its generation is as before
  other-slot : (x : ℕ) → stays_live x ≡ true → Memᴰ (handle_index (hs x)) (slots_of handles) → ⊥
  other-slot x e m =
      let o = birth-in S (freed t b) m in
      not-both o.0 o.1 (subst (λ (z : ℕ). stays_live z ≡ true) (S.inj x o.0 (stays x e).0 (freed-live o.0 o.1) o.2) e)

  freed-odd : (i : ℕ) → Memᴰ i (slots_of handles) → even (get_or gens' i 1) ≡ false
  freed-odd i m =
      let o = birth-in S (freed t b) m in
      let li : live_slot d i ≡ true = ap (live_slot d) o.2 ∙ S.lives o.0 (freed-live o.0 o.1) in
      let lt : i < length d.gens = subst (λ (j : ℕ). j < length d.gens) (sym o.2) (birth-below d t hs S o.0 (freed-live o.0 o.1)) in
      ap even (raised_all-at handles d.gens i handles-once m lt) ∙ up-odd (get_or d.gens i 1) (live-even d i li)

  -- a slot that is even now was not freed
  even-old : (i : ℕ) → even (get_or gens' i 1) ≡ true → (Memᴰ i (slots_of handles) → ⊥) × (even (generation_at d i) ≡ true)
  even-old i e =
      let n : Memᴰ i (slots_of handles) → ⊥ = λ m. true≢false (sym e ∙ freed-odd i m) in
      (n, sym (ap even (raised_all-other handles d.gens i n)) ∙ e)

  -- ---- the free list

  free-after : FreeSlots (free_all d handles)
  unfolding free_all
  free-after = record { odd = λ i m. odd i (freed_all-cases handles d.free i m); all = all; once = freed_all-once handles d.free S.free.once handles-once was-live }
    where
      was-live : (i : ℕ) → Memᴰ i (slots_of handles) → Memᴰ i d.free → ⊥
      was-live i m n =
          let o = birth-in S (freed t b) m in
          let li : live_slot d i ≡ true = ap (live_slot d) o.2 ∙ S.lives o.0 (freed-live o.0 o.1) in
          true≢false (sym (live-even d i li) ∙ (S.free.odd i n).1)

      odd : (i : ℕ) → Memᴰ i d.free ⊎ Memᴰ i (slots_of handles) → (i < length (raised_all d.gens handles)) × (even (get_or (raised_all d.gens handles) i 1) ≡ false)
      odd i (inl m) =
          let o = S.free.odd i m in
          (rw (length-raised_all handles d.gens) o.0, ap even (raised_all-other handles d.gens i (λ q. was-live i q m)) ∙ o.1)
      odd i (inr m) =
          let o = birth-in S (freed t b) m in
          (rw (length-raised_all handles d.gens, o.2) (birth-below d t hs S o.0 (freed-live o.0 o.1)), freed-odd i m)

      all : (i : ℕ) → i < length (raised_all d.gens handles) → even (get_or (raised_all d.gens handles) i 1) ≡ false → Memᴰ i (freed_all d.free handles)
      all i lt o = go (even (generation_at d i)) refl
        where
          go : (q : Bool) → even (generation_at d i) ≡ q → Memᴰ i (freed_all d.free handles)
          go false e = mem-freed_all handles d.free i (inl (S.free.all i (subst (λ (n : ℕ). i < n) (length-raised_all handles d.gens) lt) e))
          go true e =
              let w = S.owner i (even-live d t hs S i e) in
              part w.0 w.2 (freed-or-stays w.0 w.1)
            where
              part : (x : ℕ) → handle_index (hs x) ≡ i → Memᴰ x (freed t b) ⊎ (stays_live x ≡ true) → Memᴰ i (freed_all d.free handles)
              part x ix (inl m) = mem-freed_all handles d.free i (inr (subst (λ (j : ℕ). Memᴰ j (slots_of handles)) ix (slot-of S (freed t b) m)))
              part x ix (inr s) =
                  absurd (true≢false (sym e ∙ sym (ap even (raised_all-other handles d.gens i (λ m. other-slot x s (subst (λ (j : ℕ). Memᴰ j (slots_of handles)) (sym ix) m)))) ∙ o))

  -- ---- the texts

  abbrev texts : List (Option ℕ)
  texts = joined (λ h. texts_of (kind_at d h)) handles

  text-of : (s : ℕ) → Memᴰ s (slots_held texts) → (x : ℕ) × Memᴰ x (freed t b) × Memᴰ s (fields d (hs x))
  text-of s m = mem-joined-cases (λ x. fields d (hs x)) (freed t b) (subst (λ (l : List ℕ). Memᴰ s l) (slots_held-joined (λ h. texts_of (kind_at d h)) hs (freed t b)) m)

  of-text : (s x : ℕ) → Memᴰ x (freed t b) → Memᴰ s (fields d (hs x)) → Memᴰ s (slots_held texts)
  of-text s x mx m = subst (λ (l : List ℕ). Memᴰ s l) (sym (slots_held-joined (λ h. texts_of (kind_at d h)) hs (freed t b))) (mem-joined (λ x. fields d (hs x)) (freed t b) mx m)

  texts-once : Distinct (slots_held texts)
  texts-once =
      subst Distinct (sym (slots_held-joined (λ h. texts_of (kind_at d h)) hs (freed t b)))
      (distinct-joined (λ x. fields d (hs x)) (freed t b) (freed-once N b lb) (λ x m. S.pool.distinct x (freed-live x m))
      (λ x y s mx my p q. S.pool.single x y s (freed-live x mx) (freed-live y my) p q))

  -- a text of a node that stays is not released
  other_text : (x s : ℕ) → stays_live x ≡ true → Memᴰ s (fields d (hs x)) → Memᴰ s (slots_held texts) → ⊥
  other_text x s e m q =
      let o = text-of s q in
      not-both o.0 o.1 (subst (λ (z : ℕ). stays_live z ≡ true) (S.pool.single x o.0 s (stays x e).0 (freed-live o.0 o.1) m o.2) e)

  pool-after : Pooled (free_all d handles) (gone t b) hs
  unfolding free_all gone
  pool-after =
      record {
        inside = λ x s lx m. rw (length-released_all texts d.pool) (S.pool.inside x s (stays x lx).0 m);
        distinct = λ x lx. S.pool.distinct x (stays x lx).0;
        single = λ x y s lx ly. S.pool.single x y s (stays x lx).0 (stays y ly).0;
        free_inside = λ s m. free-inside s (released_all-cases texts d.pool s m);
        free_once = released_all-once texts d.pool S.pool.free_once texts-once
            (λ s m n. let o = text-of s m in S.pool.free_apart o.0 s (freed-live o.0 o.1) o.2 n);
        free_apart = λ x s lx m f. free-apart x s lx m (released_all-cases texts d.pool s f);
        covered = λ s lt. covered s (S.pool.covered s (subst (λ (n : ℕ). s < n) (length-released_all texts d.pool) lt));
      }
    where
      free-inside : (s : ℕ) → Memᴰ s d.pool.free ⊎ Memᴰ s (slots_held texts)
          → (s < length (released_all d.pool texts).texts) × (get_or (released_all d.pool texts).texts s [] ≡ [])
      free-inside s (inl m) =
          let o = S.pool.free_inside s m in
          (rw (length-released_all texts d.pool) o.0, released_all-empty texts d.pool s (inr o.1))
      free-inside s (inr m) =
          let o = text-of s m in
          (rw (length-released_all texts d.pool) (S.pool.inside o.0 s (freed-live o.0 o.1) o.2), released_all-empty texts d.pool s (inl m))

      free-apart : (x s : ℕ) → stays_live x ≡ true → Memᴰ s (fields d (hs x)) → Memᴰ s d.pool.free ⊎ Memᴰ s (slots_held texts) → ⊥
      free-apart x s lx m (inl f) = S.pool.free_apart x s (stays x lx).0 m f
      free-apart x s lx m (inr f) = other_text x s lx m f

      covered : (s : ℕ) → Memᴰ s d.pool.free ⊎ ((x : ℕ) × (t.live x ≡ true) × Memᴰ s (fields d (hs x)))
          → Memᴰ s (released_all d.pool texts).free ⊎ ((x : ℕ) × (stays_live x ≡ true) × Memᴰ s (fields d (hs x)))
      covered s (inl m) = inl (mem-released_all texts d.pool s (inl m))
      covered s (inr o) = go (freed-or-stays o.0 o.1)
        where
          go : Memᴰ o.0 (freed t b) ⊎ (stays_live o.0 ≡ true) → Memᴰ s (released_all d.pool texts).free ⊎ ((x : ℕ) × (stays_live x ≡ true) × Memᴰ s (fields d (hs x)))
          go (inl m) = inl (mem-released_all texts d.pool s (inr (of-text s o.0 m o.2)))
          go (inr e) = inr (o.0, e, o.2)

  -- ---- the relation

  gone-slot : (i : ℕ) → live_slot (free_all d handles) i ≡ true → (Memᴰ i (slots_of handles) → ⊥) × (live_slot d i ≡ true)
  unfolding free_all
  gone-slot i li =
      let o = even-old i (live-even (free_all d handles) i li) in
      (o.0, and_both (even (generation_at d i)) (is_some (get_or d.kinds i None)) o.1 (live-some (free_all d handles) i li))

  blocks-after : (w : Which) → BlocksApart (d.arenas w) (block_in (free_all d handles) w)
  unfolding free_all
  blocks-after w = blocks-fewer (d.arenas w) (block_in d w) (block_in (free_all d handles) w) (λ i. go i (live_slot (free_all d handles) i) refl) (S.blocks w)
    where
      go : (i : ℕ) (q : Bool) → live_slot (free_all d handles) i ≡ q → (block_in (free_all d handles) w i ≡ block_in d w i) ⊎ (block_in (free_all d handles) w i ≡ block 0 0)
      go i true e = inl (ap (λ (q : Bool). cond q (range_in d w i) (block 0 0)) (e ∙ sym (gone-slot i e).1))
      go i false e = inr (ap (λ (q : Bool). cond q (range_in d w i) (block 0 0)) e)

  same-generation : (x : ℕ) → stays_live x ≡ true → get_or (raised_all d.gens handles) (handle_index (hs x)) 1 ≡ generation_at d (handle_index (hs x))
  same-generation x e = raised_all-other handles d.gens (handle_index (hs x)) (other-slot x e)

  -- the Root is not below another node
  root-stays : b ≢ 0 → stays_live 0 ≡ true
  root-stays b0 = go (freed-or-stays 0 S.root_live)
    where
      top : Below t.parent b 0 → ⊥
      top (Below.here e) = b0 (sym e)
      top (Below.down p e r) = none-some p (sym N.root_parent ∙ e)

      go : Memᴰ 0 (freed t b) ⊎ (stays_live 0 ≡ true) → stays_live 0 ≡ true
      go (inl m) = absurd (top (freed-below N b lb 0 m).1)
      go (inr e) = e

  sim-freed : b ≢ 0 → Sim (free_all d handles) (gone t b) hs
  unfolding free_all gone
  sim-freed b0 =
      record {
        shape = record {
          kinds = S.shape.kinds ∙ sym len;
          parents = S.shape.parents ∙ sym len;
          ranges = λ w. S.shape.ranges w ∙ sym len;
          ids = S.shape.ids;
          caps = S.shape.caps;
          order = S.shape.order;
          unused = S.shape.unused;
        };
        limits = S.limits;
        counts = S.counts;
        lengths = S.lengths;
        within = record {
          slots = rw len S.within.slots;
          texts = rw (length-released_all texts d.pool) S.within.texts;
          text_bytes = omega (arith, released_all-bytes texts d.pool, S.within.text_bytes);
          names = S.within.names;
          name_bytes = S.within.name_bytes;
        };
        generations = λ i lt. raised_all-fits handles d.gens (λ j. fits j (dec_lt j (length d.gens))) i;
        nodes = λ i e. S.nodes i (even-old i e).1;
        order_fits = S.order_fits;
        caps_fit = S.caps_fit;
        free = free-after;
        blocks = blocks-after;
        pool = pool-after;
        named = λ x n lx. S.named x n (stays x lx).0;
        counted = λ x lx. S.counted x (stays x lx).0;
        lives = λ x lx. rw (same-generation x lx) (S.lives x (stays x lx).0);
        gen = λ x lx. same-generation x lx ∙ S.gen x (stays x lx).0;
        inj = λ x y lx ly. S.inj x y (stays x lx).0 (stays y ly).0;
        owner = λ i li. let g = gone-slot i li in let o = S.owner i g.1 in (o.0, still i g.0 o.0 o.2 (freed-or-stays o.0 o.1), o.2);
        kind = λ x lx. texts-kept d.names d.names d.pool (released_all d.pool texts) (kind_at d (hs x)) (λ n m. refl)
            (λ s m. released_all-other texts d.pool s (other_text x s lx m)) ∙ S.kind x (stays x lx).0;
        parent = λ x lx. S.parent x (stays x lx).0;
        lists = λ w x lx. S.lists w x (stays x lx).0;
        current = refl;
        order = λ f x lx. absurd (false≢true f);
        order_free = λ f i lt o. absurd (false≢true f);
        fresh = fresh-gone d.gens (raised_all d.gens handles) t.births t.live stays_live hs b (λ x lx. (stays x lx).0) (S.counted b lb) lb b-gone S.gen len each
            (λ x lx g. raised_all-at handles d.gens (handle_index (hs x)) handles-once (slot-of S (freed t b) (was-freed x lx g)) (birth-below d t hs S x lx)) S.fresh;
        root_live = root-stays b0;
        root_is = S.root_is;
      }
    where
      len : length (raised_all d.gens handles) ≡ length d.gens
      len = length-raised_all handles d.gens

      fits : (j : ℕ) → Dec (j < length d.gens) → get_or d.gens j 0 < 4294967296
      fits j (yes lt) = S.generations j lt
      fits j (no n) =
          let past : length d.gens ≤ j = omega arith in
          rw (get_or-eq_default d.gens 0 past) (omega arith)

      still : (i : ℕ) → (Memᴰ i (slots_of handles) → ⊥) → (x : ℕ) → handle_index (hs x) ≡ i → Memᴰ x (freed t b) ⊎ (stays_live x ≡ true) → stays_live x ≡ true
      still i n x e (inl m) = absurd (n (subst (λ (j : ℕ). Memᴰ j (slots_of handles)) e (slot-of S (freed t b) m)))
      still i n x e (inr s) = s

      was-freed : (x : ℕ) → t.live x ≡ true → stays_live x ≡ false → Memᴰ x (freed t b)
      was-freed x lx g = go (freed-or-stays x lx)
        where
          go : Memᴰ x (freed t b) ⊎ (stays_live x ≡ true) → Memᴰ x (freed t b)
          go (inl m) = m
          go (inr e) = absurd (true≢false (sym e ∙ g))

      b-gone : stays_live b ≡ false
      b-gone = go (stays_live b) refl
        where
          go : (q : Bool) → stays_live b ≡ q → stays_live b ≡ false
          go true e = absurd ((stays b e).1 (Below.here refl))
          go false e = e

      each : (i : ℕ) → i < length d.gens → (get_or (raised_all d.gens handles) i 1 ≡ get_or d.gens i 1) ⊎ (get_or (raised_all d.gens handles) i 1 ≡ up (get_or d.gens i 1))
      each i lt = go (mem? i (slots_of handles))
        where
          go : Dec (Memᴰ i (slots_of handles)) → (get_or (raised_all d.gens handles) i 1 ≡ get_or d.gens i 1) ⊎ (get_or (raised_all d.gens handles) i 1 ≡ up (get_or d.gens i 1))
          go (yes m) = inr (raised_all-at handles d.gens i handles-once m lt)
          go (no n) = inl (raised_all-other handles d.gens i n)

  pub sim-gone : b ≢ 0 → Sim (free_all d (subtree d (hs b))) (gone t b) hs
  sim-gone b0 = rw (subtree-births S N b lb) (sim-freed b0)
