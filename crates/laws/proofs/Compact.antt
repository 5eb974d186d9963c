-- Rebuilding the arenas changes no list: the tree is as it was, and its order is renewed.
-- Assumes nothing.
use Rattle.std.specs.Prelude.{Option, None, Some}
use mathlib.Core.Path.{◌≡◌, refl, sym, ap, ◌∙◌, subst}
use mathlib.Core.Logic.{◌⊎◌, inl, inr}
use mathlib.Core.Bool.{Bool, true, false, cond, ◌&&◌, false≢true, true≢false}
use mathlib.Core.List.{List, [], ◌∷◌, map, Memᴰ}
use Prim.Native.Nat.{ℕ, ◌≤◌, ◌<◌}
use native.Mathlib.Omega.{arith}
use native.Mathlib.Decide.{dec_lt}
use lib.ListN.{length, get_or, replicate, length-replicate, get_or-replicate, get_or-eq_default}
use Rattle.words.specs.Lists.{joined, keep}
use Rattle.words.proofs.Parts.{part_none}
use Rattle.words.proofs.Tests.{and_left, and_right, and_both}
use Rattle.blocks.specs.Arena.{Block, block, list_of}
use Rattle.blocks.specs.Rule.{BlocksApart}
use Rattle.blocks.proofs.Edits.{list_length}
use Rattle.records.specs.Handles.{handle_index}
use Rattle.model.specs.Kinds.{Kind, root, element, attribute, text, comment, namespace, instruction, Which, children, attributes, namespaces, same_which, which_of, is_element}
use Rattle.model.specs.Doc.{Doc, live_slot, kind_in, kind_at, range_in, list_in, list_at, has_list, or_else}
use Rattle.model.specs.Edits.{Laying, lay_list, lay_all, laying_from, laying, rebuilt, rebuild_arenas, renew_order}
use Rattle.model.specs.Rules.{has_range, block_in}
use Rattle.model.specs.Tree.{Tree, set_current}
use Rattle.laws.proofs.Wf.{Distinct, WF}
use Rattle.laws.proofs.Sim.{Sim}
use Rattle.laws.proofs.Kept.{within-kept, free-kept, pool-kept}
use Rattle.laws.proofs.Basics.{live-below, live-node}
use Rattle.laws.proofs.SimEdits.{which-of-kind}
use Rattle.laws.proofs.Freeing.{slots_of}
use Rattle.laws.proofs.Subtree.{slot-of, birth-in, slots-once}
use Rattle.laws.proofs.Order.{sim-renewed}
use Rattle.laws.proofs.Laid.{total-within, range_of, Packed, laid_all, laid_all-other, laid_all-caps, length-laid_all, packed_all, packed-blocks}
use Rattle.laws.proofs.Rebuilt.{mem-keep, mem-keep-old, distinct-keep, keep-births, met, rebuilt-births, met-live, met-child, met-once, child-met}

-- a kind has a range when a node of it is met and has that list
range_split : {N T : Type 0} (w : Which) (k : Kind N T) → has_range w k ≡ (same_which (which_of k) children && has_list w (is_element k))
range_split children root = refl
range_split children (element n) = refl
range_split children (attribute n v) = refl
range_split children (text t) = refl
range_split children (comment t) = refl
range_split children (namespace p u) = refl
range_split children (instruction t d) = refl
range_split attributes root = refl
range_split attributes (element n) = refl
range_split attributes (attribute n v) = refl
range_split attributes (text t) = refl
range_split attributes (comment t) = refl
range_split attributes (namespace p u) = refl
range_split attributes (instruction t d) = refl
range_split namespaces root = refl
range_split namespaces (element n) = refl
range_split namespaces (attribute n v) = refl
range_split namespaces (text t) = refl
range_split namespaces (comment t) = refl
range_split namespaces (namespace p u) = refl
range_split namespaces (instruction t d) = refl

is-children : (w : Which) → same_which w children ≡ true → w ≡ children
is-children children e = refl
is-children attributes e = absurd (false≢true e)
is-children namespaces e = absurd (false≢true e)

no-capacity : (n i : ℕ) → ◌≡◌ {A = ℕ} (get_or (replicate n 0) i 0) 0
no-capacity n i = go (dec_lt i n)
  where
    go : Dec (i < n) → ◌≡◌ {A = ℕ} (get_or (replicate n 0) i 0) 0
    go (yes lt) = get_or-replicate n i 0 0 lt
    go (no h) =
        let past : length {A = ℕ} (replicate n 0) ≤ i = rw (length-replicate {A = ℕ} n 0) (omega arith) in
        get_or-eq_default (replicate n 0) 0 past

-- each node met that has the list has it laid
lay-one : (d : Doc) (w : Which) (h : ℕ) (l : List ℕ) (a : Laying) (q : Bool) → is_element (kind_at d h) ≡ q
    → lay_all d w (h ∷ l) a ≡ lay_all d w l (cond (has_list w q) (lay_list a (handle_index h) (list_at d w h)) a)
lay-one d children h l a q e = refl
lay-one d attributes h l a true e = rw e
lay-one d attributes h l a false e = rw e
lay-one d namespaces h l a true e = rw e
lay-one d namespaces h l a false e = rw e

lay-all : (d : Doc) (w : Which) (l : List ℕ) (a : Laying)
    → lay_all d w l a ≡ laid_all (list_in d w) (slots_of (keep (λ h. has_list w (is_element (kind_at d h))) l)) a
lay-all d w [] a = refl
lay-all d w (h ∷ l) a = lay-one d w h l a (is_element (kind_at d h)) refl ∙ go (λ b. lay-all d w l b) (has_list w (is_element (kind_at d h)))
  where
    kept : List ℕ
    kept = keep (λ h. has_list w (is_element (kind_at d h))) l

    go : ((b : Laying) → lay_all d w l b ≡ laid_all (list_in d w) (slots_of kept) b) → (q : Bool)
        → lay_all d w l (cond q (lay_list a (handle_index h) (list_at d w h)) a) ≡ laid_all (list_in d w) (slots_of (cond q (h ∷ kept) kept)) a
    go ih true = ih (lay_list a (handle_index h) (list_at d w h))
    go ih false = ih a

module _ {d : Doc} {t : Tree} {hs : ℕ → ℕ} (S : Sim d t hs) (W : WF t) where
  -- the births whose lists are laid, and their slots
  laid_births : Which → List ℕ
  laid_births w = keep (λ b. has_list w (is_element (kind_at d (hs b)))) (met S W)

  laid_slots : Which → List ℕ
  laid_slots w = slots_of (map hs (laid_births w))

  laid-live : (w : Which) (b : ℕ) → Memᴰ b (laid_births w) → t.live b ≡ true
  unfolding laid_births
  laid-live w b m = met-live S W b (mem-keep-old (λ b. has_list w (is_element (kind_at d (hs b)))) (met S W) m).0

  -- they are the live nodes whose kind has the range
  laid-range : (w : Which) (b : ℕ) → Memᴰ b (laid_births w) → has_range w (kind_at d (hs b)) ≡ true
  unfolding laid_births
  laid-range w b m =
      let o = mem-keep-old (λ b. has_list w (is_element (kind_at d (hs b)))) (met S W) m in
      let c : which_of (kind_at d (hs b)) ≡ children = which-of-kind d t hs S b (laid-live w b m) ∙ met-child S W b o.0 in
      range_split w (kind_at d (hs b)) ∙ and_both (same_which (which_of (kind_at d (hs b))) children) (has_list w (is_element (kind_at d (hs b)))) (ap (λ (v : Which). same_which v children) c) o.1

  range-laid : (w : Which) (b : ℕ) → t.live b ≡ true → has_range w (kind_at d (hs b)) ≡ true → Memᴰ (handle_index (hs b)) (laid_slots w)
  unfolding laid_births laid_slots
  range-laid w b lb r =
      let s = sym (range_split w (kind_at d (hs b))) ∙ r in
      let c : which_of (t.kind b) ≡ children = sym (which-of-kind d t hs S b lb) ∙ is-children (which_of (kind_at d (hs b))) (and_left (same_which (which_of (kind_at d (hs b))) children) (has_list w (is_element (kind_at d (hs b)))) s) in
      slot-of S (laid_births w)
      (mem-keep (λ b. has_list w (is_element (kind_at d (hs b)))) (met S W) (and_right (same_which (which_of (kind_at d (hs b))) children) (has_list w (is_element (kind_at d (hs b)))) s) (child-met S W b lb c))

  slots-live : (w : Which) (i : ℕ) → Memᴰ i (laid_slots w) → (live_slot d i ≡ true) × (has_range w (kind_in d i) ≡ true)
  unfolding laid_slots
  slots-live w i m =
      let o = birth-in S (laid_births w) m in
      (ap (live_slot d) o.2 ∙ S.lives o.0 (laid-live w o.0 o.1), ap (λ (j : ℕ). has_range w (kind_in d j)) o.2 ∙ laid-range w o.0 o.1)

  slots-distinct : (w : Which) → Distinct (laid_slots w)
  unfolding laid_births laid_slots
  slots-distinct w = slots-once S (laid_births w) (distinct-keep (λ b. has_list w (is_element (kind_at d (hs b)))) (met S W) (met-once S W)) (laid-live w)

  laying-is : (w : Which) → laying d w ≡ laid_all (list_in d w) (laid_slots w) (laying_from d w)
  unfolding laid_births laid_slots
  laying-is w =
      lay-all d w (rebuilt d) (laying_from d w)
      ∙ ap (λ (l : List ℕ). laid_all (list_in d w) (slots_of l) (laying_from d w))
      (ap (keep (λ h. has_list w (is_element (kind_at d h)))) (rebuilt-births S W)
      ∙ keep-births hs (λ h. has_list w (is_element (kind_at d h))) (λ b. has_list w (is_element (kind_at d (hs b)))) (met S W) (λ x m. refl))

  -- the lists take no more than the arena had in use
  room : (w : Which) → length (joined (list_in d w) (laid_slots w)) ≤ length (d.arenas w).ids
  room w = omega (arith, total-within (d.arenas w) (block_in d w) (S.blocks w) (list_in d w) (laid_slots w) (slots-distinct w) len, (S.blocks w).shaped.fits)
    where
      len : (i : ℕ) → Memᴰ i (laid_slots w) → length (list_in d w i) ≡ (block_in d w i).len
      len i m =
          let e : block_in d w i ≡ range_in d w i = rw (slots-live w i m).0 in
          ap (λ (b : Block). length (list_of (d.arenas w) b)) (sym e) ∙ list_length (d.arenas w) (block_in d w i) (S.blocks w).shaped ((S.blocks w).inside i)

  packed : (w : Which) → Packed (list_in d w) (λ i. Memᴰ i (laid_slots w) ⊎ ⊥) (laying d w) × (length (laying d w).arena.ids ≡ length (d.arenas w).ids)
  packed w =
      rw (laying-is w)
      (packed_all (list_in d w) (laid_slots w) (λ i. ⊥) (laying_from d w)
      (record { fits = omega arith; lists = λ i v. absurd v; inside = λ i v. absurd v; apart = λ i j v u n. absurd v })
      (slots-distinct w) (λ i m v. v) (λ i m. below i (slots-live w i m).0) (omega (arith, room w)))
    where
      below : (i : ℕ) → live_slot d i ≡ true → i < length (d.ranges w)
      below i l = omega (arith, live-below d i l, S.shape.ranges w)

  caps-after : (w : Which) → (laying d w).arena.caps ≡ replicate (length (d.arenas w).caps) 0
  caps-after w = ap (λ (a : Laying). a.arena.caps) (laying-is w) ∙ laid_all-caps (list_in d w) (laid_slots w) (laying_from d w)

  ranges-length : (w : Which) → length (laying d w).ranges ≡ length (d.ranges w)
  ranges-length w = ap (λ (a : Laying). length a.ranges) (laying-is w) ∙ length-laid_all (list_in d w) (laid_slots w) (laying_from d w)

  -- a node that has no such list keeps its range (0, 0)
  unlaid : (w : Which) (i : ℕ) → (Memᴰ i (laid_slots w) → ⊥) → range_of (laying d w) i ≡ range_in d w i
  unlaid w i n = ap (λ (a : Laying). range_of a i) (laying-is w) ∙ laid_all-other (list_in d w) (laid_slots w) (laying_from d w) i n

  unused-after : (w : Which) (i : ℕ) (k : Kind ℕ (Option ℕ)) → get_or d.kinds i None ≡ Some k → has_range w k ≡ false → range_of (laying d w) i ≡ block 0 0
  unused-after w i k e r = unlaid w i (λ m. true≢false (sym (slots-live w i m).1 ∙ ap (λ (o : Option (Kind ℕ (Option ℕ))). has_range w (or_else root o)) e ∙ r)) ∙ S.shape.unused w i k e r

  -- a live node has its list laid, or its range is (0, 0) before and after
  abbrev LaidOrUnused : Which → ℕ → Type 0
  LaidOrUnused w b =
      Memᴰ (handle_index (hs b)) (laid_slots w)
      ⊎ ((range_of (laying d w) (handle_index (hs b)) ≡ block 0 0) × (range_in d w (handle_index (hs b)) ≡ block 0 0))

  laid-or-unused : (w : Which) (b : ℕ) → t.live b ≡ true
      → LaidOrUnused w b
  laid-or-unused w b lb = go (has_range w (kind_at d (hs b))) refl
    where
      go : (q : Bool) → has_range w (kind_at d (hs b)) ≡ q
          → LaidOrUnused w b
      go true e = inl (range-laid w b lb e)
      go false e =
          let k = live-node d (handle_index (hs b)) (S.lives b lb) in
          inr (unused-after w (handle_index (hs b)) (kind_at d (hs b)) k e, S.shape.unused w (handle_index (hs b)) (kind_at d (hs b)) k e)

  lists-after : (w : Which) (b : ℕ) → t.live b ≡ true → list_of (laying d w).arena (range_of (laying d w) (handle_index (hs b))) ≡ map hs (t.lists w b)
  lists-after w b lb = go (laid-or-unused w b lb)
    where
      go : LaidOrUnused w b
          → list_of (laying d w).arena (range_of (laying d w) (handle_index (hs b))) ≡ map hs (t.lists w b)
      go (inl m) = (packed w).0.lists (handle_index (hs b)) (inl m) ∙ S.lists w b lb
      go (inr o) =
          ap (list_of (laying d w).arena) o.0
          ∙ part_none (laying d w).arena.ids 0
          ∙ sym (part_none (d.arenas w).ids 0)
          ∙ ap (list_of (d.arenas w)) (sym o.1)
          ∙ S.lists w b lb

  blocks-rebuilt : (w : Which) → BlocksApart (laying d w).arena (block_in (rebuild_arenas d) w)
  unfolding rebuild_arenas
  blocks-rebuilt w =
      packed-blocks (list_in d w) (λ i. Memᴰ i (laid_slots w) ⊎ ⊥) (laying d w) (packed w).0
      (ap length (caps-after w) ∙ length-replicate (length (d.arenas w).caps) 0 ∙ (S.blocks w).shaped.paired ∙ sym (packed w).1)
      (λ s. ap (λ (l : List ℕ). get_or l s 0) (caps-after w) ∙ no-capacity (length (d.arenas w).caps) s)
      (block_in (rebuild_arenas d) w) (λ i. go i (live_slot d i) refl)
    where
      After : ℕ → Type 0
      After i =
          let b = cond (live_slot d i) (range_of (laying d w) i) (block 0 0) in
          ((Memᴰ i (laid_slots w) ⊎ ⊥) × (b ≡ range_of (laying d w) i)) ⊎ (b ≡ block 0 0)

      go : (i : ℕ) (q : Bool) → live_slot d i ≡ q → After i
      go i false e = inr (rw e)
      go i true e = let o = S.owner i e in live o.0 o.2 (laid-or-unused w o.0 o.1)
        where
          live : (b : ℕ) → handle_index (hs b) ≡ i → LaidOrUnused w b
              → After i
          live b ib (inl m) = inl (inl (subst (λ (j : ℕ). Memᴰ j (laid_slots w)) ib m), rw e)
          live b ib (inr u) = inr (rw e (ap (range_of (laying d w)) (sym ib) ∙ u.0))

  -- the tree, its order not current
  abbrev out_of_order : Tree
  out_of_order = record { births = t.births; live = t.live; kind = t.kind; parent = t.parent; lists = t.lists; current = false }

  sim-rebuilt : Sim (rebuild_arenas d) out_of_order hs
  unfolding rebuild_arenas
  sim-rebuilt =
      record {
        shape = record {
          kinds = S.shape.kinds;
          parents = S.shape.parents;
          ranges = λ w. ranges-length w ∙ S.shape.ranges w;
          ids = λ w. (packed w).1 ∙ S.shape.ids w;
          caps = λ w. ap length (caps-after w) ∙ length-replicate (length (d.arenas w).caps) 0 ∙ S.shape.caps w;
          order = S.shape.order;
          unused = unused-after;
        };
        limits = S.limits;
        counts = S.counts;
        lengths = S.lengths;
        within = within-kept S d.parents (λ w. (laying d w).ranges) (λ w. (laying d w).arena) d.order false;
        generations = S.generations;
        nodes = S.nodes;
        order_fits = S.order_fits;
        caps_fit = λ w i. rw (caps-after w, no-capacity (length (d.arenas w).caps) i) (omega arith);
        free = free-kept S d.parents (λ w. (laying d w).ranges) (λ w. (laying d w).arena) d.order false;
        blocks = blocks-rebuilt;
        pool = pool-kept S d.parents (λ w. (laying d w).ranges) (λ w. (laying d w).arena) d.order false t.parent t.lists false;
        named = S.named;
        counted = S.counted;
        lives = S.lives;
        gen = S.gen;
        inj = S.inj;
        owner = S.owner;
        kind = S.kind;
        parent = S.parent;
        lists = lists-after;
        current = refl;
        order = λ f x lx. absurd (false≢true f);
        order_free = λ f i lt o. absurd (false≢true f);
        fresh = S.fresh;
        root_live = S.root_live;
        root_is = S.root_is;
      }

  nested-rebuilt : WF out_of_order
  nested-rebuilt = record {
    root_kind = W.root_kind;
    root_parent = W.root_parent;
    root_live = W.root_live;
    root_only = W.root_only;
    counted = W.counted;
    upward = W.upward;
    detached = W.detached;
    downward = W.downward;
    once = W.once;
    ends = W.ends;
    one_element = W.one_element;
  }

  pub sim-compacted : Sim (renew_order (rebuild_arenas d)) (set_current t) hs
  unfolding set_current
  sim-compacted = sim-renewed sim-rebuilt nested-rebuilt
