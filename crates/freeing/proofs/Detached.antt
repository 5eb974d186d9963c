-- The document once a node was taken off its parent: what its rules still say.
-- Assumes nothing.
use Rattle.std.proofs.lemmas.Option.{none-some, same_Some}
use Rattle.std.specs.Prelude.{Option, None, Some}
use mathlib.Core.Path.{◌≡◌, refl, sym, ap, ◌∙◌, subst}
use mathlib.Core.Bool.{Bool, true, false, cond, true≢false}
use mathlib.Core.List.{List, Memᴰ}
use Prim.Native.Nat.{ℕ, ◌≤◌, ◌<◌}
use native.Mathlib.Omega.{arith}
use native.Mathlib.Decide.{ℕ_discrete, dec_lt}
use lib.Dec.{eqb}
use lib.ListN.{length, get_or, set}
use lib.Seq.{get_or-set_same, get_or-set_other}
use Rattle.words.specs.Lists.{count_of, without}
use Rattle.words.proofs.Lists.{count_of-without-other, without-one-less}
use Rattle.blocks.specs.Arena.{Arena, Block, block, list_of, removed}
use Rattle.blocks.specs.Rule.{Inside, at}
use Rattle.blocks.proofs.Apart.{at_same, at_other}
use Rattle.blocks.proofs.Removal.{remove-promise}
use Rattle.records.specs.Handles.{handle_index}
use Rattle.records.proofs.Handles.{handle_index-word_of}
use Rattle.model.specs.Kinds.{Which, same_which, which_of}
use Rattle.model.specs.Doc.{Doc, change_nodes, change_arenas, change_current, generation_at, handle_at, live_slot, resolves, kind_in, kind_at, parent_in, parent_at, range_in, list_in, list_at}
use Rattle.model.specs.Rules.{Shape, Rules, Entries, block_in}
use Rattle.model.specs.Edits.{set_block, set_parent, unlink_from, unlink, unhook}
use Rattle.laws.proofs.Basics.{mem-count, count-mem, live-below}
use Rattle.walks.proofs.Walkable.{live_of, handle-of, same_index}
use Rattle.memory.proofs.Written.{same_which-true, same_which-refl}
use Rattle.edits.proofs.Unhooked.{unlinked-inside}
use Rattle.freeing.specs.Asked.{Freeable, SubtreeFreeable}

module _ (D : Doc) (R : Rules D) (shape : Shape D) (narrow : length D.gens ≤ 4294967296) (h : ℕ) (lh : resolves D h ≡ true) where
  -- with other lists, and h without a parent
  abbrev off : (Which → List Block) → (Which → Arena) → Doc
  off ranges arenas =
      let nodes = change_nodes D D.kinds (set D.parents (handle_index h) None) ranges in
      change_current (change_arenas nodes arenas) false

  -- h is in no list any more, and every other handle is where it was
  record Off (ranges : Which → List Block) (arenas : Which → Arena) : Type 0 where
    pub gone : (w : Which) (i : ℕ) → live_slot D i ≡ true → count_of (eqb h) (list_in (off ranges arenas) w i) ≡ 0
    pub others : (w : Which) (i y : ℕ) → live_slot D i ≡ true → (y ≡ h → ⊥) → count_of (eqb y) (list_in (off ranges arenas) w i) ≡ count_of (eqb y) (list_in D w i)
    pub inside : (w : Which) (i : ℕ) → live_slot D i ≡ true → Inside (arenas w) (range_in (off ranges arenas) w i)

  lives : live_slot D (handle_index h) ≡ true
  lives = live_of D h lh

  -- ---- the parents

  top-none : get_or (set D.parents (handle_index h) None) (handle_index h) None ≡ None
  top-none = get_or-set_same D.parents (handle_index h) None None (omega (arith, live-below D (handle_index h) lives, shape.parents))

  parent-other : (i : ℕ) → (i ≡ handle_index h → ⊥) → get_or (set D.parents (handle_index h) None) i None ≡ parent_in D i
  parent-other i ne = get_or-set_other D.parents (handle_index h) i None None ne

  -- ---- rule 4

  module _ (ranges : Which → List Block) (arenas : Which → Arena) (o : Off ranges arenas) where
    abbrev E : Doc
    E = off ranges arenas

    entries-off : Entries (off ranges arenas)
    entries-off = record { one = λ i p li e. one i p li e (ℕ_discrete i (handle_index h)); no_other = λ w i y li m. other w i y li m (ℕ_discrete y h) }
      where
        one : (i p : ℕ) → live_slot D i ≡ true → parent_in E i ≡ Some p → Dec (i ≡ handle_index h) → count_of (eqb (handle_at D i)) (list_at E (which_of (kind_in D i)) p) ≡ 1
        one i p li e (yes q) = absurd (none-some p (sym (ap (parent_in E) q ∙ top-none) ∙ e))
        one i p li e (no ne) =
            let f : parent_in D i ≡ Some p = sym (parent-other i ne) ∙ e in
            let lp = live_of D p (R.parents.owner i p li f).0 in
            let different : handle_at D i ≡ h → ⊥ = λ q. ne (sym (handle_index-word_of (record { index = i; generation = generation_at D i }) (omega (arith, live-below D i li))) ∙ ap handle_index q) in
            o.others (which_of (kind_in D i)) (handle_index p) (handle_at D i) lp different ∙ R.entries.one i p li f

        other : (w : Which) (i y : ℕ) → live_slot D i ≡ true → Memᴰ y (list_in E w i) → Dec (y ≡ h)
            → (resolves D y ≡ true) × (parent_at E y ≡ Some (handle_at D i)) × (which_of (kind_at D y) ≡ w)
        other w i y li m (yes e) =
            let z = subst (λ (x : ℕ). 0 < count_of (eqb x) (list_in E w i)) e (mem-count y (list_in E w i) m) in
            absurd (omega (arith, o.gone w i li))
        other w i y li m (no ne) =
            let c : 0 < count_of (eqb y) (list_in D w i) = omega (arith, mem-count y (list_in E w i) m, o.others w i y li ne) in
            let q = R.entries.no_other w i y li (count-mem y (list_in D w i) c) in
            (q.0, parent-other (handle_index y) (λ e. ne (same_index D y h q.0 lh e)) ∙ q.1, q.2)

    freeable-off : Freeable (off ranges arenas)
    freeable-off =
        record {
          counts = R.fields.counts;
          slots = R.fields.slots;
          text_slots = R.fields.texts;
          generations = R.fields.generations;
          free_list = record { inside = R.free_list.inside; once = R.free_list.once };
          texts = record { lengths = R.texts.lengths; once = R.texts.once; inside = R.texts.inside; emptied = R.texts.emptied; names = R.texts.names };
        }

    off-freeable : SubtreeFreeable (off ranges arenas) h
    off-freeable = record { freeable = freeable-off; entries = entries-off; inside = o.inside; live = lh; top = top-none; outdated = refl }

  -- ---- the lists

  live_inside : (w : Which) (i : ℕ) → live_slot D i ≡ true → Inside (D.arenas w) (range_in D w i)
  live_inside w i li =
      subst (Inside (D.arenas w)) (ap (λ (t : Bool). cond t (range_in D w i) (block 0 0)) li) ((R.blocks w).inside i)

  absent : (w : Which) (i : ℕ) → (Memᴰ h (list_in D w i) → ⊥) → count_of (eqb h) (list_in D w i) ≡ 0
  absent w i n = go (dec_lt 0 (count_of (eqb h) (list_in D w i)))
    where
      go : Dec (0 < count_of (eqb h) (list_in D w i)) → count_of (eqb h) (list_in D w i) ≡ 0
      go (yes b) = absurd (n (count-mem h (list_in D w i) b))
      go (no b) = omega arith

  -- it had no parent
  stays : parent_at D h ≡ None → Off D.ranges D.arenas
  stays e = record {
    gone = λ w i li. absent w i (λ m. none-some (handle_at D i) (sym e ∙ (R.entries.no_other w i h li m).1));
    others = λ w i y li ne. refl;
    inside = live_inside;
  }

  -- it had one
  module _ (p : ℕ) (e : parent_at D h ≡ Some p) where
    abbrev v : Which
    v = which_of (kind_at D h)

    abbrev j : ℕ
    j = handle_index p

    lj : live_slot D (handle_index p) ≡ true
    lj = live_of D p (R.parents.owner (handle_index h) p lives e).0

    abbrev C : Doc
    C = set_block D v j (removed (D.arenas v) (range_in D v j) h)

    block-live : (i : ℕ) → live_slot D i ≡ true → block_in D v i ≡ range_in D v i
    block-live i li = ap (λ (t : Bool). cond t (range_in D v i) (block 0 0)) li

    -- in the list of its kind, each slot's list
    abbrev after : ℕ → List ℕ
    after i = list_of (removed (D.arenas v) (range_in D v j) h).arena (get_or (set (D.ranges v) j (removed (D.arenas v) (range_in D v j) h).block) i (block 0 0))

    promise : (i : ℕ) → list_of (removed (D.arenas v) (range_in D v j) h).arena (at (block_in D v) j (removed (D.arenas v) (range_in D v j) h).block i)
        ≡ at (λ (k : ℕ). list_of (D.arenas v) (block_in D v k)) j (without (eqb h) (list_in D v j)) i
    promise i =
        subst (λ (x : Block). list_of (removed (D.arenas v) x h).arena (at (block_in D v) j (removed (D.arenas v) x h).block i)
        ≡ at (λ (k : ℕ). list_of (D.arenas v) (block_in D v k)) j (without (eqb h) (list_of (D.arenas v) x)) i) (block-live j lj)
        ((remove-promise (D.arenas v) (block_in D v) j (R.blocks v) h).lists i)

    after-here : after j ≡ without (eqb h) (list_in D v j)
    after-here =
        let B = (removed (D.arenas v) (range_in D v j) h).block in
        let A = (removed (D.arenas v) (range_in D v j) h).arena in
        ap (list_of A) (get_or-set_same (D.ranges v) j B (block 0 0) (omega (arith, live-below D j lj, shape.ranges v)) ∙ sym (at_same (block_in D v) j B j refl))
        ∙ promise j
        ∙ at_same (λ (k : ℕ). list_of (D.arenas v) (block_in D v k)) j (without (eqb h) (list_in D v j)) j refl

    after-other : (i : ℕ) → live_slot D i ≡ true → (i ≡ j → ⊥) → after i ≡ list_in D v i
    after-other i li ne =
        let B = (removed (D.arenas v) (range_in D v j) h).block in
        let A = (removed (D.arenas v) (range_in D v j) h).arena in
        ap (list_of A) (get_or-set_other (D.ranges v) j i B (block 0 0) ne ∙ sym (block-live i li) ∙ sym (at_other (block_in D v) j B i ne))
        ∙ promise i
        ∙ at_other (λ (k : ℕ). list_of (D.arenas v) (block_in D v k)) j (without (eqb h) (list_in D v j)) i ne
        ∙ ap (list_of (D.arenas v)) (block-live i li)

    -- h stands in its parent's list of its kind, once, and in no other
    elsewhere : (w : Which) (i : ℕ) → live_slot D i ≡ true → (w ≡ v → i ≡ j → ⊥) → count_of (eqb h) (list_in D w i) ≡ 0
    elsewhere w i li ne =
        absent w i (λ m.
        let q = R.entries.no_other w i h li m in
        ne (sym q.2) (sym (handle_index-word_of (record { index = i; generation = generation_at D i }) (omega (arith, live-below D i li)))
        ∙ ap handle_index (sym (same_Some p (handle_at D i) (sym e ∙ q.1)))))

    there-once : count_of (eqb h) (list_in D v j) ≡ 1
    there-once = ap (λ (x : ℕ). count_of (eqb x) (list_in D v j)) (sym (handle-of D h lh)) ∙ R.entries.one (handle_index h) p lives e

    gone-after : (i : ℕ) → live_slot D i ≡ true → Dec (i ≡ j) → count_of (eqb h) (after i) ≡ 0
    gone-after i li (yes q) =
        ap (λ (x : ℕ). count_of (eqb h) (after x)) q
        ∙ ap (count_of (eqb h)) after-here
        ∙ without-one-less (eqb h) (list_in D v j)
        ∙ omega (arith, there-once)
    gone-after i li (no ne) = ap (count_of (eqb h)) (after-other i li ne) ∙ elsewhere v i li (λ a b. ne b)

    others-after : (i y : ℕ) → live_slot D i ≡ true → (y ≡ h → ⊥) → Dec (i ≡ j) → count_of (eqb y) (after i) ≡ count_of (eqb y) (list_in D v i)
    others-after i y li n (yes q) =
        ap (λ (x : ℕ). count_of (eqb y) (after x)) q
        ∙ ap (count_of (eqb y)) after-here
        ∙ count_of-without-other y h (list_in D v j) n
        ∙ ap (λ (x : ℕ). count_of (eqb y) (list_in D v x)) (sym q)
    others-after i y li n (no ne) = ap (count_of (eqb y)) (after-other i li ne)

    taken : Off C.ranges C.arenas
    taken = record {
      gone = λ w i li. gone w i li (same_which w v) refl;
      others = λ w i y li n. others w i y li n (same_which w v) refl;
      inside = λ w i li.
          unlinked-inside D R.blocks w i li (live_inside w i li) (omega (arith, live-below D i li, shape.ranges w)) v j h lj (omega (arith, live-below D j lj, shape.ranges w));
    }
      where
        lists : Which → ℕ → Bool → List ℕ
        lists w i t = list_of (cond t (removed (D.arenas v) (range_in D v j) h).arena (D.arenas w)) (get_or (cond t (set (D.ranges v) j (removed (D.arenas v) (range_in D v j) h).block) (D.ranges w)) i (block 0 0))

        gone : (w : Which) (i : ℕ) → live_slot D i ≡ true → (t : Bool) → same_which w v ≡ t → count_of (eqb h) (lists w i t) ≡ 0
        gone w i li true q = gone-after i li (ℕ_discrete i j)
        gone w i li false q = elsewhere w i li (λ a b. true≢false (sym (ap (same_which w) (sym a) ∙ same_which-refl w) ∙ q))

        others : (w : Which) (i y : ℕ) → live_slot D i ≡ true → (y ≡ h → ⊥) → (t : Bool) → same_which w v ≡ t → count_of (eqb y) (lists w i t) ≡ count_of (eqb y) (list_in D w i)
        others w i y li n true q = others-after i y li n (ℕ_discrete i j) ∙ ap (λ (x : Which). count_of (eqb y) (list_in D x i)) (sym (same_which-true w v q))
        others w i y li n false q = refl

  -- ---- the node taken off

  pub unhooked-freeable : SubtreeFreeable (unhook D h) h
  unfolding unlink set_parent
  unhooked-freeable = go (parent_at D h) refl
    where
      go : (q : Option ℕ) → parent_at D h ≡ q → SubtreeFreeable (set_parent (unlink_from q D h) h None) h
      go None e = off-freeable D.ranges D.arenas (stays e)
      go (Some p) e = off-freeable (C p e).ranges (C p e).arenas (taken p e)
