-- The rebuilt document has the lists that it had, and rules 4 and 5 hold in it, so that its order can be renewed.
-- Assumes nothing.
use mathlib.Core.Path.{◌≡◌, refl, sym, ap, ◌∙◌, subst}
use mathlib.Core.Logic.{◌⊎◌, inl, inr}
use mathlib.Core.Bool.{Bool, true, false, cond, false≢true, true≢false}
use mathlib.Core.List.{List, [], Memᴰ}
use Prim.Native.Nat.{ℕ, ◌≤◌}
use native.Mathlib.Omega.{arith}
use lib.ListN.{length, get_or, replicate, length-replicate}
use lib.Dec.{eqb}
use Rattle.words.specs.Lists.{count_of, keep}
use Rattle.words.proofs.Parts.{part_none}
use Rattle.blocks.specs.Arena.{block, list_of}
use Rattle.blocks.specs.Rule.{BlocksApart}
use Rattle.blocks.proofs.Laid.{cleared-none}
use Rattle.records.specs.Handles.{handle_index}
use Rattle.records.proofs.Handles.{handle_index-word_of}
use Rattle.model.specs.Kinds.{Kind, root, element, attribute, text, comment, namespace, instruction, Which, children, attributes, namespaces, which_of, is_element}
use Rattle.model.specs.Doc.{Doc, generation_at, live_slot, handle_at, kind_in, kind_at, range_in, list_in, has_list}
use Rattle.model.specs.Rules.{Rules, Shape, has_range, block_in}
use Rattle.model.specs.Edits.{Laying, laying_from, laying, rebuilt, rebuild_arenas}
use Rattle.laws.proofs.Wf.{Distinct}
use Rattle.laws.proofs.Basics.{live-below, live-node}
use Rattle.laws.proofs.Membership.{mem-map}
use Rattle.laws.proofs.Laid.{range_of, Packed, laid_all, laid_all-other, laid_all-caps, packed_all, packed-blocks}
use Rattle.laws.proofs.Rebuilt.{mem-keep}
use Rattle.memory.proofs.Written.{same_which-true}
use Rattle.walks.specs.Order.{Walkable}
use Rattle.walks.proofs.Walkable.{live_of, rules-walkable}
use Rattle.compaction.proofs.MetNodes.{Live, met-once, met-live, met_all, child-met}
use Rattle.compaction.proofs.Layings.{lay-slots, slots_for, laid-used, has-range, slot-of, slot-live, slots-once, slots-fit}

-- a kind that has a range stands among children and has that list
range-child : {N T : Type 0} (w : Which) (k : Kind N T) → has_range w k ≡ true → which_of k ≡ children
range-child {N} {T} w k e = go w k e
  where
    is-element : (k : Kind N T) → is_element k ≡ true → which_of k ≡ children
    is-element root e = refl
    is-element (element n) e = refl
    is-element (attribute n v) e = absurd (false≢true e)
    is-element (text t) e = refl
    is-element (comment t) e = refl
    is-element (namespace p u) e = absurd (false≢true e)
    is-element (instruction t d) e = refl

    go : (w : Which) (k : Kind N T) → has_range w k ≡ true → which_of k ≡ children
    go children k e = same_which-true (which_of k) children e
    go attributes k e = is-element k e
    go namespaces k e = is-element k e

range-list : {N T : Type 0} (w : Which) (k : Kind N T) → has_range w k ≡ true → has_list w (is_element k) ≡ true
range-list children k e = refl
range-list attributes k e = e
range-list namespaces k e = e

module _ (D : Doc) (R : Rules D) (H : Shape D) (few : length D.gens ≤ 65536) where
  once : Distinct (rebuilt D)
  once = met-once D (length D.gens) (rebuilt D) [] (met_all D R few)

  live : (y : ℕ) → Memᴰ y (rebuilt D) → Live D y
  live = met-live D (length D.gens) (rebuilt D) [] (met_all D R few)

  module _ (w : Which) where
    abbrev slots : List ℕ
    slots = slots_for D w (rebuilt D)

    laying-is : laying D w ≡ laid_all (list_in D w) (slots_for D w (rebuilt D)) (laying_from D w)
    laying-is = lay-slots D w (rebuilt D) (laying_from D w)

    -- the lists take no more than the arena had in use
    pub rebuilt-fits : (laying D w).arena.used ≤ (D.arenas w).used
    rebuilt-fits =
        omega (
          arith,
          ap (λ (a : Laying). a.arena.used) laying-is,
          laid-used (list_in D w) slots (laying_from D w),
          slots-fit D (rebuilt D) once live w R,
        )

    packed : Packed (list_in D w) (λ i. Memᴰ i (slots_for D w (rebuilt D)) ⊎ ⊥) (laying D w) × (length (laying D w).arena.ids ≡ length (D.arenas w).ids)
    packed =
        subst (λ (a : Laying). Packed (list_in D w) (λ i. Memᴰ i slots ⊎ ⊥) a × (length a.arena.ids ≡ length (D.arenas w).ids)) (sym laying-is)
        (packed_all (list_in D w) slots (λ i. ⊥) (laying_from D w)
        (record { fits = omega arith; lists = λ i v. absurd v; inside = λ i v. absurd v; apart = λ i j v u n. absurd v })
        (slots-once D (rebuilt D) once live w) (λ i m v. v)
        (λ i m. omega (arith, live-below D i (slot-live D (rebuilt D) once live w i m), H.ranges w))
        (omega (arith, slots-fit D (rebuilt D) once live w R, (R.blocks w).shaped.fits)))

    caps-after : (laying D w).arena.caps ≡ replicate (length (D.arenas w).caps) 0
    caps-after = ap (λ (a : Laying). a.arena.caps) laying-is ∙ laid_all-caps (list_in D w) slots (laying_from D w)

    -- a live node has its list laid, or its range is (0, 0) before and after
    abbrev LaidOrUnused : ℕ → Type 0
    LaidOrUnused i = Memᴰ i slots ⊎ ((range_of (laying D w) i ≡ block 0 0) × (range_in D w i ≡ block 0 0))

    laid-or-unused : (i : ℕ) → live_slot D i ≡ true → LaidOrUnused i
    laid-or-unused i l = go (has_range w (kind_in D i)) refl
      where
        go : (t : Bool) → has_range w (kind_in D i) ≡ t → LaidOrUnused i
        go true e =
            let x : handle_index (handle_at D i) ≡ i = handle_index-word_of (record { index = i; generation = generation_at D i }) (omega (arith, live-below D i l)) in
            inl
            (subst (λ (k : ℕ). Memᴰ k slots) x
            (mem-map handle_index (keep (λ h. has_list w (is_element (kind_at D h))) (rebuilt D))
            (mem-keep (λ h. has_list w (is_element (kind_at D h))) (rebuilt D) (ap (λ (k : ℕ). has_list w (is_element (kind_in D k))) x ∙ range-list w (kind_in D i) e)
            (child-met D R few i l (range-child w (kind_in D i) e)))))
        go false e =
            let k = live-node D i l in
            let u = H.unused w i (kind_in D i) k e in
            inr (ap (λ (a : Laying). range_of a i) laying-is ∙ laid_all-other (list_in D w) slots (laying_from D w) i unlaid ∙ u, u)
          where
            unlaid : Memᴰ i slots → ⊥
            unlaid m =
                let o = slot-of D (rebuilt D) once live w i m in
                true≢false
                (sym (has-range w (kind_at D o.0) (live o.0 o.1).1 o.2)
                ∙ ap (λ (k : ℕ). has_range w (kind_in D k)) (sym o.3)
                ∙ e)

    pub list-after : (i : ℕ) → live_slot D i ≡ true → list_of (laying D w).arena (range_of (laying D w) i) ≡ list_in D w i
    list-after i l = go (laid-or-unused i l)
      where
        go : LaidOrUnused i → list_of (laying D w).arena (range_of (laying D w) i) ≡ list_in D w i
        go (inl m) = packed.0.lists i (inl m)
        go (inr u) =
            ap (list_of (laying D w).arena) u.0
            ∙ part_none (laying D w).arena.ids 0
            ∙ sym (part_none (D.arenas w).ids 0)
            ∙ ap (list_of (D.arenas w)) (sym u.1)

    blocks-after : BlocksApart (laying D w).arena (block_in (rebuild_arenas D) w)
    unfolding rebuild_arenas
    blocks-after =
        packed-blocks (list_in D w) (λ i. Memᴰ i slots ⊎ ⊥) (laying D w) packed.0
        (ap length caps-after ∙ length-replicate (length (D.arenas w).caps) 0 ∙ (R.blocks w).shaped.paired ∙ sym packed.1)
        (λ s. ap (λ (l : List ℕ). get_or l s 0) (caps-after ∙ ap (λ (n : ℕ). replicate n 0) (R.blocks w).shaped.paired) ∙ (cleared-none (D.arenas w)).none s)
        (block_in (rebuild_arenas D) w) (λ i. go i (live_slot D i) refl)
      where
        After : ℕ → Type 0
        After i =
            let b = cond (live_slot D i) (range_of (laying D w) i) (block 0 0) in
            ((Memᴰ i slots ⊎ ⊥) × (b ≡ range_of (laying D w) i)) ⊎ (b ≡ block 0 0)

        go : (i : ℕ) (t : Bool) → live_slot D i ≡ t → After i
        go i false e = inr (rw e)
        go i true e = each (laid-or-unused i e)
          where
            each : LaidOrUnused i → After i
            each (inl m) = inl (inl m, rw e)
            each (inr u) = inr (rw e u.0)

  pub walkable-rebuilt : Walkable (rebuild_arenas D)
  unfolding rebuild_arenas
  walkable-rebuilt =
      let W = rules-walkable D R in
      record {
        entries = record {
          one = λ i p l e.
              let q = (R.parents.owner i p l e).0 in
              ap (count_of (eqb (handle_at D i))) (list-after (which_of (kind_in D i)) (handle_index p) (live_of D p q)) ∙ R.entries.one i p l e;
          no_other = λ w i h l m. R.entries.no_other w i h l (subst (λ (k : List ℕ). Memᴰ h k) (list-after w i l) m);
        };
        blocks = blocks-after;
        root = W.root;
        top = W.top;
      }
