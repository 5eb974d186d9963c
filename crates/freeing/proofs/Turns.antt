-- A turn of `free_nodes`: the top of the stack has its lists pushed, then it is freed.
-- Assumes nothing.
use Rattle.std.specs.List.{slice_get}
use Rattle.std.specs.Prelude.{None, Some}
use mathlib.Core.Path.{◌≡◌, refl, sym, ap, ◌∙◌, subst}
use mathlib.Core.Bool.{true, ◌&&◌}
use mathlib.Core.List.Memᴰ
use mathlib.Core.List.{List, [], ◌∷◌, ◌++◌, map, reverse, append_assoc, append-nil, Memᴰ}
use Prim.Native.Nat.{ℕ, zero, suc, ◌+◌, ◌-◌, ◌≤◌, ◌<◌}
use native.Mathlib.Omega.{arith}
use lib.Dec.{eqb}
use lib.ListN.{length, get_or, set, length-append, length-reverse, length-map}
use Rattle.words.specs.Lists.{count_of}
use Rattle.words.proofs.Lists.{count_of-append}
use Rattle.blocks.specs.Arena.{Block}
use Rattle.blocks.proofs.Capacities.{capacity-least}
use Rattle.records.specs.Handles.{handle_index}
use Rattle.model.specs.Kinds.{Which, children, attributes, namespaces}
use Rattle.model.specs.Doc.{Doc, even, is_some, live_slot, resolves, parent_at, range_in, list_in}
use Rattle.model.specs.Edits.{walk, pushed_by, subtree, free_all}
use Rattle.laws.proofs.Basics.{mem-count}
use Rattle.laws.proofs.Freeing.{slots_of, raised_all-other}
use Rattle.layout.specs.declared.Limits.{Limits}
use Rattle.layout.specs.declared.Document.{Document}
use Rattle.layout.specs.Layout.{limits_of, memory_ok}
use Rattle.memory.specs.Decode.{slots_made, pool_in, names_in, lengths_add, decode}
use Rattle.memory.specs.Step.{Step}
use Rattle.memory.proofs.Columns.{length-gens}
use Rattle.layout.proofs.Sizes.{limits-fit, memory-limits}
use Rattle.edits.specs.Pooled.{set_pool}
use Rattle.edits.proofs.Composed.{step-none, step-as, step-memory, step-next}
use Rattle.walks.specs.Order.{pushed_in, ListHeld}
use Rattle.walks.specs.Stack.{Stacked, stacked, pushed, popped}
use Rattle.laws.proofs.Membership.{distinct-map, mem-map-cases, pigeonhole}
use Rattle.walks.proofs.Distinct.{count-distinct}
use Rattle.walks.proofs.Stacks.{room_of, room-first, entries-first, room-popped, room-pushed, word_popped, none_popped}
use Rattle.walks.proofs.Visits.{Nest}
use Rattle.walks.proofs.Walkable.{live_of, same_index, index-made, nest-pushed}
use Rattle.freeing.specs.Freed.{free_slot, free_node, free_all_slots}
use Rattle.freeing.specs.Asked.{NodeFreeable, SubtreeFreeable, Reclaimable}
use Rattle.freeing.proofs.AllFreed.{free_all-none, free_all-next, next-freeable}
use Rattle.freeing.proofs.Room.{all-freeable, all-reclaimable}
use Rattle.freeing.proofs.Visited.{Met, met-first, met_next}

-- freeing changes no list
range-freed : (D : Doc) (l : List ℕ) (w : Which) (s : ℕ) → range_in (free_all_slots D l) w s ≡ range_in D w s
unfolding free_all set_pool
range-freed D l w s = refl

list-freed : (D : Doc) (l : List ℕ) (w : Which) (s : ℕ) → list_in (free_all_slots D l) w s ≡ list_in D w s
unfolding free_all set_pool
list-freed D l w s = refl

-- nor does it change a slot that is not freed
live-freed : (D : Doc) (l : List ℕ) (s : ℕ) → (Memᴰ s (slots_of l) → ⊥) → live_slot (free_all_slots D l) s ≡ live_slot D s
unfolding free_all set_pool
live-freed D l s n = ap (λ (g : ℕ). even g && is_some (get_or D.kinds s None)) (raised_all-other l D.gens s n)

module _ (d : Document) (mem₀ : List ℕ) (h : ℕ) where
  abbrev D : Doc
  D = decode d mem₀

  -- so many turns are done: the nodes that they freed, and what the walk of the rest of the stack will
  pub record Freeing (room : ℕ) (document : Document) (mem : List ℕ) (stack : Stacked) : Type 0 where
    pub same-room : room_of stack ≡ room
    pub done : List ℕ
    pub step : Step d mem₀ document mem (free_all_slots (decode d mem₀) done)
    pub left : ℕ
    pub whole : done ++ walk (pushed_by (decode d mem₀)) left stack.entries ≡ subtree (decode d mem₀) h
    pub turns : length done + left ≡ slots_made d
    pub met : Met (pushed_by (decode d mem₀)) (λ y. resolves (decode d mem₀) y ≡ true) (parent_at (decode d mem₀)) h done stack.entries

  module _ (ok : memory_ok d (length mem₀) ≡ true) (S : SubtreeFreeable (decode d mem₀) h) where
    abbrev Meets : List ℕ → List ℕ → Type 0
    Meets done stack = Met (pushed_by D) (λ y. resolves D y ≡ true) (parent_at D) h done stack

    nest : Nest (pushed_by D) (λ y. resolves D y ≡ true) (parent_at D) h
    nest = nest-pushed D S.entries h S.live S.top

    -- no more than there are slots
    fits : (done s : List ℕ) → Meets done s → length done + length s ≤ slots_made d
    fits done s m =
        omega (
          arith,
          length-append done s,
          length-map (done ++ s) handle_index,
          pigeonhole (slots_made d) (map handle_index (done ++ s))
              (distinct-map handle_index (done ++ s) (λ a b ma mb e. same_index D a b (alive a ma) (alive b mb) e) (count-distinct (done ++ s) (λ x q. omega (arith, m.once x, count_of-append (eqb x) done s))))
              (λ i q. let o = mem-map-cases handle_index (done ++ s) q in subst (λ (x : ℕ). x < slots_made d) (sym o.2) (index-made d mem₀ ok o.0 (alive o.0 o.1))),
        )
      where
        alive : (y : ℕ) → Memᴰ y (done ++ s) → resolves D y ≡ true
        alive y q = m.live y (omega (arith, mem-count y (done ++ s) q, count_of-append (eqb y) done s))

    pub freeing-first : (words : List ℕ) → 0 < length words → (word : ℕ) → word ≡ h → (stack : Stacked) → stack ≡ stacked 1 (set words 0 word) → Freeing (length words) d mem₀ stack
    freeing-first words b word q stack e =
        let one : stack.entries ≡ h ∷ [] = ap (λ (s : Stacked). s.entries) e ∙ entries-first words word b ∙ ap (λ (k : ℕ). k ∷ []) q in
        record {
          same-room = ap (λ (s : Stacked). room_of s) e ∙ room-first words word b;
          done = [];
          step = step-none d mem₀ (free_all_slots D []) (free_all-none D S.outdated);
          left = slots_made d;
          whole =
              ap (walk (pushed_by D) (slots_made d)) one
              ∙ ap (λ (k : ℕ). walk (pushed_by D) k (h ∷ [])) (sym (length-gens (pool_in d mem₀) (names_in d mem₀) (lengths_add d mem₀) d mem₀));
          turns = omega arith;
          met = subst (Meets []) (sym one) (met-first (pushed_by D) (λ y. resolves D y ≡ true) (parent_at D) h nest);
        }

    module _ (room : ℕ) (document : Document) (mem : List ℕ) (stack : Stacked) (F : Freeing room document mem stack) (word : ℕ) (top : Some word ≡ slice_get stack.entries 0) where
      taken : stack.entries ≡ word ∷ (popped stack).entries
      taken = word_popped stack word top

      m : Meets F.done (word ∷ (popped stack).entries)
      m = subst (Meets F.done) taken F.met

      m' : Meets (F.done ++ (word ∷ [])) (pushed_by D word ++ (popped stack).entries)
      m' = met_next (pushed_by D) (λ y. resolves D y ≡ true) (parent_at D) h nest F.done (popped stack).entries word m

      top-once : (y : ℕ) → count_of (eqb y) (F.done ++ (word ∷ [])) ≤ 1
      top-once y = omega (arith, m.once y, count_of-append (eqb y) F.done (word ∷ []))

      top-live : (y : ℕ) → Memᴰ y (F.done ++ (word ∷ [])) → resolves D y ≡ true
      top-live y q = m.live y (omega (arith, mem-count y (F.done ++ (word ∷ [])) q, count_of-append (eqb y) F.done (word ∷ [])))

      word_live : resolves D word ≡ true
      word_live = top-live word (Memᴰ.append_right F.done (Memᴰ.head refl))

      turn-left : 1 ≤ F.left
      turn-left = omega (arith, fits F.done (word ∷ (popped stack).entries) m, F.turns)

      memory-freed : memory_ok document (length mem) ≡ true
      memory-freed = step-memory d mem₀ document mem (free_all_slots D F.done) F.step ok

      module _ (s : ℕ) (e : s ≡ handle_index word) where
        -- ---- its lists

        -- a handle is freed once, so its slot is not free yet
        not-freed : Memᴰ s (slots_of F.done) → ⊥
        not-freed q =
            let o = mem-map-cases handle_index F.done q in
            let y : o.0 ≡ word = same_index D o.0 word (top-live o.0 (Memᴰ.append_left (word ∷ []) o.1)) word_live (sym o.2 ∙ e) in
            absurd (omega (
              arith,
              mem-count word F.done (subst (λ (x : ℕ). Memᴰ x F.done) y o.1),
              mem-count word (word ∷ []) (Memᴰ.head refl),
              count_of-append (eqb word) F.done (word ∷ []),
              top-once word,
            ))

        slot-live : live_slot (decode document mem) s ≡ true
        slot-live =
            ap (λ (x : Doc). live_slot x s) F.step.document
            ∙ live-freed D F.done s not-freed
            ∙ ap (live_slot D) e
            ∙ live_of D word word_live

        pub lists-held : (w : Which) → ListHeld document mem w s
        lists-held w =
            let i = (S.inside w (handle_index word) (live_of D word word_live)).below in
            let b : (range_in D w (handle_index word)).start + (range_in D w (handle_index word)).len ≤ (limits_of d.limits).entries w =
            omega (arith, capacity-least (D.arenas w).caps (range_in D w (handle_index word))) in
            let same : range_in D w (handle_index word) ≡ range_in (decode document mem) w s =
            ap (range_in D w) (sym e) ∙ sym (range-freed D F.done w s) ∙ ap (λ (x : Doc). range_in x w s) (sym F.step.document) in
            record {
              memory = memory-freed;
              live = slot-live;
              inside =
                  subst (λ (x : Block). x.start + x.len ≤ (limits_of document.limits).entries w) same
                  (subst (λ (x : Limits). (range_in D w (handle_index word)).start + (range_in D w (handle_index word)).len ≤ (limits_of x).entries w) (sym F.step.limits) b);
            }

        list_same : (w : Which) → list_in (decode document mem) w s ≡ list_in D w (handle_index word)
        list_same w = ap (λ (x : Doc). list_in x w s) F.step.document ∙ list-freed D F.done w s ∙ ap (list_in D w) e

        pushed-same : pushed_in (decode document mem) s ≡ pushed_in D (handle_index word)
        pushed-same =
            ap (λ (x : List ℕ). x ++ (list_in (decode document mem) attributes s ++ list_in (decode document mem) namespaces s)) (list_same children)
            ∙ ap (λ (x : List ℕ). list_in D children (handle_index word) ++ (x ++ list_in (decode document mem) namespaces s)) (list_same attributes)
            ∙ ap (λ (x : List ℕ). list_in D children (handle_index word) ++ (list_in D attributes (handle_index word) ++ x)) (list_same namespaces)

        pub stack-room : d.limits.nodes ≤ room → length (pushed_in (decode document mem) s) ≤ length (popped stack).free
        stack-room b =
            let r = F.same-room in
            omega (
              arith,
              fits (F.done ++ (word ∷ [])) (pushed_by D word ++ (popped stack).entries) m',
              length-append (pushed_by D word) (popped stack).entries,
              length-reverse (pushed_in D (handle_index word)),
              ap length pushed-same,
              room-popped stack,
            )

        -- ---- it is freed

        pub node-freeable : NodeFreeable (decode document mem) s
        node-freeable =
            subst (NodeFreeable (decode document mem)) (sym e)
            (subst (λ (x : Doc). NodeFreeable x (handle_index word)) (sym F.step.document)
            (next-freeable D F.done word (all-freeable D S.freeable (F.done ++ (word ∷ [])) top-once top-live)))

        -- each turn puts a slot on the free list
        pub freed-smaller : (document' : Document) (mem' : List ℕ) → Step document mem document' mem' (free_node (decode document mem) s)
            → document'.limits.nodes - length (decode document' mem').free < document.limits.nodes - length (decode document mem).free
        unfolding free_slot set_pool
        freed-smaller document' mem' t =
            let room : length (decode document mem).free < document.limits.nodes = node-freeable.slot.room in
            let more : length (decode document' mem').free ≡ suc (length (decode document mem).free) = ap (λ (x : Doc). length x.free) t.document in
            let same : document'.limits.nodes ≡ document.limits.nodes = ap (λ (x : Limits). x.nodes) t.limits in
            omega arith

        pub freeing-next : d.limits.nodes ≤ room → (stack' : Stacked) → stack' ≡ pushed (reverse (pushed_in (decode document mem) s)) (popped stack)
            → (document' : Document) (mem' : List ℕ) → Step document mem document' mem' (free_node (decode document mem) s)
            → Freeing room document' mem' stack'
        freeing-next b stack' p document' mem' t =
            let l = reverse (pushed_in (decode document mem) s) in
            let top' : stack'.entries ≡ pushed_by D word ++ (popped stack).entries =
            ap (λ (x : Stacked). x.entries) p ∙ ap (λ (x : List ℕ). reverse x ++ (popped stack).entries) pushed-same in
            record {
              same-room =
                  ap (λ (x : Stacked). room_of x) p
                  ∙ room-pushed l (popped stack) (omega (arith, stack-room b, length-reverse (pushed_in (decode document mem) s)))
                  ∙ room-popped stack ∙ F.same-room;
              done = F.done ++ (word ∷ []);
              step =
                  step-as d mem₀ document' mem' (free_node (free_all_slots D F.done) s) (free_all_slots D (F.done ++ (word ∷ [])))
                  (step-next d mem₀ document mem (free_all_slots D F.done) F.step (λ (x : Doc). free_node x s) document' mem' t)
                  (ap (free_node (free_all_slots D F.done)) e ∙ free_all-next D F.done word);
              left = F.left - 1;
              whole = append_assoc F.done (word ∷ []) _ ∙ ap (λ (x : List ℕ). F.done ++ x) (walked F.left turn-left top') ∙ F.whole;
              turns = let r = F.turns in omega (arith, turn-left, length-append F.done (word ∷ []));
              met = subst (Meets (F.done ++ (word ∷ []))) (sym top') m';
            }
          where
            walked : (n : ℕ) → 1 ≤ n → stack'.entries ≡ pushed_by D word ++ (popped stack).entries
                → word ∷ walk (pushed_by D) (n - 1) stack'.entries ≡ walk (pushed_by D) n stack.entries
            walked zero b q = absurd (omega arith)
            walked (suc n) b q =
                let z : suc n - 1 ≡ n = omega arith in
                ap (λ (k : ℕ). word ∷ walk (pushed_by D) k stack'.entries) z
                ∙ ap (λ (x : List ℕ). word ∷ walk (pushed_by D) n x) q
                ∙ sym (ap (walk (pushed_by D) (suc n)) taken)

    pub freeing-last : (room : ℕ) (document : Document) (mem : List ℕ) (stack : Stacked) → Freeing room document mem stack → None ≡ slice_get stack.entries 0
        → Step d mem₀ document mem (free_all_slots (decode d mem₀) (subtree (decode d mem₀) h)) × Reclaimable (free_all_slots (decode d mem₀) (subtree (decode d mem₀) h))
    freeing-last room document mem stack F b =
        let whole : F.done ≡ subtree D h =
        sym (append-nil F.done)
        ∙ ap (λ (x : List ℕ). F.done ++ x) (sym (walk_none F.left) ∙ ap (walk (pushed_by D) F.left) (sym (none_popped stack b)))
        ∙ F.whole in (
          step-as d mem₀ document mem (free_all_slots D F.done) (free_all_slots D (subtree D h)) F.step (ap (free_all_slots D) whole),
          subst (λ (l : List ℕ). Reclaimable (free_all_slots D l)) whole
              (all-reclaimable D S.freeable F.done (λ y. omega (arith, F.met.once y)) (λ y q. F.met.live y (omega (arith, mem-count y F.done q)))),
        )
      where
        walk_none : (n : ℕ) → walk (pushed_by D) n [] ≡ []
        walk_none zero = refl
        walk_none (suc n) = refl

pub stack_some : (d : Document) (mem room : ℕ) → memory_ok d mem ≡ true → d.limits.nodes ≤ room → 0 < room
stack_some d mem room ok b = omega (arith, (limits-fit (limits_of d.limits) (memory-limits d mem ok)).some-node)
