-- A turn of the walk over a tree: the top of the stack is met, its children go on the stack, and its lists are laid.
-- Assumes nothing.
use Rattle.std.specs.List.{slice_get}
use Rattle.std.specs.Prelude.{None, Some}
use mathlib.Core.Path.{◌≡◌, refl, sym, ap, ◌∙◌, subst}
use mathlib.Core.Bool.{Bool, true, false, cond}
use mathlib.Core.List.{List, [], ◌∷◌, ◌++◌, append_assoc, append-nil}
use Prim.Native.Nat.{ℕ, zero, suc, ◌+◌, ◌-◌, ◌≤◌, ◌<◌}
use native.Mathlib.Omega.{arith}
use lib.ListN.{length, set, length-append}
use Rattle.records.specs.Handles.{handle_index}
use Rattle.model.specs.Kinds.{Which, children, is_element}
use Rattle.model.specs.Doc.{Doc, live_slot, handle_at, kind_at, parent_in, list_in, list_at, has_list}
use Rattle.model.specs.Rules.{Rules}
use Rattle.model.specs.Edits.{Laying, walk, lay_list, laying_from}
use Rattle.layout.specs.declared.Document.{Document}
use Rattle.layout.specs.Layout.{memory_ok}
use Rattle.memory.specs.Decode.{slots_made, pool_in, names_in, lengths_add, decode}
use Rattle.layout.proofs.Sizes.{sizes}
use Rattle.memory.proofs.Columns.{length-gens, live_made}
use Rattle.memory.proofs.Shaped.{length_ids}
use Rattle.walks.specs.Order.{ListHeld}
use Rattle.walks.specs.Stack.{Stacked, stacked, pushed, popped}
use Rattle.walks.proofs.Walkable.{live_of}
use Rattle.walks.proofs.Stacks.{room_of, room-first, entries-first, room-popped, room-pushed, word_popped, none_popped}
use Rattle.compaction.specs.declared.copy.Lengths.{Lengths}
use Rattle.compaction.specs.Copies.{copies_in, Copies, Layable, NodeLayable, node_laid, rebuilt_below, TreesLaid}
use Rattle.compaction.proofs.Nodes.{copies-more, copies-same, copies-are, kind-kept, list-kept, layable-kept}
use Rattle.compaction.proofs.MetNodes.{Met, next-live, met-fits, met_next, met-top, met-below, rebuilt-top}
use Rattle.compaction.proofs.Layings.{lay-one, lay-append, has-range, layings, next-fresh, next-inside, next-room}

-- the rules of the document that the memory was at first
pub record FromRules (d : Document) (o : List ℕ) : Type 0 where
  pub memory : memory_ok d (length o) ≡ true
  pub rules : Rules (decode d o)

pub made-few : (d : Document) (o : List ℕ) → memory_ok d (length o) ≡ true → length (decode d o).gens ≤ 65536
made-few d o ok = let z = sizes d (length o) ok in omega (arith, length-gens (pool_in d o) (names_in d o) (lengths_add d o) d o)

module _ (d : Document) (o : List ℕ) (F : FromRules d o) where
  abbrev D : Doc
  D = decode d o

  few : length (decode d o).gens ≤ 65536
  few = made-few d o F.memory

  gens-made : length (decode d o).gens ≡ slots_made d
  gens-made = length-gens (pool_in d o) (names_in d o) (lengths_add d o) d o

  -- ---- a node met next
  module _ (i : ℕ) (met : List ℕ) (x : ℕ) (s : List ℕ) (M : Met (decode d o) i met (x ∷ s)) where
    next-layable : (w : Which) → has_list w (is_element (kind_at (decode d o) x)) ≡ true → Layable d o w (handle_index x) (layings (decode d o) met w).arena.used
    next-layable w has =
        let l = next-live D i met x s M in
        let fit = (F.rules.blocks w).shaped.fits in
        record {
          memory = F.memory;
          live = live_of D x l.0;
          owner = has-range w (kind_at D x) l.1 has;
          inside = omega (arith, next-inside D F.rules few i met x s M w has, fit, length_ids d o F.memory w);
          room = omega (arith, next-room D F.rules few i met x s M w has, fit, length_ids d o F.memory w);
        }

    module _ (mem : List ℕ) (used : Lengths) (C : Copies d o mem used (layings (decode d o) met)) where
      pub memory-ok : memory_ok d (length mem) ≡ true
      memory-ok = ap (memory_ok d) C.size ∙ F.memory

      same_kind : kind_at (decode d mem) x ≡ kind_at (decode d o) x
      same_kind = kind-kept d o mem used (layings D met) C (handle_index x)

      pub node-layable : NodeLayable d mem x used
      node-layable w has =
          let h = ap (λ (k : _). has_list w (is_element k)) (sym same_kind) ∙ has in
          layable-kept d o mem used (layings D met) C w (handle_index x) (next-fresh D F.rules few i met x s M w h) (layings D met w).arena.used refl (next-layable w h)

      pub children-same : list_at (decode d mem) children x ≡ list_at (decode d o) children x
      children-same = list-kept d o mem used (layings D met) C children (handle_index x) (next-fresh D F.rules few i met x s M children refl)

      pub children-held : ListHeld d mem children (handle_index x)
      children-held =
          let L = node-layable children refl in
          record {
            memory = memory-ok;
            live = L.live;
            inside = L.inside;
          }

      -- its lists laid
      pub node-next : (mem' : List ℕ) (used' : Lengths) → Copies d mem mem' used' (node_laid (decode d mem) (copies_in d mem used) x) → Copies d o mem' used' (layings (decode d o) (met ++ (x ∷ [])))
      node-next mem' used' C' =
          copies-same d o mem' used' (node_laid (decode d mem) (copies_in d mem used) x)
          (copies-more d o mem used (layings D met) C mem' used' (node_laid (decode d mem) (copies_in d mem used) x) C')
          (layings D (met ++ (x ∷ []))) same
        where
          same : (w : Which) → node_laid (decode d mem) (copies_in d mem used) x w ≡ layings D (met ++ (x ∷ [])) w
          same w =
              lay-one (decode d mem) w x (copies_in d mem used w)
              ∙ ap (λ (k : _). cond (has_list w (is_element k)) (lay_list (copies_in d mem used w) (handle_index x) (list_at (decode d mem) w x)) (copies_in d mem used w)) same_kind
              ∙ go (has_list w (is_element (kind_at D x))) refl
              ∙ sym (lay-one D w x (layings D met w))
              ∙ sym (lay-append D w met (x ∷ []) (laying_from D w))
            where
              go : (t : Bool) → has_list w (is_element (kind_at D x)) ≡ t
                  → cond t (lay_list (copies_in d mem used w) (handle_index x) (list_at (decode d mem) w x)) (copies_in d mem used w)
                  ≡ cond t (lay_list (layings D met w) (handle_index x) (list_at D w x)) (layings D met w)
              go true has =
                  ap (λ (a : Laying). lay_list a (handle_index x) (list_at (decode d mem) w x)) (copies-are d o mem used (layings D met) C w)
                  ∙ ap (lay_list (layings D met w) (handle_index x)) (list-kept d o mem used (layings D met) C w (handle_index x) (next-fresh D F.rules few i met x s M w has))
              go false has = copies-are d o mem used (layings D met) C w

  -- ---- the turns of one tree

  -- so many turns are done: the nodes that they walked, and what the walk of the rest of the stack will
  pub record Growing (i room : ℕ) (mem : List ℕ) (stack : Stacked) (used : Lengths) (left : ℕ) : Type 0 where
    pub same-room : room_of stack ≡ room
    pub walked : List ℕ
    pub whole : walked ++ walk (λ h. list_at (decode d o) children h) left stack.entries ≡ walk (λ h. list_at (decode d o) children h) (length (decode d o).gens) (handle_at (decode d o) i ∷ [])
    pub turns : length walked + left ≡ slots_made d
    pub met : Met (decode d o) (suc i) (rebuilt_below (decode d o) i ++ walked) stack.entries
    pub copies : Copies d o mem used (layings (decode d o) (rebuilt_below (decode d o) i ++ walked))

  abbrev next : ℕ → List ℕ
  next h = list_at (decode d o) children h

  -- before the first turn the handle of the slot is on the stack
  pub record Started (i : ℕ) (mem : List ℕ) (used : Lengths) (word : ℕ) : Type 0 where
    pub copies : Copies d o mem used (layings (decode d o) (rebuilt_below (decode d o) i))
    pub live : live_slot (decode d o) i ≡ true
    pub top : parent_in (decode d o) i ≡ None
    pub handle : word ≡ handle_at (decode d o) i

  pub growing-first : (i : ℕ) (mem words : List ℕ) (stack : Stacked) (word : ℕ) (used : Lengths) (left : ℕ) → 0 < length words → stack ≡ stacked 1 (set words 0 word) → left ≡ slots_made d
      → Started i mem used word → Growing i (length words) mem stack used left
  growing-first i mem words stack word used left h q e S =
      let B = rebuilt_below D i in
      let b = live_made (pool_in d o) (names_in d o) (lengths_add d o) d o i S.live in
      let one : stack.entries ≡ handle_at D i ∷ [] = ap (λ (s : Stacked). s.entries) q ∙ entries-first words word h ∙ ap (λ (y : ℕ). y ∷ []) S.handle in
      record {
        same-room = ap (λ (s : Stacked). room_of s) q ∙ room-first words word h;
        walked = [];
        whole = ap (λ (k : ℕ). walk next k stack.entries) (e ∙ sym gens-made) ∙ ap (walk next (length D.gens)) one;
        turns = omega arith;
        met =
            subst (Met D (suc i) (B ++ [])) (sym one)
            (subst (λ (k : List ℕ). Met D (suc i) k (handle_at D i ∷ [])) (sym (append-nil B))
            (met-top D F.rules few i B (met-below D F.rules few i (omega (arith, gens-made))) S.live S.top));
        copies = subst (λ (k : List ℕ). Copies d o mem used (layings D k)) (sym (append-nil B)) S.copies;
      }

  module _ (i room : ℕ) (mem : List ℕ) (stack : Stacked) (used : Lengths) (left : ℕ) (G : Growing i room mem stack used left) where
    pub memory_kept : memory_ok d (length mem) ≡ true
    memory_kept = ap (memory_ok d) G.copies.size ∙ F.memory

    module _ (word : ℕ) (top : Some word ≡ slice_get stack.entries 0) where
      taken : stack.entries ≡ word ∷ (popped stack).entries
      taken = word_popped stack word top

      abbrev B : List ℕ
      B = rebuilt_below (decode d o) i ++ G.walked

      M : Met D (suc i) B (word ∷ (popped stack).entries)
      M = subst (Met D (suc i) B) taken G.met

      pub turn-left : 1 ≤ left
      turn-left =
          let f = met-fits D F.rules few (suc i) B (word ∷ (popped stack).entries) M in
          let t = G.turns in
          omega (arith, length-append (rebuilt_below D i) G.walked, gens-made)

      pub word_held : (s : ℕ) → s ≡ handle_index word → ListHeld d mem children s
      word_held s e = subst (ListHeld d mem children) (sym e) (children-held (suc i) B word (popped stack).entries M mem used G.copies)

      pub word-layable : NodeLayable d mem word used
      word-layable = node-layable (suc i) B word (popped stack).entries M mem used G.copies

      module _ (s : ℕ) (e : s ≡ handle_index word) (entries : List ℕ) (g : entries ≡ list_in (decode d mem) children s) where
        entries-are : entries ≡ next word
        entries-are = g ∙ ap (list_in (decode d mem) children) e ∙ children-same (suc i) B word (popped stack).entries M mem used G.copies

        M' : Met D (suc i) (B ++ (word ∷ [])) (entries ++ (popped stack).entries)
        M' =
            subst (λ (k : List ℕ). Met D (suc i) (B ++ (word ∷ [])) (k ++ (popped stack).entries)) (sym entries-are)
            (met_next D F.rules few (suc i) B word (popped stack).entries M)

        pub stack-room : d.limits.nodes ≤ room → length entries ≤ length (popped stack).free
        stack-room r =
            let q = G.same-room in
            omega (
              arith,
              met-fits D F.rules few (suc i) (B ++ (word ∷ [])) (entries ++ (popped stack).entries) M',
              length-append entries (popped stack).entries,
              gens-made,
              room-popped stack,
            )

        pub growing-next : d.limits.nodes ≤ room → (stack' : Stacked) → stack' ≡ pushed entries (popped stack)
            → (mem' : List ℕ) (used' : Lengths) → Copies d mem mem' used' (node_laid (decode d mem) (copies_in d mem used) word)
            → Growing i room mem' stack' used' (left - 1)
        growing-next r stack' p mem' used' C =
            let top' : stack'.entries ≡ entries ++ (popped stack).entries = ap (λ (s : Stacked). s.entries) p in
            let behind : B ++ (word ∷ []) ≡ rebuilt_below D i ++ (G.walked ++ (word ∷ [])) = append_assoc (rebuilt_below D i) G.walked (word ∷ []) in
            record {
              same-room = ap (λ (s : Stacked). room_of s) p ∙ room-pushed entries (popped stack) (stack-room r) ∙ room-popped stack ∙ G.same-room;
              walked = G.walked ++ (word ∷ []);
              whole = append_assoc G.walked (word ∷ []) (walk next (left - 1) stack'.entries) ∙ ap (λ (k : List ℕ). G.walked ++ k) (step left turn-left top') ∙ G.whole;
              turns = let t = G.turns in omega (arith, turn-left, length-append G.walked (word ∷ []));
              met =
                  subst (λ (k : List ℕ). Met D (suc i) k stack'.entries) behind
                  (subst (Met D (suc i) (B ++ (word ∷ []))) (sym top') M');
              copies =
                  subst (λ (k : List ℕ). Copies d o mem' used' (layings D k)) behind
                  (node-next (suc i) B word (popped stack).entries M mem used G.copies mem' used' C);
            }
          where
            step : (n : ℕ) → 1 ≤ n → stack'.entries ≡ entries ++ (popped stack).entries → word ∷ walk next (n - 1) stack'.entries ≡ walk next n stack.entries
            step zero h t = absurd (omega arith)
            step (suc n) h t =
                let z : suc n - 1 ≡ n = omega arith in
                ap (λ (k : ℕ). word ∷ walk next k stack'.entries) z
                ∙ ap (λ (k : List ℕ). word ∷ walk next n k) (t ∙ ap (λ (k : List ℕ). k ++ (popped stack).entries) entries-are)
                ∙ sym (ap (walk next (suc n)) taken)

  pub growing-last : (i room : ℕ) (mem : List ℕ) (stack : Stacked) (used : Lengths) (left : ℕ) → Growing i room mem stack used left → None ≡ slice_get stack.entries 0
      → live_slot (decode d o) i ≡ true → parent_in (decode d o) i ≡ None → TreesLaid d o mem (suc i) used
  growing-last i room mem stack used left G h l e = record {
    memory = F.memory;
    rules = F.rules;
    copies =
        subst (λ (k : List ℕ). Copies d o mem used (layings D k))
        (ap (λ (k : List ℕ). rebuilt_below D i ++ k) (sym (append-nil G.walked) ∙ ap (λ (k : List ℕ). G.walked ++ k) (sym (walk_none left) ∙ ap (walk next left) (sym (none_popped stack h))) ∙ G.whole)
        ∙ sym (rebuilt-top D F.rules few i (omega (arith, few, gens-made, live_made (pool_in d o) (names_in d o) (lengths_add d o) d o i l)) l e))
        G.copies;
  }
    where
      walk_none : (n : ℕ) → walk next n [] ≡ []
      walk_none zero = refl
      walk_none (suc n) = refl
