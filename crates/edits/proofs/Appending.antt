-- A new node at the end of a list.
-- Assumes nothing.
use Rattle.std.specs.Prelude.{Option, None, Some}
use mathlib.Core.Path.{◌≡◌, refl, sym, ap, subst, subst₂, ◌∙◌}
use mathlib.Core.Bool.{true, ◌&&◌, false≢true}
use mathlib.Core.List.{List, [], ◌∷◌}
use Prim.Native.Nat.{ℕ, ◌%◌, ◌<◌}
use native.Mathlib.Omega.{arith}
use native.Mathlib.Decide.{dec_lt}
use lib.ListN.{length, get_or, get_or-append, get_or-eq_default}
use lib.Seq.{get_or-set_same, get_or-set_other, get_or_at}
use lib.Dec.{eqb}
use borrow.Author.Tests.{eq-eqb, eqb-true}
use Rattle.words.proofs.Tests.{and_left}
use Rattle.blocks.specs.Arena.{Arena, Block, block, has_room}
use Rattle.blocks.specs.Rule.{Inside}
use Rattle.records.specs.Handles.{handle_index}
use Rattle.records.proofs.Handles.{handle_index-word_of}
use Rattle.texts.specs.Pool.{Pool}
use Rattle.names.specs.Table.{Name}
use Rattle.model.specs.Kinds.{Kind, root, Which}
use Rattle.model.specs.Doc.{Doc, even, is_some, or_else, generation_at, live_slot, range_in, list_at}
use Rattle.model.specs.Rules.{Shape, has_range}
use Rattle.model.specs.Edits.{up, next_from, next_handle, born_from, born, attach}
use Rattle.model.specs.Calls.{appended}
use Rattle.layout.specs.declared.Document.{Document}
use Rattle.memory.specs.Decode.{pool_in, names_in, lengths_add, decode}
use Rattle.memory.proofs.Columns.{length-gens}
use Rattle.layout.proofs.Sizes.{sizes}
use Rattle.memory.proofs.Shaped.{shape}
use Rattle.memory.specs.Step.{Step}
use Rattle.edits.specs.Asked.{Attachable, RoomIn}
use Rattle.edits.specs.Slot.{SlotReady, Appendable}
use Rattle.edits.proofs.Composed.{step-as, step-memory, step-next}
use Rattle.edits.proofs.Lists.{room_open}

-- a document in which the slot and the arena are the same has the same room
room-same : (B D : Doc) (w : Which) (s : ℕ) → B.counts_fit ≡ D.counts_fit → B.arenas w ≡ D.arenas w → generation_at B s ≡ generation_at D s
    → get_or B.kinds s None ≡ get_or D.kinds s None → range_in B w s ≡ range_in D w s → RoomIn D w s → RoomIn B w s
room-same B D w s c a g k b r =
    record {
      counts = c ∙ r.counts;
      live = ap (λ (x : ℕ). even x && is_some (get_or B.kinds s None)) g ∙ ap (λ (x : Option (Kind ℕ (Option ℕ))). even (generation_at D s) && is_some x) k ∙ r.live;
      owner = ap (λ (x : Option (Kind ℕ (Option ℕ))). has_range w (or_else root x)) k ∙ r.owner;
      inside = subst₂ (λ (x : Arena) (y : Block). Inside x y) (sym a) (sym b) r.inside;
      room = ap (λ (x : Arena). has_room x (range_in B w s)) a ∙ ap (λ (y : Block). has_room (D.arenas w) y) b ∙ r.room;
    }

module _ (D : Doc) (sh : Shape D) (narrow : length D.gens < 4294967296) (ready : SlotReady D) (k : Kind ℕ (Option ℕ)) (p : Pool) (names : List (Option Name)) where
  -- ---- the first of the free slots
  module _ (i : ℕ) (l : List ℕ) (e : D.free ≡ i ∷ l) where
    first_made : i < length D.gens
    first_made = subst (λ (f : List ℕ). 0 < length f → get_or f 0 0 < length D.gens) e (ready.inside 0) (omega arith)

    first-odd : generation_at D i % 2 ≡ 1
    first-odd = subst (λ (f : List ℕ). 0 < length f → generation_at D (get_or f 0 0) % 2 ≡ 1) e (ready.odd 0) (omega arith)

  -- ---- the new node is live

  pub born-live : live_slot (born D k p names) (handle_index (next_handle D)) ≡ true
  unfolding born
  born-live = go D.free refl
    where
      go : (f : List ℕ) → D.free ≡ f → live_slot (born_from f D k p names) (handle_index (next_from f D)) ≡ true
      go [] e =
          ap (live_slot (born_from [] D k p names)) (handle_index-word_of (record { index = length D.gens; generation = 0 }) narrow)
          ∙ rw (get_or_at D.gens 0 [] 1 (length D.gens) refl, get_or_at D.kinds (Some k) [] None (length D.gens) sh.kinds)
      go (i ∷ l) e =
          let b = first_made i l e in
          let kb : i < length D.kinds = omega (arith, sh.kinds) in
          let even_up : eqb (up (generation_at D i) % 2) 0 ≡ true = eq-eqb (up (generation_at D i) % 2) 0 (omega (arith, first-odd i l e)) in
          ap (live_slot (born_from (i ∷ l) D k p names)) (handle_index-word_of (record { index = i; generation = up (generation_at D i) }) (omega arith))
          ∙ rw (get_or-set_same D.gens i (up (generation_at D i)) 1 b, get_or-set_same D.kinds i (Some k) None kb, even_up)

  -- ---- every other slot is as it was

  live-below : (s : ℕ) → live_slot D s ≡ true → s < length D.gens
  live-below s h = go (dec_lt s (length D.gens))
    where
      go : Dec (s < length D.gens) → s < length D.gens
      go (yes b) = b
      go (no nb) =
          let q : get_or D.gens s 1 ≡ 1 = get_or-eq_default D.gens 1 {n = s} (omega arith) in
          absurd (false≢true (sym (ap (λ (g : ℕ). even g && is_some (get_or D.kinds s None)) q) ∙ h))

  pub born-room : (w : Which) (s : ℕ) → RoomIn D w s → RoomIn (born D k p names) w s
  unfolding born
  born-room w s r = go D.free refl
    where
      go : (f : List ℕ) → D.free ≡ f → RoomIn (born_from f D k p names) w s
      go [] e =
          let b = live-below s r.live in
          let kb : s < length D.kinds = omega (arith, sh.kinds) in
          let rb : s < length (D.ranges w) = omega (arith, sh.ranges w) in
          room-same (born_from [] D k p names) D w s refl refl
          (get_or-append D.gens (0 ∷ []) 1 s b)
          (get_or-append D.kinds (Some k ∷ []) None s kb)
          (get_or-append (D.ranges w) (block 0 0 ∷ []) (block 0 0) s rb)
          r
      go (i ∷ l) e =
          room-same (born_from (i ∷ l) D k p names) D w s refl refl
          (get_or-set_other D.gens i s (up (generation_at D i)) 1 other)
          (get_or-set_other D.kinds i s (Some k) None other)
          (get_or-set_other (D.ranges w) i s (block 0 0) (block 0 0) other)
          r
        where
          other : s ≡ i → ⊥
          other q =
              let v = eqb-true (generation_at D s % 2) 0 (and_left (even (generation_at D s)) (is_some (get_or D.kinds s None)) r.live) in
              let o = first-odd i l e in
              let z : generation_at D i % 2 ≡ 0 = ap (λ (x : ℕ). generation_at D x % 2) (sym q) ∙ v in
              omega arith

-- ---- append

module _ (d : Document) (mem : List ℕ) (w : Which) (pw : ℕ) (a : Appendable d mem w pw) (k : Kind ℕ (Option ℕ))
    (e : Document) (mem₁ : List ℕ) (s : Step d mem e mem₁ (born (decode d mem) k (decode d mem).pool (decode d mem).names))
    (h : ℕ) (eh : h ≡ next_handle (decode d mem)) where
  abbrev D₀ : Doc
  D₀ = decode d mem

  abbrev B : Doc
  B = born D₀ k D₀.pool D₀.names

  narrow-gens : length D₀.gens < 4294967296
  narrow-gens =
      let z = sizes d (length mem) a.bear.memory in
      omega (arith, length-gens (pool_in d mem) (names_in d mem) (lengths_add d mem) d mem, z.nodes)

  pub appended-ready : Attachable e mem₁ w pw h
  appended-ready =
      let ok = step-memory d mem e mem₁ B s a.bear.memory in
      let shaped = shape (pool_in d mem) (names_in d mem) (lengths_add d mem) d mem a.bear.memory in
      record {
        node = record {
          memory = ok;
          live =
              ap (λ (x : Doc). live_slot x (handle_index h)) s.document
              ∙ ap (λ (x : ℕ). live_slot B (handle_index x)) eh
              ∙ born-live D₀ shaped narrow-gens a.bear.ready k D₀.pool D₀.names;
        };
        room = room_open e mem₁ w (handle_index pw) ok
            (subst (λ (x : Doc). RoomIn x w (handle_index pw)) (sym s.document) (born-room D₀ shaped narrow-gens a.bear.ready k D₀.pool D₀.names w (handle_index pw) a.room));
      }

  pub append-step : (r : Document) (mem₂ : List ℕ) → Step e mem₁ r mem₂ (attach (decode e mem₁) w pw (length (list_at (decode e mem₁) w pw)) h)
      → Step d mem r mem₂ (appended (decode d mem) w pw k (decode d mem).pool (decode d mem).names)
  append-step r mem₂ t =
      step-as d mem r mem₂ (attach B w pw (length (list_at B w pw)) h) (appended D₀ w pw k D₀.pool D₀.names)
      (step-next d mem e mem₁ B s (λ (x : Doc). attach x w pw (length (list_at x w pw)) h) r mem₂ t)
      (ap (λ (x : ℕ). attach B w pw (length (list_at B w pw)) x) eh)
