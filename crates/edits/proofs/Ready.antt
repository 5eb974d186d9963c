-- What the steps ask follows from the eight rules and from what a plan decided.
-- Assumes nothing.
use Rattle.std.specs.Prelude.{Option, Some}
use mathlib.Core.Path.{◌≡◌, refl, sym, ap, ◌∙◌}
use mathlib.Core.Bool.{true, false≢true}
use mathlib.Core.List.{List}
use Prim.Native.Nat.{ℕ, ◌%◌, ◌<◌}
use native.Mathlib.Omega.{arith}
use lib.ListN.{length, get_or}
use lib.Dec.{eqb}
use Rattle.words.specs.Lists.{count_of}
use Rattle.words.proofs.Lists.{length-tabulate, get_or-tabulate}
use Rattle.words.proofs.Tests.{and_left}
use Rattle.texts.proofs.Lists.{get_or-count}
use Rattle.records.specs.Handles.{handle_index, handle_generation}
use Rattle.slots.specs.Regions as regions
use Rattle.model.specs.Kinds.{Kind, root, element, attribute, text, comment, namespace, instruction, Which, children, attributes, namespaces, owns, which_of}
use Rattle.model.specs.Doc.{generation_at, live_slot, resolves, kind_at, parent_at}
use Rattle.model.specs.Rules.{Rules, has_range}
use Rattle.model.specs.Edits.{unhook}
use Rattle.model.specs.Calls.{slot_fits, room_fits}
use Rattle.layout.specs.declared.Document.{Document}
use Rattle.layout.specs.Layout.{memory_ok}
use Rattle.memory.specs.Decode.{slots_part, slots_made, pool_in, names_in, lengths_add, decode}
use Rattle.memory.specs.Entries.{BlockHeld}
use Rattle.memory.proofs.Columns.{length-gens, live_made}
use Rattle.memory.proofs.Promises.{rules-held}
use Rattle.memory.proofs.Shaped.{shape}
use Rattle.edits.specs.Asked.{NodeHeld, Hooked, RoomIn, Movable}
use Rattle.edits.specs.Slot.{CanBear, Appendable}
use Rattle.edits.proofs.Unhooked.{unhooked-room}

-- a kind that owns a list has its block
owns-range : (w : Which) (k : Kind ℕ (Option ℕ)) → owns w k ≡ true → has_range w k ≡ true
owns-range children root e = refl
owns-range children (element n) e = refl
owns-range children (attribute n v) e = absurd (false≢true e)
owns-range children (text t) e = refl
owns-range children (comment t) e = refl
owns-range children (namespace p u) e = absurd (false≢true e)
owns-range children (instruction t c) e = refl
owns-range attributes k e = e
owns-range namespaces k e = e

module _ (d : Document) (mem : List ℕ) (ok : memory_ok d (length mem) ≡ true) (r : Rules (decode d mem)) where
  resolved_live : (h : ℕ) → resolves (decode d mem) h ≡ true → live_slot (decode d mem) (handle_index h) ≡ true
  resolved_live h e = and_left (live_slot (decode d mem) (handle_index h)) (eqb (generation_at (decode d mem) (handle_index h)) (handle_generation h)) e

  pub rules-node : (h : ℕ) → resolves (decode d mem) h ≡ true → NodeHeld d mem h
  rules-node h e = record { memory = ok; live = resolved_live h e }

  -- a live node can be taken off its parent
  pub rules-hooked : (h : ℕ) → resolves (decode d mem) h ≡ true → Hooked d mem h
  rules-hooked h e = record { node = rules-node h e; block = above }
    where
      above : (p : ℕ) → parent_at (decode d mem) h ≡ Some p → BlockHeld d mem (which_of (kind_at (decode d mem) h)) (handle_index p)
      above p q =
          let o = r.parents.owner (handle_index h) p (resolved_live h e) q in
          rules-held d mem (which_of (kind_at (decode d mem) h)) (handle_index p) ok r (resolved_live p o.0)
          (owns-range (which_of (kind_at (decode d mem) h)) (kind_at (decode d mem) p) o.1)

  -- a live parent of the right kind, whose block has room
  pub rules-room : (w : Which) (p : ℕ) → resolves (decode d mem) p ≡ true → owns w (kind_at (decode d mem) p) ≡ true → room_fits (decode d mem) w p ≡ true → RoomIn (decode d mem) w (handle_index p)
  rules-room w p e o f =
      let h = rules-held d mem w (handle_index p) ok r (resolved_live p e) (owns-range w (kind_at (decode d mem) p) o) in
      record { counts = h.counts; live = h.live; owner = h.owner; inside = h.inside; room = f }

  -- a slot can be taken
  pub rules-bear : slot_fits (decode d mem) ≡ true → CanBear d mem
  rules-bear f =
      record {
        memory = ok;
        ready = record {
          counts = r.fields.counts;
          generations = r.fields.generations;
          inside = r.free_list.inside;
          odd = free-odd;
          slot = f;
        };
      }
    where
      same-default : (s : ℕ) → s < length (decode d mem).gens → generation_at (decode d mem) s ≡ get_or (decode d mem).gens s 0
      same-default s b =
          let n = d.limits.nodes in
          let g = regions.generation_at n (slots_part d mem) in
          let c : s < slots_made d = omega (arith, length-tabulate g (slots_made d)) in
          get_or-tabulate g (slots_made d) s 1 c ∙ sym (get_or-tabulate g (slots_made d) s 0 c)

      odd-of : (g k : ℕ) → 0 < k → k ≡ g % 2 → g % 2 ≡ 1
      odd-of g k b e = omega arith

      free-odd : (i : ℕ) → i < length (decode d mem).free → generation_at (decode d mem) (get_or (decode d mem).free i 0) % 2 ≡ 1
      free-odd i b =
          let s = get_or (decode d mem).free i 0 in
          let e = same-default s (r.free_list.inside i b) in
          let q = r.free_list.once s (r.free_list.inside i b) in
          let c = get_or-count (decode d mem).free i b in
          ap (λ (g : ℕ). g % 2) e ∙ odd-of (get_or (decode d mem).gens s 0) (count_of (eqb s) (decode d mem).free) c q

  pub rules-appendable : (w : Which) (p : ℕ) → resolves (decode d mem) p ≡ true → owns w (kind_at (decode d mem) p) ≡ true
      → slot_fits (decode d mem) ≡ true → room_fits (decode d mem) w p ≡ true → Appendable d mem w p
  rules-appendable w p e o f g = record { bear = rules-bear f; room = rules-room w p e o g }

  -- ---- a move: the parent's block still lies in its arena once the node was taken off

  slot-ranged : (w : Which) (s : ℕ) → live_slot (decode d mem) s ≡ true → s < length ((decode d mem).ranges w)
  slot-ranged w s l =
      omega (
        arith,
        live_made (pool_in d mem) (names_in d mem) (lengths_add d mem) d mem s l,
        (shape (pool_in d mem) (names_in d mem) (lengths_add d mem) d mem ok).ranges w,
        length-gens (pool_in d mem) (names_in d mem) (lengths_add d mem) d mem,
      )

  pub rules-movable : (p h : ℕ) → resolves (decode d mem) h ≡ true → resolves (decode d mem) p ≡ true → owns children (kind_at (decode d mem) p) ≡ true
      → room_fits (unhook (decode d mem) h) children p ≡ true → Movable d mem p h
  rules-movable p h eh ep o f =
      let held = rules-held d mem children (handle_index p) ok r (resolved_live p ep) (owns-range children (kind_at (decode d mem) p) o) in
      record {
        hooked = rules-hooked h eh;
        room =
            unhooked-room (decode d mem) r.blocks children (handle_index p) held.live held.inside (slot-ranged children (handle_index p) held.live) h
            above held.counts held.owner f;
      }
    where
      above : (q : ℕ) → parent_at (decode d mem) h ≡ Some q → (live_slot (decode d mem) (handle_index q) ≡ true) × (handle_index q < length ((decode d mem).ranges children))
      above q e =
          let o = r.parents.owner (handle_index h) q (resolved_live h eh) e in
          let l = resolved_live q o.0 in
          (l, slot-ranged children (handle_index q) l)
