-- A new node: the slot taken, its words, and the document then.
-- Assumes nothing.
use mathlib.Core.Path.{◌≡◌, refl, sym, ap, subst, ◌∙◌}
use mathlib.Core.Bool.{true}
use mathlib.Core.List.{List, [], ◌∷◌, reverse}
use Prim.Native.Nat.{ℕ, suc, ◌-◌, ◌*◌, ◌≤◌, ◌<◌}
use native.Mathlib.Omega.{arith}
use native.Mathlib.Decide.{dec_lt}
use lib.ListN.{length}
use Rattle.words.specs.Parts.{put}
use Rattle.words.specs.Lists.{tabulate}
use borrow.Author.Tests.{ltb-true}
use Rattle.words.proofs.Parts.{put-put}
use Rattle.words.proofs.Lists.{length-tabulate}
use Rattle.records.specs.Handles.{word_of}
use Rattle.records.specs.Records.{record_of}
use Rattle.slots.specs.Regions.{slots_words, generation_at, free_at, put_generation, put_record, put_order, no_position}
use Rattle.slots.specs.Slots.{up, has_slot, taken, taken_words}
use Rattle.records.specs.declared.Node.{Node}
use Rattle.slots.specs.declared.slot.Taken.{Taken}
use Rattle.slots.proofs.Regions.{length-put_generation, length-put_order}
use Rattle.slots.proofs.Stacks.{taken_words-put, taken-reused, taken-new}
use Rattle.model.specs.Doc.{Doc}
use Rattle.model.specs.Edits.{next_from, next_handle, born_from, born}
use Rattle.layout.specs.declared.Document.{Document}
use Rattle.memory.specs.Decode.{kind_of, slots_part, slots_made, slots_free, pool_in, names_in, lengths_add, decode_with, decode}
use Rattle.memory.specs.Writing.{put_slots, put_node}
use Rattle.memory.proofs.Columns.{generation-in}
use Rattle.memory.proofs.Kept.{decode-kept, put_slots-texts}
use Rattle.memory.proofs.Shaped.{length-slots_part}
use Rattle.memory.proofs.Written.{length-put_slots, slots_part-put_slots}
use Rattle.memory.specs.Step.{Step}
use Rattle.layout.specs.Record.{with_slots}
use Rattle.edits.specs.Slot.{CanBear, Newborn}
use Rattle.memory.proofs.Past.{slots-past}
use Rattle.edits.proofs.Taking.{reverse-next, can-take}
use Rattle.edits.proofs.Filled.{filled_words, length-filled, decode-reused, decode-made}

module _ (d : Document) (mem : List ℕ) (c : CanBear d mem) where
  abbrev n : ℕ
  n = d.limits.nodes

  abbrev w : List ℕ
  w = slots_part d mem

  abbrev M : ℕ
  M = slots_made d

  abbrev F : ℕ
  F = slots_free d

  abbrev D : Doc
  D = decode d mem

  abbrev top : ℕ
  top = free_at n w (F - 1)

  long-w : slots_words n ≤ length w
  long-w = omega (arith, length-slots_part d mem c.memory)

  -- ---- the slot

  top-made : 0 < F → top < M
  top-made b = (can-take d mem c).rule-2 (F - 1) (omega arith)

  new-below : F ≡ 0 → M < n
  new-below e =
      let q : has_slot n M 0 ≡ true = ap (has_slot n M) (sym e) ∙ (can-take d mem c).slot in
      ltb-true M n q

  pub record Placed (t : Taken) : Type 0 where
    pub slot : t.id.index < d.limits.nodes
    pub generation : t.id.generation < 4294967296

  pub placed : Placed (taken d.limits.nodes (slots_part d mem) (slots_made d) (slots_free d))
  placed = go (dec_lt 0 F)
    where
      go : Dec (0 < F) → Placed (taken n w M F)
      go (yes b) = subst Placed (sym (taken-reused n w M F b)) (record { slot = omega (arith, top-made b); generation = omega arith })
      go (no b) =
          let e : F ≡ 0 = omega arith in
          subst Placed (sym (taken-new n w M F e)) (record { slot = new-below e; generation = omega arith })

  top-first : 0 < F → D.free ≡ top ∷ reverse (tabulate (free_at n w) (F - 1))
  top-first b =
      let e : F ≡ suc (F - 1) = omega arith in
      ap (λ (j : ℕ). reverse (tabulate (free_at n w) j)) e ∙ reverse-next (free_at n w) (F - 1)

  none_free : F ≡ 0 → D.free ≡ []
  none_free e = ap (λ (j : ℕ). reverse (tabulate (free_at n w) j)) e

  -- its handle is the next
  handle-next : word_of (taken d.limits.nodes (slots_part d mem) (slots_made d) (slots_free d)).id ≡ next_handle (decode d mem)
  handle-next = go (dec_lt 0 F)
    where
      go : Dec (0 < F) → word_of (taken n w M F).id ≡ next_from D.free D
      go (yes b) =
          ap (λ (t : Taken). word_of t.id) (taken-reused n w M F b)
          ∙ ap (λ (g : ℕ). word_of (record { index = top; generation = up g })) (sym (generation-in (pool_in d mem) (names_in d mem) (lengths_add d mem) d mem top (top-made b)))
          ∙ sym (ap (λ (l : List ℕ). next_from l D) (top-first b))
      go (no b) =
          let e : F ≡ 0 = omega arith in
          ap (λ (t : Taken). word_of t.id) (taken-new n w M F e)
          ∙ ap (λ (k : ℕ). word_of (record { index = k; generation = 0 })) (sym (length-tabulate (generation_at n w) M))
          ∙ sym (ap (λ (l : List ℕ). next_from l D) (none_free e))

  size-taken : length (taken_words n w M F) ≡ 15 * n
  size-taken =
      let i = (taken n w M F).id in
      ap length (taken_words-put n w M F) ∙ length-put_order n (put_generation n w i.index i.generation) i.index no_position
      ∙ length-put_generation n w i.index i.generation ∙ length-slots_part d mem c.memory

  pub taken-slot : (t : Taken) → t ≡ taken d.limits.nodes (slots_part d mem) (slots_made d) (slots_free d) → t.id.index < d.limits.nodes
  taken-slot t e = subst (λ (x : Taken). x.id.index < n) (sym e) placed.slot

  pub taken_next : (t : Taken) → t ≡ taken d.limits.nodes (slots_part d mem) (slots_made d) (slots_free d) → word_of t.id ≡ next_handle (decode d mem)
  taken_next t e = ap (λ (x : Taken). word_of x.id) e ∙ handle-next

  module _ (mem₁ : List ℕ) (e₁ : mem₁ ≡ put_slots (taken_words d.limits.nodes (slots_part d mem) (slots_made d) (slots_free d)) mem) where
    -- ---- the node
    module _ (m : Node) (new : Newborn m) where
      abbrev T : Taken
      T = taken n w M F

      abbrev u : List ℕ
      u = filled_words n w T.id.index T.id.generation m

      long-u : length u ≡ 15 * n
      long-u = length-filled n w long-w T.id.index T.id.generation placed.slot placed.generation m new ∙ length-slots_part d mem c.memory

      node-words : (mem₂ : List ℕ) → mem₂ ≡ put_node d mem₁ T.id.index m → mem₂ ≡ put_slots u mem
      unfolding put_node put_slots
      node-words mem₂ e₂ =
          let tw = taken_words n w M F in
          let q : slots_part d (put_slots tw mem) ≡ put_order n (put_generation n w T.id.index T.id.generation) T.id.index no_position =
          slots_part-put_slots d mem tw c.memory size-taken ∙ taken_words-put n w M F in
          e₂
          ∙ ap (λ (x : List ℕ). put_node d x T.id.index m) e₁
          ∙ ap (λ (x : List ℕ). put 0 (put_record n x T.id.index (record_of m)) (put 0 tw mem)) q
          ∙ put-put mem 0 u tw (omega arith) (omega (arith, long-u, size-taken))

      abbrev With : Taken → Type 0
      With t =
          decode_with (pool_in d mem) (names_in d mem) (lengths_add d mem) (with_slots d t.made t.free) (put_slots (filled_words n w t.id.index t.id.generation m) mem)
          ≡ born_from D.free D (kind_of m.«data») D.pool D.names

      born-document : decode (with_slots d (taken d.limits.nodes (slots_part d mem) (slots_made d) (slots_free d)).made (taken d.limits.nodes (slots_part d mem) (slots_made d) (slots_free d)).free) (put_slots u mem)
          ≡ born (decode d mem) (kind_of m.«data») (decode d mem).pool (decode d mem).names
      unfolding born lengths_add
      born-document =
          let k = put_slots-texts d mem u long-u in
          let e = with_slots d T.made T.free in
          decode-kept e mem (put_slots u mem) (record { texts = k.texts; names = k.names }) ∙ go (dec_lt 0 F)
        where
          go : Dec (0 < F) → With T
          go (yes b) =
              subst With (sym (taken-reused n w M F b))
              (decode-reused (pool_in d mem) (names_in d mem) (lengths_add d mem) d mem c.memory c.ready.counts top (up (generation_at n w top)) (omega (arith, top-made b)) (omega arith) m new (F - 1) (omega arith) (top-made b) refl
              ∙ sym (ap (λ (l : List ℕ). born_from l D (kind_of m.«data») D.pool D.names) (top-first b)))
          go (no b) =
              let e : F ≡ 0 = omega arith in
              subst With (sym (taken-new n w M F e))
              (decode-made (pool_in d mem) (names_in d mem) (lengths_add d mem) d mem c.memory c.ready.counts M 0 (new-below e) (omega arith) m new refl refl
              ∙ sym (ap (λ (l : List ℕ). born_from l D (kind_of m.«data») D.pool D.names) (none_free e)))

      pub born-step : (t : Taken) → t ≡ taken d.limits.nodes (slots_part d mem) (slots_made d) (slots_free d) → (mem₂ : List ℕ) → mem₂ ≡ put_node d mem₁ t.id.index m
          → (r : Document) → r ≡ with_slots d t.made t.free
          → Step d mem r mem₂ (born (decode d mem) (kind_of m.«data») (decode d mem).pool (decode d mem).names)
      born-step t et mem₂ e₂ r er =
          let B = born (decode d mem) (kind_of m.«data») (decode d mem).pool (decode d mem).names in
          let stepped : Step d mem (with_slots d T.made T.free) (put_slots u mem) B =
          record { document = born-document; limits = refl; size = length-put_slots d mem u c.memory long-u; past = slots-past d mem c.memory u long-u } in
          subst (λ (x : Document). Step d mem x mem₂ B) (sym (er ∙ ap (λ (x : Taken). with_slots d x.made x.free) et))
          (subst (λ (x : List ℕ). Step d mem (with_slots d T.made T.free) x B) (sym (node-words mem₂ (e₂ ∙ ap (λ (x : Taken). put_node d mem₁ x.id.index m) et))) stepped)
