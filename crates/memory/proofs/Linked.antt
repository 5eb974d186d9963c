-- What an edit of a block does to the document: `set_block` of the model, which `link` and `unlink_from` are.
-- Assumes nothing.
use Rattle.std.specs.Prelude.{Option, Some}
use mathlib.Core.Path.{◌≡◌, refl, sym, ap, ◌∙◌}
use mathlib.Core.Bool.{Bool, true, false, false≢true}
use mathlib.Core.List.{List}
use Prim.Native.Nat.{ℕ, ◌+◌, ◌≤◌, ◌<◌}
use native.Mathlib.Nat.{min-eq_left}
use lib.ListN.{length, set}
use Rattle.blocks.specs.Arena.{Edit, arena_of, arena_words}
use Rattle.records.specs.Fields.{RangeFits}
use Rattle.records.specs.declared.Node.{Node}
use Rattle.texts.specs.Pool.{Pool}
use Rattle.names.specs.Table.{Name}
use Rattle.model.specs.Kinds.{Which, children, attributes, namespaces, same_which}
use Rattle.model.specs.Doc.{Doc, change_nodes, change_arenas, change_current, change_fits}
use Rattle.model.specs.Rules.{has_range}
use Rattle.model.specs.Edits.{update_which, set_block}
use Rattle.layout.specs.declared.Document.{Document}
use Rattle.layout.specs.Layout.{limits_of, entries_of, memory_ok}
use Rattle.memory.specs.Decode.{kind_of, loaded_at, counts_within, slots_part, arena_part, slots_made, arena_used, arena_in, decode_with}
use Rattle.memory.specs.Writing.{put_arena, put_range, set_range}
use Rattle.memory.specs.Entries.{range_from, put_block}
use Rattle.layout.specs.Record.{with_used}
use Rattle.layout.proofs.Sizes.{memory-record}
use Rattle.memory.proofs.Counted.{counts-kept}
use Rattle.memory.proofs.Written.{same_which-refl, update-is, length-put_arena, slots_part-put_arena, decode-put_arena}
use Rattle.memory.proofs.Steps.{decode-put_range}

-- the lengths of the arenas in a record with another length of one of them
used-here : (d : Document) (w : Which) (used : ℕ) → used ≤ entries_of d.limits w → arena_used (with_used d w used) w ≡ used
unfolding with_used
used-here d children used b = min-eq_left b
used-here d attributes used b = min-eq_left b
used-here d namespaces used b = min-eq_left b

used-other : (d : Document) (w : Which) (used : ℕ) (v : Which) → same_which v w ≡ false → arena_used (with_used d w used) v ≡ arena_used d v
unfolding with_used
used-other d children used children e = absurd (false≢true (sym e))
used-other d children used attributes e = refl
used-other d children used namespaces e = refl
used-other d attributes used children e = refl
used-other d attributes used attributes e = absurd (false≢true (sym e))
used-other d attributes used namespaces e = refl
used-other d namespaces used children e = refl
used-other d namespaces used attributes e = refl
used-other d namespaces used namespaces e = absurd (false≢true (sym e))

-- an edit whose words are an arena of the same limit, and whose block's numbers fit
pub record EditFits (limit : ℕ) (e : Edit) : Type 0 where
  pub long : length (arena_words e.arena) ≡ limit + limit
  pub arena : arena_of limit e.arena.used (arena_words e.arena) ≡ e.arena
  pub used : e.arena.used ≤ limit
  pub fits : RangeFits (range_from e.block)

module _ (p : Pool) (names : List (Option Name)) (lengths : Bool) (d : Document) (mem : List ℕ) (ok : memory_ok d (length mem) ≡ true)
    (counts : counts_within (limits_of d.limits) d.counts ≡ true)
    (w : Which) (s : ℕ) (made : s < slots_made d)
    (m : Node) (loaded : loaded_at d.limits.nodes (slots_part d mem) s ≡ Some m) (has : has_range w (kind_of m.«data») ≡ true)
    (e : Edit) (f : EditFits (entries_of d.limits w) e) where
  abbrev d' : Document
  d' = with_used d w e.arena.used

  abbrev words : List ℕ
  words = arena_words e.arena

  abbrev D : Doc
  D = decode_with p names lengths d mem

  -- the arena's words replaced, with the new length
  arenas-set : (v : Which) → arena_of (entries_of d.limits v) (arena_used d' v) (update_which (λ a. arena_part d a mem) w words v) ≡ update_which D.arenas w e.arena v
  arenas-set = update-is D.arenas (λ v. arena_of (entries_of d.limits v) (arena_used d' v) (update_which (λ a. arena_part d a mem) w words v)) w e.arena here other
    where
      here : arena_of (entries_of d.limits w) (arena_used d' w) (update_which (λ a. arena_part d a mem) w words w) ≡ e.arena
      here = rw (used-here d w e.arena.used f.used, same_which-refl w) f.arena

      other : (v : Which) → same_which v w ≡ false → arena_of (entries_of d.limits v) (arena_used d' v) (update_which (λ a. arena_part d a mem) w words v) ≡ arena_in d v mem
      other v ne = rw (used-other d w e.arena.used v ne, ne)

  pub decode-put_block : decode_with p names lengths (with_used d w e.arena.used) (put_block d mem w s e) ≡ set_block (decode_with p names lengths d mem) w s e
  unfolding put_block with_used put_range set_range
  decode-put_block =
      let mem₁ = put_arena d w words mem in
      let ok₁ : memory_ok d (length mem₁) ≡ true = ap (memory_ok d) (length-put_arena d mem words ok w f.long) ∙ ok in
      let slots : slots_part d mem₁ ≡ slots_part d mem = slots_part-put_arena d mem words ok w f.long in
      decode-put_range p names lengths d' mem₁ (memory-record d (length mem₁) d'.counts false ok₁) s made m
      (ap (λ (v : List ℕ). loaded_at d.limits.nodes v s) slots ∙ loaded) w (range_from e.block) has f.fits
      ∙ ap (λ (x : Doc). set_range x w s e.block) (decode-put_arena d mem words ok w f.long p names lengths d'.counts false)
      ∙ (λ i.
      let ranges = update_which D.ranges w (set (D.ranges w) s e.block) in
      let lists = change_arenas (change_nodes D D.kinds D.parents ranges) (λ v. arenas-set v i) in
      change_fits (change_current lists false) ((counts-kept (limits_of d.limits) d.counts w e.arena.used counts f.used ∙ sym counts) i) lengths)
