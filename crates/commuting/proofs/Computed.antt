-- What each call of the example leaves, computed from the words of its memory.
-- Assumes nothing.
use mathlib.Core.Path.{◌≡◌, refl}
use mathlib.Core.Bool.{true, false}
use mathlib.Core.List.{[], ◌∷◌}
use lib.ListN.{length, replicate}
use Rattle.words.specs.Parts.{part, put}
use Rattle.words.specs.Lists.{insert_at}
use Rattle.words.specs.Ends.{start_of, length_of, piece_there, piece_place, piece_shown}
use Rattle.blocks.specs.Arena.{block, takes, has_room, inserted, removed}
use Rattle.slots.specs.Regions.{generation_at, free_at, record_at, node_at, order_at}
use Rattle.records.specs.Records.{is_span, is_data, is_parent, are_ranges, is_node, data_of, node_of}
use Rattle.names.specs.Table.{interned, name_fits}
use Rattle.names.specs.Words.{part_shown, name_there, name_shown}
use Rattle.chars.specs.Productions.{within, is_name_start_char, is_name_char}
use Rattle.chars.specs.Classes.{class_of, is_nc_name}
use Rattle.chars.specs.Utf8.{two, three, four}
use Rattle.chars.specs.Utf8 as utf8
use Rattle.chars.specs.Checks.{on_text, of_text, check_text, check_namespace}
use Rattle.chars.specs.Checks as text
use Rattle.model.specs.Kinds.{Which, children, attributes, namespaces}
use Rattle.model.specs.Doc.{Doc, columns, range_in}
use Rattle.model.specs.Edits.{set_parent, born, link, unlink, order_of, renew_order}
use Rattle.model.specs.Arguments.{is_utf8, name_check, namespace_check}
use Rattle.model.specs.Calls.{document-order, keys, is_refusal, guarded, step, done}
use Rattle.model.specs.Tree.{seed}
use Rattle.model.specs.Tree as tree
use Rattle.layout.specs.Layout.{arena_at, texts_at, names_at}
use Rattle.memory.specs.Decode.{decode, counts_within, lengths_add}
use Rattle.editing.specs.Contract.{is_editing}
use Rattle.tree.specs.Claim.{Event, Tells}
use Rattle.commuting.specs.Moves.{independent}
use Rattle.commuting.specs.Example.{limits, counted, fours, laid, three_nodes, event, handles, zone_made, inner_made, register, zone_move, inner_move, zone_earlier, inner_later, inner_earlier, zone_later}

-- ---- documents that are equal field by field

abbrev Each : {A : Type 0} → (Which → A) → (Which → A) → Type 0
Each f g = (f children ≡ g children) × (f attributes ≡ g attributes) × (f namespaces ≡ g namespaces)

each : {A : Type 0} (f g : Which → A) → Each f g → (w : Which) → f w ≡ g w
each f g e children = e.0
each f g e attributes = e.1
each f g e namespaces = e.2

same-document : (d e : Doc) → d.limits ≡ e.limits → d.gens ≡ e.gens → d.free ≡ e.free → d.kinds ≡ e.kinds → d.parents ≡ e.parents
    → Each d.ranges e.ranges → Each d.arenas e.arenas → d.order ≡ e.order → d.current ≡ e.current
    → d.pool ≡ e.pool → d.names ≡ e.names → d.counts_fit ≡ e.counts_fit → d.lengths_fit ≡ e.lengths_fit → d ≡ e
same-document d e limits gens free kinds parents ranges arenas order current pool names counts lengths = λ i.
    columns (limits i) (gens i) (free i) (kinds i) (parents i) (λ w. each d.ranges e.ranges ranges w i) (λ w. each d.arenas e.arenas arenas w i)
    (order i) (current i) (pool i) (names i) (counts i) (lengths i)

-- ---- what each call leaves, computed

-- what Start leaves, where a call is asked for that came before
abbrev pub begun : Event
begun = event document-order done (counted 1 0 0 true) (replicate 80 0)

-- `document_order` after each order
abbrev pub zone_first_renewed : Event
zone_first_renewed =
    event document-order (keys (0 ∷ 1 ∷ 2 ∷ [])) (counted 3 16 1 true) (laid (three_nodes (block 8 1) (block 12 1)) (0 ∷ 1 ∷ 2 ∷ []) (fours 1 2 1 2) (fours 0 0 4 4))

abbrev pub inner_first_renewed : Event
inner_first_renewed =
    event document-order (keys (0 ∷ 1 ∷ 2 ∷ [])) (counted 3 16 1 true) (laid (three_nodes (block 12 1) (block 8 1)) (0 ∷ 1 ∷ 2 ∷ []) (fours 1 2 2 1) (fours 0 0 4 4))

-- e is the step of its call on what b left, in the buffers of the example
pub record Steps (b e : Event) : Type 0 where
  pub document : decode e.document e.memory ≡ (step e.call (decode b.document b.memory)).doc
  pub answer : e.answer ≡ (step e.call (decode b.document b.memory)).answer
  pub accepted : is_refusal e.answer ≡ false
  pub editing : is_editing e.call ≡ true
  pub limits : (b.document.limits ≡ limits) × (e.document.limits ≡ limits)
  pub words : (length b.memory ≡ 80) × (length e.memory ≡ 80)
  pub scratch : (length e.scratch ≡ 28) × (e.scratch_after ≡ replicate 28 0)

steps : (b e : Event) → decode e.document e.memory ≡ (step e.call (decode b.document b.memory)).doc
    → e.answer ≡ (step e.call (decode b.document b.memory)).answer → is_refusal e.answer ≡ false → is_editing e.call ≡ true
    → (b.document.limits ≡ limits) × (e.document.limits ≡ limits) → (length b.memory ≡ 80) × (length e.memory ≡ 80)
    → (length e.scratch ≡ 28) × (e.scratch_after ≡ replicate 28 0) → Steps b e
steps b e document answer accepted editing limits words scratch = record {
  document = document;
  answer = answer;
  accepted = accepted;
  editing = editing;
  limits = limits;
  words = words;
  scratch = scratch;
}

pub record Computed : Type 0 where
  pub zone-made : Steps begun zone_made
  pub inner-made : Steps zone_made inner_made
  pub zone-earlier : Steps inner_made zone_earlier
  pub inner-later : Steps zone_earlier inner_later
  pub inner-earlier : Steps inner_made inner_earlier
  pub zone-later : Steps inner_earlier zone_later
  pub zone-first : Steps inner_later zone_first_renewed
  pub inner-first : Steps zone_later inner_first_renewed
  pub told : Tells handles register seed
  pub independently : independent (decode inner_made.document inner_made.memory) zone_move inner_move ≡ true
  pub ranges : (range_in (decode inner_later.document inner_later.memory) children 0 ≡ block 8 1)
      × (range_in (decode zone_later.document zone_later.memory) children 0 ≡ block 12 1)

pub computed : Computed
unfolding guarded part put insert_at takes has_room inserted removed interned name_fits set_parent born link unlink order_of renew_order is_utf8 name_check namespace_check text.is_utf8 of_text on_text utf8.decode utf8.step utf8.step_at two three four is_nc_name class_of within is_name_start_char is_name_char check_text check_namespace arena_at texts_at names_at generation_at free_at record_at node_at order_at counts_within lengths_add node_of is_node is_data is_parent are_ranges is_span data_of name_shown name_there piece_there start_of part_shown piece_shown piece_place length_of tree.born tree.set_parent tree.set_list
computed =
    record {
      zone-made = steps _ _ (same-document _ _ refl refl refl refl refl (refl, refl, refl) (refl, refl, refl) refl refl refl refl refl refl) refl refl refl (refl, refl) (refl, refl) (refl, refl);
      inner-made = steps _ _ (same-document _ _ refl refl refl refl refl (refl, refl, refl) (refl, refl, refl) refl refl refl refl refl refl) refl refl refl (refl, refl) (refl, refl) (refl, refl);
      zone-earlier = steps _ _ (same-document _ _ refl refl refl refl refl (refl, refl, refl) (refl, refl, refl) refl refl refl refl refl refl) refl refl refl (refl, refl) (refl, refl) (refl, refl);
      inner-later = steps _ _ (same-document _ _ refl refl refl refl refl (refl, refl, refl) (refl, refl, refl) refl refl refl refl refl refl) refl refl refl (refl, refl) (refl, refl) (refl, refl);
      inner-earlier = steps _ _ (same-document _ _ refl refl refl refl refl (refl, refl, refl) (refl, refl, refl) refl refl refl refl refl refl) refl refl refl (refl, refl) (refl, refl) (refl, refl);
      zone-later = steps _ _ (same-document _ _ refl refl refl refl refl (refl, refl, refl) (refl, refl, refl) refl refl refl refl refl refl) refl refl refl (refl, refl) (refl, refl) (refl, refl);
      zone-first = steps _ _ (same-document _ _ refl refl refl refl refl (refl, refl, refl) (refl, refl, refl) refl refl refl refl refl refl) refl refl refl (refl, refl) (refl, refl) (refl, refl);
      inner-first = steps _ _ (same-document _ _ refl refl refl refl refl (refl, refl, refl) (refl, refl, refl) refl refl refl refl refl refl) refl refl refl (refl, refl) (refl, refl) (refl, refl);
      told = (λ lt. refl, (λ lt. refl, tt));
      independently = refl;
      ranges = (refl, refl);
    }
