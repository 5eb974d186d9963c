-- The starred examples of slots and handles, by computation.
-- Assumes nothing.
use Rattle.std.proofs.Common.{refl}
use Rattle.words.specs.Parts.{part, put}
use Rattle.records.specs.Records.{record_of, is_span, is_data, is_parent, are_ranges, is_node}
use Rattle.slots.specs.Regions.{generation_at, free_at, record_at, put_generation, put_free, put_record, put_order}
use Rattle.slots.specs.Slots.{is_current, resolves, taken, taken_generations, taken_words, freed_words}
use Rattle.slots.specs.Examples.{SlotExamples}

pub slot-examples : SlotExamples
unfolding part put record_of is_span is_data is_parent are_ranges is_node generation_at free_at record_at put_generation put_free put_record put_order is_current resolves taken taken_generations taken_words freed_words
slot-examples = record {
  first-handle = refl;
  second-handle = refl;
  third-handle = refl;
  second-resolves = refl;
  removed-stale = refl;
  odd-stale = refl;
  next-handle = refl;
  next-resolves = refl;
  still-stale = refl;
  wraps = refl;
  wrapped-handle = refl;
}
