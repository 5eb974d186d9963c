-- The record of a document with some of its fields replaced, and of a document that holds next to nothing. Each definition lists the fields.
use Rattle.std.specs.Prelude.{Bool, true, false, ℕ}
use Rattle.texts.specs.declared.TextCounts.{TextCounts}
use Rattle.names.specs.declared.NameCounts.{NameCounts}
use Rattle.model.specs.Kinds.{Which, children, attributes, namespaces}
use Rattle.model.specs.Edits.{update_which}
use Rattle.layout.specs.declared.Limits as given
use Rattle.layout.specs.declared.Counts.{Counts}
use Rattle.layout.specs.declared.Document.{Document}

-- the length of an arena
abbrev pub used_of : Counts → Which → ℕ
used_of c children = c.children
used_of c attributes = c.attributes
used_of c namespaces = c.namespaces

-- ---- other counts

-- of the slots made and free
abbrev pub slot_counts : Counts → ℕ → ℕ → Counts
slot_counts c made free = record {
  slots = made;
  free = free;
  children = c.children;
  attributes = c.attributes;
  namespaces = c.namespaces;
  texts = c.texts;
  freetexts = c.freetexts;
  textbytes = c.textbytes;
  names = c.names;
  namebytes = c.namebytes;
}

-- other lengths of the arenas
abbrev pub lengths_with : Counts → ℕ → ℕ → ℕ → Counts
lengths_with c k a n = record {
  slots = c.slots;
  free = c.free;
  children = k;
  attributes = a;
  namespaces = n;
  texts = c.texts;
  freetexts = c.freetexts;
  textbytes = c.textbytes;
  names = c.names;
  namebytes = c.namebytes;
}

abbrev pub counts_with : Counts → (Which → ℕ) → Counts
counts_with c used = lengths_with c (used children) (used attributes) (used namespaces)

-- of the texts
abbrev pub pool_counts : Counts → TextCounts → Counts
pool_counts c t = record {
  slots = c.slots;
  free = c.free;
  children = c.children;
  attributes = c.attributes;
  namespaces = c.namespaces;
  texts = t.slots;
  freetexts = t.free;
  textbytes = t.bytes;
  names = c.names;
  namebytes = c.namebytes;
}

-- of the names
abbrev pub table_counts : Counts → NameCounts → Counts
table_counts c t = record {
  slots = c.slots;
  free = c.free;
  children = c.children;
  attributes = c.attributes;
  namespaces = c.namespaces;
  texts = c.texts;
  freetexts = c.freetexts;
  textbytes = c.textbytes;
  names = t.names;
  namebytes = t.bytes;
}

-- ---- the record with them

abbrev pub record_with : Document → Counts → Bool → Document
record_with d counts current = record { limits = d.limits; counts = counts; current = current }

-- the order is not current any more
abbrev pub outdated : Document → Document
outdated d = record_with d d.counts false

abbrev pub with_slots : Document → ℕ → ℕ → Document
with_slots d made free = record_with d (slot_counts d.counts made free) false

unfoldable pub with_used : Document → Which → ℕ → Document
with_used d w used = record_with d (counts_with d.counts (update_which (used_of d.counts) w used)) false

abbrev pub with_lengths : Document → ℕ → ℕ → ℕ → Document
with_lengths d k a n = record_with d (lengths_with d.counts k a n) false

-- the order stays as it is
abbrev pub with_texts : Document → TextCounts → Document
with_texts d t = record_with d (pool_counts d.counts t) d.current

abbrev pub with_names : Document → NameCounts → Document
with_names d t = record_with d (table_counts d.counts t) d.current

-- the order is current
abbrev pub renewed : Document → Document
renewed d = record_with d d.counts true

-- ---- next to nothing

-- so many slots made and nothing else
abbrev pub slots_alone : given.Limits → ℕ → Bool → Document
slots_alone l made current = record {
  limits = l;
  counts = record { slots = made; free = 0; children = 0; attributes = 0; namespaces = 0; texts = 0; freetexts = 0; textbytes = 0; names = 0; namebytes = 0 };
  current = current;
}

-- of a fresh document: the Root's slot is made, and the order is current
abbrev pub fresh_record : given.Limits → Document
fresh_record l = slots_alone l 1 true
