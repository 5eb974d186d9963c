-- A node record with one of its three ranges, or its parent, replaced.
use Rattle.records.specs.declared.NodeId.{NodeId}
use Rattle.std.specs.Prelude.{Option}
use Rattle.records.specs.declared.Span.{Span}
use Rattle.records.specs.declared.NodeRecord.{NodeRecord}
use Rattle.records.specs.Records.{parent_word, parent_generation}

abbrev pub with_children : NodeRecord → Span → NodeRecord
with_children r s = record {
  kind = r.kind;
  name = r.name;
  first = r.first;
  second = r.second;
  parent = r.parent;
  generation = r.generation;
  children = s;
  attributes = r.attributes;
  namespaces = r.namespaces;
}

abbrev pub with_attributes : NodeRecord → Span → NodeRecord
with_attributes r s = record {
  kind = r.kind;
  name = r.name;
  first = r.first;
  second = r.second;
  parent = r.parent;
  generation = r.generation;
  children = r.children;
  attributes = s;
  namespaces = r.namespaces;
}

abbrev pub with_namespaces : NodeRecord → Span → NodeRecord
with_namespaces r s = record {
  kind = r.kind;
  name = r.name;
  first = r.first;
  second = r.second;
  parent = r.parent;
  generation = r.generation;
  children = r.children;
  attributes = r.attributes;
  namespaces = s;
}

-- with another parent, or none
abbrev pub with_parent : NodeRecord → Option NodeId → NodeRecord
with_parent r p = record {
  kind = r.kind;
  name = r.name;
  first = r.first;
  second = r.second;
  parent = parent_word p;
  generation = parent_generation p;
  children = r.children;
  attributes = r.attributes;
  namespaces = r.namespaces;
}
