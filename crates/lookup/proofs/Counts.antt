-- What the rules tell of the counts.
-- Assumes nothing.
use mathlib.Core.Path.{◌≡◌}
use mathlib.Core.Bool.{true, ◌&&◌}
use mathlib.Core.List.{List}
use Prim.Native.Nat.{ℕ, ◌≤◌}
use lib.Dec.{leb}
use borrow.Author.Tests.{leb-true}
use Rattle.words.proofs.Tests.{and_left, and_right}
use Rattle.model.specs.Kinds.{children, attributes, namespaces}
use Rattle.model.specs.Doc.{Limits}
use Rattle.layout.specs.declared.Counts.{Counts}
use Rattle.layout.specs.declared.Document.{Document}
use Rattle.layout.specs.Layout.{limits_of}
use Rattle.memory.specs.Decode.{counts_within}
use Rattle.memory.specs.Undamaged.{Undamaged}

pub record Within (l : Limits) (c : Counts) : Type 0 where
  pub texts : c.texts ≤ l.texts
  pub freetexts : c.freetexts ≤ l.texts
  pub textbytes : c.textbytes ≤ l.text_bytes
  pub names : c.names ≤ l.names
  pub namebytes : c.namebytes ≤ l.name_bytes

within : (l : Limits) (c : Counts) → counts_within l c ≡ true → Within l c
unfolding counts_within
within l c h =
    let free = leb c.slots l.nodes && leb c.free l.nodes in
    let arenas = free && leb c.children (l.entries children) && leb c.attributes (l.entries attributes) && leb c.namespaces (l.entries namespaces) in
    let texts = arenas && leb c.texts l.texts in
    let stack = texts && leb c.freetexts l.texts in
    let bytes = stack && leb c.textbytes l.text_bytes in
    let names = bytes && leb c.names l.names in
    let h4 = and_left names (leb c.namebytes l.name_bytes) h in
    let h3 = and_left bytes (leb c.names l.names) h4 in
    let h2 = and_left stack (leb c.textbytes l.text_bytes) h3 in
    let h1 = and_left texts (leb c.freetexts l.texts) h2 in
    record {
      texts = leb-true _ _ (and_right arenas (leb c.texts l.texts) h1);
      freetexts = leb-true _ _ (and_right texts (leb c.freetexts l.texts) h2);
      textbytes = leb-true _ _ (and_right stack (leb c.textbytes l.text_bytes) h3);
      names = leb-true _ _ (and_right bytes (leb c.names l.names) h4);
      namebytes = leb-true _ _ (and_right names (leb c.namebytes l.name_bytes) h);
    }

pub counts-within : (d : Document) (mem : List ℕ) → Undamaged d mem → Within (limits_of d.limits) d.counts
counts-within d mem u = within (limits_of d.limits) d.counts u.rules.fields.counts
