-- Rule 1, "Counts are within limits", as propositions, both ways.
-- Assumes nothing.
use mathlib.Core.Path.{◌≡◌}
use mathlib.Core.Bool.{true, ◌&&◌}
use Prim.Native.Nat.{ℕ, ◌≤◌}
use lib.Dec.{leb}
use borrow.Author.Tests.{leb-true, le-leb}
use Rattle.words.proofs.Tests.{and_left, and_right}
use Rattle.model.specs.Kinds.{Which, children, attributes, namespaces}
use Rattle.model.specs.Doc.{Limits}
use Rattle.model.specs.Edits.{update_which}
use Rattle.layout.specs.declared.Counts.{Counts}
use Rattle.memory.specs.Decode.{counts_within}
use Rattle.layout.specs.Record.{used_of, counts_with}

pub record CountsFit (l : Limits) (c : Counts) : Type 0 where
  pub slots : c.slots ≤ l.nodes
  pub free : c.free ≤ l.nodes
  pub used : (w : Which) → used_of c w ≤ l.entries w
  pub texts : c.texts ≤ l.texts
  pub free-texts : c.freetexts ≤ l.texts
  pub text-bytes : c.textbytes ≤ l.text_bytes
  pub names : c.names ≤ l.names
  pub name-bytes : c.namebytes ≤ l.name_bytes

pub counts-fit : (l : Limits) (c : Counts) → counts_within l c ≡ true → CountsFit l c
unfolding counts_within
counts-fit l c h =
    let two = leb c.slots l.nodes && leb c.free l.nodes in
    let three = two && leb c.children (l.entries children) in
    let four = three && leb c.attributes (l.entries attributes) in
    let five = four && leb c.namespaces (l.entries namespaces) in
    let six = five && leb c.texts l.texts in
    let seven = six && leb c.freetexts l.texts in
    let eight = seven && leb c.textbytes l.text_bytes in
    let nine = eight && leb c.names l.names in
    let h9 = and_left nine (leb c.namebytes l.name_bytes) h in
    let h8 = and_left eight (leb c.names l.names) h9 in
    let h7 = and_left seven (leb c.textbytes l.text_bytes) h8 in
    let h6 = and_left six (leb c.freetexts l.texts) h7 in
    let h5 = and_left five (leb c.texts l.texts) h6 in
    let h4 = and_left four (leb c.namespaces (l.entries namespaces)) h5 in
    let h3 = and_left three (leb c.attributes (l.entries attributes)) h4 in
    let h2 = and_left two (leb c.children (l.entries children)) h3 in
    record {
      slots = leb-true _ _ (and_left (leb c.slots l.nodes) (leb c.free l.nodes) h2);
      free = leb-true _ _ (and_right (leb c.slots l.nodes) (leb c.free l.nodes) h2);
      used = arenas (leb-true _ _ (and_right two (leb c.children (l.entries children)) h3))
          (leb-true _ _ (and_right three (leb c.attributes (l.entries attributes)) h4))
          (leb-true _ _ (and_right four (leb c.namespaces (l.entries namespaces)) h5));
      texts = leb-true _ _ (and_right five (leb c.texts l.texts) h6);
      free-texts = leb-true _ _ (and_right six (leb c.freetexts l.texts) h7);
      text-bytes = leb-true _ _ (and_right seven (leb c.textbytes l.text_bytes) h8);
      names = leb-true _ _ (and_right eight (leb c.names l.names) h9);
      name-bytes = leb-true _ _ (and_right nine (leb c.namebytes l.name_bytes) h);
    }
  where
    arenas : c.children ≤ l.entries children → c.attributes ≤ l.entries attributes → c.namespaces ≤ l.entries namespaces → (w : Which) → used_of c w ≤ l.entries w
    arenas k a n children = k
    arenas k a n attributes = a
    arenas k a n namespaces = n

pub fit-counts : (l : Limits) (c : Counts) → CountsFit l c → counts_within l c ≡ true
unfolding counts_within
fit-counts l c f =
    rw (
      le-leb _ _ f.slots,
      le-leb _ _ f.free,
      le-leb _ _ (f.used children),
      le-leb _ _ (f.used attributes),
      le-leb _ _ (f.used namespaces),
      le-leb _ _ f.texts,
      le-leb _ _ f.free-texts,
      le-leb _ _ f.text-bytes,
      le-leb _ _ f.names,
      le-leb _ _ f.name-bytes,
    )

-- the rule is kept by another length of an arena within its limit
pub counts-kept : (l : Limits) (c : Counts) (w : Which) (used : ℕ) → counts_within l c ≡ true → used ≤ l.entries w
    → counts_within l (counts_with c (update_which (used_of c) w used)) ≡ true
counts-kept l c w used h b =
    let f = counts-fit l c h in
    fit-counts l (counts_with c (update_which (used_of c) w used))
    (record {
      slots = f.slots;
      free = f.free;
      used = lengths w b f;
      texts = f.texts;
      free-texts = f.free-texts;
      text-bytes = f.text-bytes;
      names = f.names;
      name-bytes = f.name-bytes;
    })
  where
    lengths : (w : Which) → used ≤ l.entries w → CountsFit l c → (v : Which) → used_of (counts_with c (update_which (used_of c) w used)) v ≤ l.entries v
    lengths children b f children = b
    lengths children b f attributes = f.used attributes
    lengths children b f namespaces = f.used namespaces
    lengths attributes b f children = f.used children
    lengths attributes b f attributes = b
    lengths attributes b f namespaces = f.used namespaces
    lengths namespaces b f children = f.used children
    lengths namespaces b f attributes = f.used attributes
    lengths namespaces b f namespaces = b
