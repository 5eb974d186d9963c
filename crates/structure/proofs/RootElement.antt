-- Rule 7: the elements that are counted are those of the Root's list of children.
-- Assumes nothing.
use Rattle.std.specs.Prelude.{None}
use mathlib.Core.Path.{◌≡◌, sym, ap, ◌∙◌}
use mathlib.Core.Bool.{Bool, true, false, cond}
use mathlib.Core.List.{List, []}
use Prim.Native.Nat.{ℕ, ◌+◌, ◌%◌, ◌≤◌, ◌<◌}
use native.Mathlib.Omega.{arith}
use lib.ListN.{length, get_or, take}
use lib.Seq.{length-take-le}
use Rattle.std.proofs.lemmas.List.{take_more}
use lib.Dec.{eqb, leb}
use Rattle.words.specs.Lists.{all, count_of}
use Rattle.words.proofs.Lists.{count_of-le, count_of-snoc}
use Rattle.words.proofs.Tests.{and_right, and_both}
use Rattle.blocks.specs.Arena.{list_of}
use Rattle.blocks.proofs.Capacities.{capacity-least}
use Rattle.records.specs.declared.Range.{Range}
use Rattle.model.specs.Kinds.{children}
use Rattle.model.specs.Doc.{Doc, generation_at, live_slot, kind_in, kind_at, parent_in, range_in, list_in, even, is_some}
use Rattle.model.specs.Rules.{block_in}
use Rattle.model.specs.RulesTest.{all_option, all_live, entered_once, entry_holds, counts_and_fields_hold, entries_hold, blocks_hold, one_root_element_holds}
use Rattle.laws.proofs.Quantifiers.{which-at, live_at}
use Rattle.laws.proofs.RulesTestFields.{fields-of-test}
use Rattle.laws.proofs.RulesTestBlocks.{blocks-of-test}
use Rattle.layout.specs.declared.Document.{Document}
use Rattle.layout.specs.Layout.{memory_ok}
use Rattle.memory.specs.Decode.{block_of, arena_in}
use Rattle.memory.proofs.Shaped.{shape}
use Rattle.entries.specs.Nodes.{no_texts, decode_nodes, kind_number}
use Rattle.structure.specs.Tests.{element_test}
use Rattle.structure.proofs.KindNumbers.{element-kind}

-- ---- an entry

pub element-shown : (D : Doc) (handle kind : ℕ) → kind ≡ kind_number (kind_in D (handle % 4294967296)) → eqb kind 1 ≡ element_test D handle
unfolding element_test
element-shown D handle kind e = ap (λ (k : ℕ). eqb k 1) e ∙ element-kind (kind_at D handle)

-- ---- counting

module _ (p : ℕ → Bool) (entries : List ℕ) (k count : ℕ) (h : k < length entries) (q : count ≡ count_of p (take k entries)) where
  one-more : count_of p (take (k + 1) entries) ≡ count + cond (p (get_or entries k 0)) 1 0
  one-more =
      ap (count_of p) (take_more entries k 0 h)
      ∙ count_of-snoc p (take k entries) (get_or entries k 0)
      ∙ ap (λ (c : ℕ). c + cond (p (get_or entries k 0)) 1 0) (sym q)

  module _ (t : Bool) (g : t ≡ p (get_or entries k 0)) (count' : ℕ) where
    pub counted-yes : t ≡ true → count' ≡ count + 1 → count' ≡ count_of p (take (k + 1) entries)
    counted-yes y f = f ∙ sym (one-more ∙ ap (λ (x : Bool). count + cond x 1 0) (sym g ∙ y))

    pub counted-no : t ≡ false → count' ≡ count → count' ≡ count_of p (take (k + 1) entries)
    counted-no y f =
        let z = one-more ∙ ap (λ (x : Bool). count + cond x 1 0) (sym g ∙ y) in
        omega arith

  pub counted-fits : count ≤ k
  counted-fits = omega (arith, count_of-le p (take k entries), length-take-le k entries (omega arith))

-- ---- the Root's list

module _ (d : Document) (mem : List ℕ) (fields : counts_and_fields_hold (decode_nodes d mem) ≡ true) where
  abbrev nodes : Doc
  nodes = decode_nodes d mem

  pub root-live : live_slot (decode_nodes d mem) 0 ≡ true
  root-live =
      let f = fields-of-test nodes fields in
      and_both (even (generation_at nodes 0)) (is_some (get_or nodes.kinds 0 None)) (rw f.root_generation) (rw f.root_kind)

  module _ (r : Range) (e : block_of r ≡ range_in (decode_nodes d mem) children 0) where
    pub root-inside : memory_ok d (length mem) ≡ true → blocks_hold (decode_nodes d mem) ≡ true → r.start + r.len ≤ d.limits.children
    root-inside ok blocks =
        let b = blocks-of-test nodes (shape no_texts [] true d mem ok) blocks children in
        let v : block_in nodes children 0 ≡ block_of r = rw root-live (sym e) in
        let i = rw v at (b.inside 0).below in
        omega (arith, i, capacity-least (arena_in d children mem).caps (block_of r))

    pub root-listed : entries_hold (decode_nodes d mem) ≡ true → all (entry_holds (decode_nodes d mem) children 0) (list_of (arena_in d children mem) (block_of r)) ≡ true
    unfolding entries_hold
    root-listed h =
        let l = which-at (λ w. all_live nodes (λ i. all (entry_holds nodes w i) (list_in nodes w i))) (and_right (all_live nodes (λ i. all_option (entered_once nodes i) (parent_in nodes i))) _ h) children in
        let a = live_at nodes (λ i. all (entry_holds nodes children i) (list_in nodes children i)) l 0 root-live in
        ap (λ x. all (entry_holds nodes children 0) (list_of (arena_in d children mem) x)) e ∙ a

    pub root-elements : (count : ℕ) → count ≡ count_of (element_test (decode_nodes d mem)) (list_of (arena_in d children mem) (block_of r)) → leb count 1 ≡ one_root_element_holds (decode_nodes d mem)
    unfolding one_root_element_holds element_test
    root-elements count c =
        ap (λ (n : ℕ). leb n 1) (c ∙ ap (λ x. count_of (element_test nodes) (list_of (arena_in d children mem) x)) e)
