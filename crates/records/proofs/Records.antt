-- Words and nodes are one to one: the test says rule 1, a node whose numbers fit comes back from its words, and words that are a node come back from it.
-- Assumes nothing.
use Rattle.words.specs.declared.TextSlot.{TextSlot}
use Rattle.records.specs.declared.NodeId.{NodeId}
use Rattle.std.specs.Prelude.{Option, None, Some}
use mathlib.Core.Path.{◌≡◌, refl, sym, ap, ◌∙◌}
use mathlib.Core.Bool.{Bool, true, false, ◌&&◌, not, cond}
use Prim.Native.Nat.{ℕ, zero, suc, ◌+◌, ◌-◌, ◌≤◌}
use native.Mathlib.Omega.{arith}
use native.Mathlib.Nat.{add-sub_cancel}
use native.Mathlib.Decide.{ℕ_discrete}
use lib.Dec.{eqb, leb}
use borrow.Author.Tests.{leb-true, le-leb, eq-eqb, ne_eqb}
use Rattle.words.proofs.Tests.{and_left, and_right, and_both}
use Rattle.records.specs.declared.Range.{Range}
use Rattle.records.specs.declared.NodeData.{NodeData}
use Rattle.records.specs.declared.NodeData.TheVariants.{Root, Element, Attr, Text, Comment, Namespace, ProcessingInstruction}
use Rattle.records.specs.declared.Node.{Node}
use Rattle.records.specs.declared.Span.{Span}
use Rattle.records.specs.declared.NodeRecord.{NodeRecord}
use Rattle.records.specs.Records.{chars_word, parent_word, parent_generation, no_span, kind_word, name_word, first_text, second_text, attributes_span, namespaces_span, record_of, has_name, has_first, has_second, has_children, has_lists, most, is_span, is_data, is_parent, are_ranges, is_node, chars_of, parent_of, data_of, found_node, node_of}
use Rattle.records.specs.Fields.{SpanWithin, Within, CharsFit, ParentFits, DataFits, ChildrenFit, NodeFits}

-- ---- the test and the rule

span-within : (used : Bool) (s : Span) → is_span used s ≡ true → SpanWithin used s
unfolding is_span
span-within used s h =
    let m = most used 4294967295 in
    (leb-true _ _ (and_left (leb s.start m) (leb s.len m) h), leb-true _ _ (and_right (leb s.start m) (leb s.len m) h))

within-span : (used : Bool) (s : Span) → SpanWithin used s → is_span used s ≡ true
unfolding is_span
within-span used s h = and_both _ _ (le-leb _ _ h.0) (le-leb _ _ h.1)

pub within : (r : NodeRecord) → is_node r ≡ true → Within r
unfolding is_node is_data is_parent are_ranges
within r h =
    let d = and_left (is_data r) (is_parent r && are_ranges r) h in
    let rest = and_right (is_data r) (is_parent r && are_ranges r) h in
    let named = and_right (leb r.kind 6) _ d in
    let texts = and_right (leb r.name _) _ named in
    let p = and_left (is_parent r) (are_ranges r) rest in
    let s = and_right (is_parent r) (are_ranges r) rest in
    let lists = and_right (is_span (has_children r.kind) r.children) _ s in
    record {
      kind = leb-true _ _ (and_left (leb r.kind 6) _ d);
      name = leb-true _ _ (and_left (leb r.name _) _ named);
      first = leb-true _ _ (and_left (leb r.first _) _ texts);
      second = leb-true _ _ (and_right (leb r.first _) _ texts);
      parent = leb-true _ _ (and_left (leb r.parent _) _ p);
      generation = leb-true _ _ (and_right (leb r.parent _) _ p);
      children = span-within _ _ (and_left (is_span _ r.children) _ s);
      attributes = span-within _ _ (and_left (is_span _ r.attributes) _ lists);
      namespaces = span-within _ _ (and_right (is_span _ r.attributes) _ lists);
    }

pub is-node : (r : NodeRecord) → Within r → is_node r ≡ true
unfolding is_node is_data is_parent are_ranges
is-node r w =
    and_both (is_data r) (is_parent r && are_ranges r)
    (and_both _ _ (le-leb _ _ w.kind) (and_both _ _ (le-leb _ _ w.name) (and_both _ _ (le-leb _ _ w.first) (le-leb _ _ w.second))))
    (and_both (is_parent r) (are_ranges r)
    (and_both _ _ (le-leb _ _ w.parent) (le-leb _ _ w.generation))
    (and_both _ _ (within-span _ _ w.children) (and_both _ _ (within-span _ _ w.attributes) (within-span _ _ w.namespaces))))

-- ---- single words

chars-back : (c : Option TextSlot) → chars_of (chars_word c) ≡ c
chars-back None = refl
chars-back (Some t) = rw (ne_eqb (t.0 + 1) 0 (omega arith), add-sub_cancel t.0 1)

word-chars : (w : ℕ) → chars_word (chars_of w) ≡ w
word-chars w = go (ℕ_discrete w 0)
  where
    go : Dec (w ≡ 0) → chars_word (chars_of w) ≡ w
    go (yes e) = rw (eq-eqb w 0 e) (sym e)
    go (no ne) =
        let q : w - 1 + 1 ≡ w = omega arith in
        rw (ne_eqb w 0 ne) q

parent-back : (p : Option NodeId) → parent_of (parent_word p) (parent_generation p) ≡ p
parent-back None = refl
parent-back (Some h) = rw (ne_eqb (h.index + 1) 0 (omega arith), add-sub_cancel h.index 1)

-- a parent's two words; where there is no parent, its generation is 0
word-parent : (w g : ℕ) → g ≤ most (not (eqb w 0)) 4294967295 → (parent_word (parent_of w g) ≡ w) × (parent_generation (parent_of w g) ≡ g)
word-parent w g = go (ℕ_discrete w 0)
  where
    go : Dec (w ≡ 0) → g ≤ most (not (eqb w 0)) 4294967295 → (parent_word (parent_of w g) ≡ w) × (parent_generation (parent_of w g) ≡ g)
    go (yes e) = rw (eq-eqb w 0 e) (λ b. (sym e, omega arith))
    go (no ne) = rw (ne_eqb w 0 ne) (λ b. (omega arith, refl))

no-span : (s : Span) → SpanWithin false s → no_span ≡ s
no-span s h =
    let a : 0 ≡ s.start = omega arith in
    let b : 0 ≡ s.len = omega arith in
    λ i. record { start = a i; len = b i }

-- ---- from words to the node and back

-- a property of the seven kinds
by_kind : (P : ℕ → Type 0) → P 0 → P 1 → P 2 → P 3 → P 4 → P 5 → P 6 → (k : ℕ) → k ≤ 6 → P k
by_kind P a b c d e f g zero h = a
by_kind P a b c d e f g (suc zero) h = b
by_kind P a b c d e f g (suc (suc zero)) h = c
by_kind P a b c d e f g (suc (suc (suc zero))) h = d
by_kind P a b c d e f g (suc (suc (suc (suc zero)))) h = e
by_kind P a b c d e f g (suc (suc (suc (suc (suc zero))))) h = f
by_kind P a b c d e f g (suc (suc (suc (suc (suc (suc zero)))))) h = g
by_kind P a b c d e f g (suc (suc (suc (suc (suc (suc (suc k))))))) h = absurd (omega arith)

-- what the words of the data that a record holds are
record DataWords (r : NodeRecord) (d : NodeData) : Type 0 where
  pub kind : kind_word d ≡ r.kind
  pub name : name_word d ≡ r.name
  pub first : chars_word (first_text d) ≡ r.first
  pub second : chars_word (second_text d) ≡ r.second
  pub attributes : attributes_span d ≡ r.attributes
  pub namespaces : namespaces_span d ≡ r.namespaces

module _ (name first second parent generation : ℕ) (c a s : Span) where
  abbrev with-kind : ℕ → NodeRecord
  with-kind k = record { kind = k; name = name; first = first; second = second; parent = parent; generation = generation; children = c; attributes = a; namespaces = s }

  abbrev Shown : ℕ → Type 0
  Shown k = Within (with-kind k) → DataWords (with-kind k) (data_of (with-kind k))

  data-words : (k : ℕ) → k ≤ 6 → Shown k
  unfolding data_of
  data-words = by_kind Shown
      (λ w. record { kind = refl; name = omega (arith, w.name); first = omega (arith, w.first); second = omega (arith, w.second); attributes = no-span a w.attributes; namespaces = no-span s w.namespaces })
      (λ w. record { kind = refl; name = refl; first = omega (arith, w.first); second = omega (arith, w.second); attributes = refl; namespaces = refl })
      (λ w. record { kind = refl; name = refl; first = word-chars first; second = omega (arith, w.second); attributes = no-span a w.attributes; namespaces = no-span s w.namespaces })
      (λ w. record { kind = refl; name = omega (arith, w.name); first = word-chars first; second = omega (arith, w.second); attributes = no-span a w.attributes; namespaces = no-span s w.namespaces })
      (λ w. record { kind = refl; name = omega (arith, w.name); first = word-chars first; second = omega (arith, w.second); attributes = no-span a w.attributes; namespaces = no-span s w.namespaces })
      (λ w. record { kind = refl; name = omega (arith, w.name); first = word-chars first; second = word-chars second; attributes = no-span a w.attributes; namespaces = no-span s w.namespaces })
      (λ w. record { kind = refl; name = omega (arith, w.name); first = word-chars first; second = word-chars second; attributes = no-span a w.attributes; namespaces = no-span s w.namespaces })

words_back : (r : NodeRecord) → Within r → record_of (found_node r) ≡ r
unfolding record_of
words_back r w =
    let d = data-words r.name r.first r.second r.parent r.generation r.children r.attributes r.namespaces r.kind w.kind w in
    let p = word-parent r.parent r.generation w.generation in
    λ i. record {
      kind = d.kind i;
      name = d.name i;
      first = d.first i;
      second = d.second i;
      parent = p.0 i;
      generation = p.1 i;
      children = r.children;
      attributes = d.attributes i;
      namespaces = d.namespaces i;
    }

-- words that are a node are those of the node
pub record-back : (r : NodeRecord) (n : Node) → node_of r ≡ Some n → record_of n ≡ r
unfolding node_of
record-back r n e = go (is_node r) refl e
  where
    go : (t : Bool) → is_node r ≡ t → cond t (Some (found_node r)) None ≡ Some n → record_of n ≡ r
    go true h q =
        let s : found_node r ≡ n = cc in
        ap record_of (sym s) ∙ words_back r (within r h)
    go false h q =
        let z : ◌≡◌ {A = ℕ} 0 1 = cc in
        absurd (omega arith)

pub is-node-found : (r : NodeRecord) → is_node r ≡ true → node_of r ≡ Some (found_node r)
unfolding node_of
is-node-found r h = rw h

pub found-is-node : (r : NodeRecord) (n : Node) → node_of r ≡ Some n → is_node r ≡ true
unfolding node_of
found-is-node r n e = go (is_node r) refl e
  where
    go : (t : Bool) → is_node r ≡ t → cond t (Some (found_node r)) None ≡ Some n → is_node r ≡ true
    go true h q = h
    go false h q =
        let z : ◌≡◌ {A = ℕ} 0 1 = cc in
        absurd (omega arith)

-- ---- from a node to its words and back

data-back : (n : Node) → data_of (record_of n) ≡ n.«data»
unfolding record_of data_of
data-back n = go n.«data»
  where
    go : (d : NodeData) → data_of (record_of (record { «data» = d; parent = n.parent; children = n.children })) ≡ d
    go Root = refl
    go (Element m a s) = refl
    go (Attr m v) = rw (chars-back v)
    go (Text v) = rw (chars-back v)
    go (Comment v) = rw (chars-back v)
    go (Namespace p u) = rw (chars-back p, chars-back u)
    go (ProcessingInstruction t d) = rw (chars-back t, chars-back d)

words-node : (n : Node) → is_node (record_of n) ≡ true → node_of (record_of n) ≡ Some n
unfolding node_of record_of
words-node n h = rw (h, data-back n, parent-back n.parent)

-- ---- what fits

chars-word-fits : (c : Option TextSlot) → CharsFit c → chars_word c ≤ 4294967296
chars-word-fits None h = omega arith
chars-word-fits (Some t) h = omega arith

chars-fit : (c : Option TextSlot) → chars_word c ≤ 4294967296 → CharsFit c
chars-fit None h = tt
chars-fit (Some t) h = omega arith

parent-word-fits : (p : Option NodeId) → ParentFits p → (parent_word p ≤ 4294967296) × (parent_generation p ≤ most (not (eqb (parent_word p) 0)) 4294967295)
parent-word-fits None h = (omega arith, omega arith)
parent-word-fits (Some k) h = (omega arith, rw (ne_eqb (k.index + 1) 0 (omega arith)) (omega arith))

parent-fits : (p : Option NodeId) → parent_word p ≤ 4294967296 → parent_generation p ≤ most (not (eqb (parent_word p) 0)) 4294967295 → ParentFits p
parent-fits None h = λ g. tt
parent-fits (Some k) h = rw (ne_eqb (k.index + 1) 0 (omega arith)) (λ g. (omega arith, omega arith))

module _ (p : Option NodeId) (c : Range) where
  abbrev node : NodeData → Node
  node d = record { «data» = d; parent = p; children = c }

  -- what the words say of the data and the children
  abbrev DataWithin : NodeRecord → Type 0
  DataWithin r =
      (r.kind ≤ 6)
      × (r.name ≤ most (has_name r.kind) 4294967295)
      × (r.first ≤ most (has_first r.kind) 4294967296)
      × (r.second ≤ most (has_second r.kind) 4294967296)
      × SpanWithin (has_children r.kind) r.children
      × SpanWithin (has_lists r.kind) r.attributes
      × SpanWithin (has_lists r.kind) r.namespaces

  within-fitting : (d : NodeData) → DataFits d → ChildrenFit d c → DataWithin (record_of (node d))
  unfolding record_of
  within-fitting Root h k = omega arith
  within-fitting (Element n a s) h k = omega arith
  within-fitting (Attr n v) h k = omega (arith, chars-word-fits v h.1)
  within-fitting (Text v) h k = omega (arith, chars-word-fits v h)
  within-fitting (Comment v) h k = omega (arith, chars-word-fits v h)
  within-fitting (Namespace x u) h k = omega (arith, chars-word-fits x h.0, chars-word-fits u h.1)
  within-fitting (ProcessingInstruction t d) h k = omega (arith, chars-word-fits t h.0, chars-word-fits d h.1)

  fitting-within : (d : NodeData) → Within (record_of (node d)) → DataFits d × ChildrenFit d c
  unfolding record_of
  fitting-within Root w = (tt, omega arith)
  fitting-within (Element n a s) w = (omega arith, omega arith)
  fitting-within (Attr n v) w = ((omega arith, chars-fit v w.first), omega arith)
  fitting-within (Text v) w = (chars-fit v w.first, omega arith)
  fitting-within (Comment v) w = (chars-fit v w.first, omega arith)
  fitting-within (Namespace x u) w = ((chars-fit x w.first, chars-fit u w.second), omega arith)
  fitting-within (ProcessingInstruction t d) w = ((chars-fit t w.first, chars-fit d w.second), omega arith)

-- the words of a node whose numbers fit are a node, and that node
pub fits-is-node : (n : Node) → NodeFits n → is_node (record_of n) ≡ true
unfolding record_of
fits-is-node n f =
    let q = parent-word-fits n.parent f.fits-parent in
    let d = within-fitting n.parent n.children n.«data» f.fits-data f.fits-children in
    is-node (record_of n) (record { kind = d.0; name = d.1; first = d.2; second = d.3; parent = q.0; generation = q.1; children = d.4; attributes = d.5; namespaces = d.6 })

pub node-back : (n : Node) → NodeFits n → node_of (record_of n) ≡ Some n
node-back n f = words-node n (fits-is-node n f)

-- what was loaded fits
pub is-node-fits : (n : Node) → is_node (record_of n) ≡ true → NodeFits n
unfolding record_of
is-node-fits n h =
    let w = within (record_of n) h in
    let d = fitting-within n.parent n.children n.«data» w in
    record { fits-data = d.0; fits-parent = parent-fits n.parent w.parent w.generation; fits-children = d.1 }

pub found-fits : (r : NodeRecord) (n : Node) → node_of r ≡ Some n → NodeFits n
found-fits r n e = is-node-fits n (ap is_node (record-back r n e) ∙ found-is-node r n e)
