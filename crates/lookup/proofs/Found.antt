-- What is found in an element's lists, over plain values.
-- Assumes nothing.
use Rattle.std.specs.Prelude.{Option, None, Some}
use mathlib.Core.Path.{◌≡◌, sym, ap, ◌∙◌}
use mathlib.Core.Bool.{Bool, true, false, ◌&&◌, false≢true}
use mathlib.Core.List.{List}
use Prim.Native.Nat.{ℕ, ◌+◌, ◌≤◌, ◌<◌}
use native.Mathlib.Omega.{arith}
use lib.ListN.{drop, get_or-eq_default}
use borrow.Author.Tests.{eqb-true}
use Rattle.words.specs.Lists.{find, tabulate}
use Rattle.words.specs.Pieces.{same_bytes}
use Rattle.words.proofs.Bytes.{same_bytes-comm}
use Rattle.words.proofs.Lists.{length-tabulate}
use Rattle.words.proofs.Tests.{and_left, and_right}
use Rattle.blocks.specs.Arena.{list_of}
use Rattle.blocks.proofs.Capacities.{capacity-least}
use Rattle.records.specs.Handles.{word_of, handle_index, handle_generation}
use Rattle.records.specs.declared.NodeId.{NodeId}
use Rattle.records.specs.declared.NodeData.{NodeData}
use Rattle.records.specs.declared.Range.{Range}
use Rattle.records.specs.declared.Node.{Node}
use Rattle.records.proofs.Handles.{handle_index-word_of}
use Rattle.names.specs.Table.{Name, name, same_name}
use Rattle.model.specs.Kinds.{Kind, root, Which, attributes, namespaces, which_of}
use Rattle.model.specs.Doc.{Doc, resolves, live_slot, generation_at, handle_at, kind_at, parent_at, range_in, list_at, bytes_at, any_option, or_else, handle_word}
use Rattle.model.specs.Rules.{Rules}
use Rattle.model.specs.Calls.{has_name, find_attribute, has_prefix, find_namespace}
use Rattle.laws.proofs.Membership.{find-some}
use Rattle.laws.proofs.Handles.{handle_word-halves}
use Rattle.layout.specs.declared.Document.{Document}
use Rattle.layout.specs.Layout.{entries_of}
use Rattle.memory.specs.Decode.{kind_of, kind_loaded, block_of, range_of, loaded_at, slots_part, slots_made, arena_part, arena_in, resolved_in, pool_in, names_in, lengths_add, decode}
use Rattle.memory.specs.Undamaged.{Undamaged}
use Rattle.memory.proofs.Columns.{kind-column}
use Rattle.lookup.proofs.Viewed.{resolves-stale}
use Rattle.lookup.proofs.Blocks.{own_range, block_held}

-- ---- the kind in a handle's slot

module _ (d : Document) (mem : List ℕ) (w made : ℕ) (em : made ≡ slots_made d) where
  pub data-read : handle_index w < made → (l : Option Node) (v : NodeData) → l ≡ loaded_at d.limits.nodes (slots_part d mem) (handle_index w) → kind_of v ≡ or_else root (kind_loaded l)
      → kind_of v ≡ kind_at (decode d mem) w
  data-read h l v e q =
      q ∙ ap (λ (x : Option Node). or_else root (kind_loaded x)) e
      ∙ sym (ap (or_else root) (kind-column (pool_in d mem) (names_in d mem) (lengths_add d mem) d mem (handle_index w) (omega (arith, em))))

  pub data-past : made ≤ handle_index w → root ≡ kind_at (decode d mem) w
  data-past h =
      let kinds : ℕ → Option (Kind ℕ (Option ℕ)) = λ t. kind_loaded (loaded_at d.limits.nodes (slots_part d mem) t) in
      sym (ap (or_else root) (get_or-eq_default (tabulate kinds (slots_made d)) None {n = handle_index w} (omega (arith, em, length-tabulate kinds (slots_made d)))))

-- ---- a name, a prefix

bytes_same : (w s b : List ℕ) (t : Bool) → w ≡ s → t ≡ same_bytes w b → same_bytes b s ≡ t
bytes_same w s b t e q = same_bytes-comm b s ∙ ap (λ (x : List ℕ). same_bytes x b) (sym e) ∙ sym q

module _ (ns local : List ℕ) (N : Name) (w : List ℕ) (e : w ≡ N.namespace) (t : Bool) (q : t ≡ same_bytes w ns) where
  pub pair-both : t ≡ true → (x : List ℕ) → x ≡ N.local → (r : Bool) → r ≡ same_bytes x local → r ≡ same_name (name ns local) N
  pair-both h x f r k = sym (ap (λ (b : Bool). b && same_bytes local N.local) (bytes_same w N.namespace ns t e q ∙ h) ∙ bytes_same x N.local local r f k)

  pub pair-not : t ≡ false → t ≡ same_name (name ns local) N
  pair-not h = h ∙ sym (ap (λ (b : Bool). b && same_bytes local N.local) (bytes_same w N.namespace ns t e q ∙ h))

-- a part of the kind, tested
module _ {X : Type 0} (get : Kind ℕ (Option ℕ) → Option X) (p : X → Bool) (k : Kind ℕ (Option ℕ)) (v : NodeData) (e : kind_of v ≡ k) where
  pub lacks : (w : NodeData) → v ≡ w → get (kind_of w) ≡ None → false ≡ any_option p (get k)
  lacks w q z = sym (ap (λ (x : Kind ℕ (Option ℕ)). any_option p (get x)) (sym e ∙ ap kind_of q) ∙ ap (any_option p) z)

  pub has : (w : NodeData) → v ≡ w → (x : X) → get (kind_of w) ≡ Some x → (t : Bool) → t ≡ p x → t ≡ any_option p (get k)
  has w q x z t s = s ∙ sym (ap (λ (y : Kind ℕ (Option ℕ)). any_option p (get y)) (sym e ∙ ap kind_of q) ∙ ap (any_option p) z)

pub prefix_same : (D : Doc) (p : List ℕ) (s : Option ℕ) (w : List ℕ) → w ≡ bytes_at D s → (t : Bool) → t ≡ same_bytes w p → t ≡ same_bytes p (bytes_at D s)
prefix_same D p s w e t q = sym (bytes_same w (bytes_at D s) p t e q)

-- ---- an element's list

module _ (d : Document) (mem : List ℕ) (h : NodeId) (hi : h.index < 4294967296) (hg : h.generation < 4294967296) (w : Which) where
  module _ (m : Node) (e : resolved_in d mem h ≡ Some m) (r : Range) (q : block_of r ≡ range_of w m) where
    pub list_inside : Undamaged d mem → r.start + r.len ≤ entries_of d.limits w
    list_inside u =
        let k = block_held d mem h hi hg w m e r q u in
        let c : r.len ≤ _ = capacity-least (drop (entries_of d.limits w) (arena_part d w mem)) (block_of r) in
        omega (arith, k.inside, k.fits)

    pub list-shown : list_of (arena_in d w mem) (block_of r) ≡ list_at (decode d mem) w (word_of h)
    list-shown =
        sym (ap (λ (i : ℕ). list_of (arena_in d w mem) (range_in (decode d mem) w i)) (handle_index-word_of h hi)
        ∙ ap (list_of (arena_in d w mem)) (own_range d mem h hi hg w m e r q))

  pub list-stale : resolved_in d mem h ≡ None → resolves (decode d mem) (word_of h) ≡ true → {A : Type 0} → A
  list-stale e live = absurd (false≢true (sym (resolves-stale d mem h hi hg e) ∙ live))

-- ---- what was found is a live node of its kind under the element (rule 4)

pub record FoundUnder (D : Doc) (w : Which) (e a : ℕ) : Type 0 where
  pub live : resolves D a ≡ true
  pub parent : parent_at D a ≡ Some e
  pub which : which_of (kind_at D a) ≡ w

module _ (D : Doc) (R : Rules D) (e : ℕ) (live : resolves D e ≡ true) where
  own-handle : handle_at D (handle_index e) ≡ e
  own-handle =
      let g = eqb-true (generation_at D (handle_index e)) (handle_generation e) (and_right (live_slot D (handle_index e)) _ live) in
      ap (handle_word (handle_index e)) g ∙ handle_word-halves e

  found-under : (w : Which) (p : ℕ → Bool) (a : ℕ) → find p (list_at D w e) ≡ Some a → FoundUnder D w e a
  found-under w p a q =
      let o = R.entries.no_other w (handle_index e) a (and_left (live_slot D (handle_index e)) _ live) (find-some p (list_at D w e) a q).0 in
      record { live = o.0; parent = o.1 ∙ ap (λ (x : ℕ). Some x) own-handle; which = o.2 }

  pub found-attribute : (n : Name) (a : ℕ) → find_attribute D e n ≡ Some a → FoundUnder D attributes e a
  found-attribute n a q = found-under attributes (has_name D n) a q

  pub found-namespace : (p : List ℕ) (a : ℕ) → find_namespace D e p ≡ Some a → FoundUnder D namespaces e a
  found-namespace p a q = found-under namespaces (has_prefix D p) a q
