-- The plan of a move, over plain values: the stored text, the second root, and Full once the node was taken off its parent.
-- Assumes nothing.
use Rattle.words.specs.declared.TextSlot.{TextSlot}
use mathlib.Core.Path.{◌≡◌, refl, sym, ap, ◌∙◌}
use mathlib.Core.Bool.{Bool, true, false, not, ◌&&◌, cond}
use mathlib.Core.List.{List}
use Prim.Native.Nat.{ℕ, ◌<◌}
use native.Mathlib.Omega.{arith}
use lib.ListN.{length, get_or, set}
use lib.Seq.{get_or-set_same, get_or-set_other}
use Rattle.words.specs.Lists.{all}
use Rattle.words.proofs.Tests.{and_left}
use Rattle.std.specs.Prelude.{Ok, Err, Option, None, Some}
use Rattle.chars.specs.declared.Fault.{Fault}
use Rattle.chars.specs.declared.Fault.TheVariants.{InvalidText}
use Rattle.chars.specs.Productions.{is_char11}
use Rattle.chars.specs.Utf8 as utf8
use Rattle.chars.specs.Checks.{Check, passed, refused, number_of, checked, tested, on_text, of_text, check_text}
use Rattle.chars.specs.Checks as text
use Rattle.blocks.specs.Arena.{Arena, Block, block, has_room, removed}
use Rattle.blocks.specs.Answer.{has_room_after_removal}
use Rattle.blocks.specs.Rule.{Inside, Apart}
use Rattle.blocks.proofs.Removal.{room-removed, room-other}
use Rattle.records.specs.Handles.{word_of, handle_index}
use Rattle.records.specs.declared.NodeId.{NodeId}
use Rattle.records.specs.declared.NodeData.{NodeData}
use Rattle.records.specs.declared.NodeData.TheVariants as given
use Rattle.records.proofs.Handles.{handle_index-word_of}
use Rattle.names.specs.Table.{Name}
use Rattle.model.specs.Kinds.{Kind, root, element, attribute, text, comment, namespace, instruction, Which, children, which_of, child_kind, text_of, map_kind}
use Rattle.model.specs.Doc.{Doc, resolves, live_slot, kind_at, parent_at, range_in, pair_at, bytes_at, node_at, view_at, map_option}
use Rattle.model.specs.Edits.{update_which, set_parent, unlink_from, unlink, unhook}
use Rattle.model.specs.Rules.{Shape, Rules, block_in}
use Rattle.model.specs.Arguments.{refuse_if, first, is_utf8, text_check, space_only}
use Rattle.model.specs.Checks.{container, a_child, moved_text, check_move}
use Rattle.model.specs.Calls.{room_fits}
use Rattle.laws.proofs.Basics.{live-below}
use Rattle.laws.proofs.Guards.{first-zero}
use Rattle.layout.specs.declared.Document.{Document}
use Rattle.memory.specs.Decode.{slot_of, kind_of, pool_in, names_in, lengths_add, decode}
use Rattle.memory.specs.Undamaged.{Undamaged}
use Rattle.memory.proofs.Shaped.{shape}
use Rattle.lookup.proofs.Viewed.{child_seen}
use Rattle.plans.proofs.Appended.{live-accepted}

-- ---- the text

-- what the check of a stored text tells of a move: "A stored text that isn't UTF-8 is 3 in a move"
abbrev after_check : Check → ℕ → ℕ
after_check (Ok u) n = n
after_check (Err why) n = 3

module _ (u : Bool) (t : List ℕ) where
  moved_by : moved_text u (Some t) ≡ after_check (on_text check_text t) (refuse_if (u && not (space_only t)) 3)
  unfolding is_utf8 text.is_utf8 text_check on_text of_text check_text
  moved_by = go (utf8.decode t) (refuse_if (u && not (space_only t)) 3)
    where
      of-chars : (b : Bool) (n : ℕ) → first (number_of (cond b passed (refused InvalidText))) n ≡ after_check (cond b passed (refused InvalidText)) n
      of-chars true n = refl
      of-chars false n = refl

      go : (o : Option (List ℕ)) (n : ℕ) → cond (tested (λ (l : List ℕ). true) o) (first (number_of (checked check_text o)) n) 3 ≡ after_check (checked check_text o) n
      go None n = refl
      go (Some l) n = of-chars (all is_char11 l) n

  module _ (k : Check) (e : k ≡ on_text check_text t) where
    by : (j : Check) → k ≡ j → moved_text u (Some t) ≡ after_check j (refuse_if (u && not (space_only t)) 3)
    by j q = moved_by ∙ ap (λ (x : Check). after_check x (refuse_if (u && not (space_only t)) 3)) (sym e ∙ q)

    pub moved-passed : k ≡ passed → (v : ℕ) → v ≡ refuse_if (u && not (space_only t)) 3 → v ≡ moved_text u (Some t)
    moved-passed q v s = s ∙ sym (by passed q)

    pub moved_refused : (why : Fault) → k ≡ Err why → 3 ≡ moved_text u (Some t)
    moved_refused why q = sym (by (Err why) q)

-- of a node's text, if it is a text node
mapped-text : (pair : ℕ → Name) (bytes : Option ℕ → List ℕ) (k : Kind ℕ (Option ℕ)) → text_of (map_kind pair bytes k) ≡ map_option bytes (text_of k)
mapped-text pair bytes root = refl
mapped-text pair bytes (element n) = refl
mapped-text pair bytes (attribute n v) = refl
mapped-text pair bytes (text t) = refl
mapped-text pair bytes (comment t) = refl
mapped-text pair bytes (namespace p u) = refl
mapped-text pair bytes (instruction t s) = refl

module _ (D : Doc) (u : Bool) (v : NodeData) where
  abbrev of_data : NodeData → ℕ
  of_data x = moved_text u (text_of (map_kind (pair_at D) (bytes_at D) (kind_of x)))

  pub no_text : (w : NodeData) → v ≡ w → text_of (kind_of w) ≡ None → 0 ≡ moved_text u (text_of (map_kind (pair_at D) (bytes_at D) (kind_of v)))
  no_text w e z = sym (ap of_data e ∙ ap (moved_text u) (mapped-text (pair_at D) (bytes_at D) (kind_of w) ∙ ap (map_option (bytes_at D)) z))

  pub own-text : (c : Option TextSlot) → v ≡ given.Text c → (t : List ℕ) → t ≡ bytes_at D (slot_of c) → (n : ℕ) → n ≡ moved_text u (Some t) → n ≡ moved_text u (text_of (map_kind (pair_at D) (bytes_at D) (kind_of v)))
  own-text c e t q n k = k ∙ ap (λ (x : List ℕ). moved_text u (Some x)) q ∙ sym (ap of_data e)

-- ---- the checks were passed

module _ (D : Doc) (c p : ℕ) where
  pub move_accepted : (cycle taken : Bool) → check_move (view_at D c) (view_at D p) cycle taken ≡ 0 → (resolves D p ≡ true) × (resolves D c ≡ true) × (child_kind (kind_at D c) ≡ 0)
  move_accepted cycle taken z =
      let child = first-zero (a_child (view_at D c)) _ z in
      let live : resolves D c ≡ true = live-accepted D c a_child refl child.0 in
      let w : a_child (view_at D c) ≡ child_kind (kind_at D c) = ap (λ (b : Bool). a_child (cond b (Some (node_at D c)) None)) live ∙ child_seen (pair_at D) (bytes_at D) (kind_at D c) in
      (live-accepted D p container refl (first-zero (container (view_at D p)) _ child.1).0, live, sym w ∙ child.0)

-- ---- Full

module _ (D : Doc) (sh : Shape D) (R : Rules D) (c p : ℕ) where
  abbrev A : Arena
  A = D.arenas children

  -- the room once the unlinking from this parent is done
  abbrev room_from : Option ℕ → Bool
  room_from o = has_room ((unlink_from o D c).arenas children) (get_or ((unlink_from o D c).ranges children) (handle_index p) (block 0 0))

  unhooked : (o : Option ℕ) → parent_at D c ≡ o → room_fits (unhook D c) children p ≡ room_from o
  unfolding set_parent unlink
  unhooked o e = ap room_from e

  pub room-detached : parent_at D c ≡ None → room_fits (unhook D c) children p ≡ room_fits D children p
  room-detached e = unhooked None e

  module _ (lp : resolves D p ≡ true) (lc : resolves D c ≡ true) (kind : child_kind (kind_at D c) ≡ 0) (q : ℕ) (e : parent_at D c ≡ Some q) where
    abbrev B : Block
    B = range_in D children (handle_index q)

    is-child : (k : Kind ℕ (Option ℕ)) → child_kind k ≡ 0 → which_of k ≡ children
    is-child root z = absurd (omega arith)
    is-child (element n) z = refl
    is-child (attribute n v) z = absurd (omega arith)
    is-child (text t) z = refl
    is-child (comment t) z = refl
    is-child (namespace s u) z = absurd (omega arith)
    is-child (instruction t s) z = refl

    live : (h : ℕ) → resolves D h ≡ true → live_slot D (handle_index h) ≡ true
    live h l = and_left (live_slot D (handle_index h)) _ l

    lq : live_slot D (handle_index q) ≡ true
    lq = live q (R.parents.owner (handle_index c) q (live c lc) e).0

    own : (i : ℕ) → live_slot D i ≡ true → block_in D children i ≡ range_in D children i
    own i l = ap (λ (t : Bool). cond t (range_in D children i) (block 0 0)) l

    inside : Inside A B
    inside = rw (own (handle_index q) lq) at ((R.blocks children).inside (handle_index q))

    -- the arena and the ranges of one kind, once c left q's block there
    abbrev room_in : Which → Bool
    room_in w =
        has_room
        (update_which D.arenas w (removed (D.arenas w) (range_in D w (handle_index q)) c).arena children)
        (get_or (update_which D.ranges w (set (D.ranges w) (handle_index q) (removed (D.arenas w) (range_in D w (handle_index q)) c).block) children) (handle_index p) (block 0 0))

    under : room_fits (unhook D c) children p ≡ has_room (removed A B c).arena (get_or (set (D.ranges children) (handle_index q) (removed A B c).block) (handle_index p) (block 0 0))
    under = unhooked (Some q) e ∙ ap room_in (is-child (kind_at D c) kind)

    -- within one parent its own going makes room
    pub room-same : handle_index q ≡ handle_index p → room_fits (unhook D c) children p ≡ has_room_after_removal A (range_in D children (handle_index p)) c
    room-same i =
        let b : handle_index q < length (D.ranges children) = omega (arith, live-below D (handle_index q) lq, sh.ranges children) in
        under
        ∙ ap (λ (j : ℕ). has_room (removed A B c).arena (get_or (set (D.ranges children) (handle_index q) (removed A B c).block) j (block 0 0))) (sym i)
        ∙ ap (has_room (removed A B c).arena) (get_or-set_same (D.ranges children) (handle_index q) (removed A B c).block (block 0 0) b)
        ∙ room-removed A B (R.blocks children).shaped inside c
        ∙ ap (λ (j : ℕ). has_room_after_removal A (range_in D children j) c) i

    -- another parent's block lies apart
    pub room-another : (handle_index q ≡ handle_index p → ⊥) → room_fits (unhook D c) children p ≡ room_fits D children p
    room-another n =
        let apart : Apart A B (range_in D children (handle_index p)) =
        rw (own (handle_index q) lq, own (handle_index p) (live p lp)) at ((R.blocks children).apart (handle_index q) (handle_index p) n) in
        under
        ∙ ap (has_room (removed A B c).arena) (get_or-set_other (D.ranges children) (handle_index q) (handle_index p) (removed A B c).block (block 0 0) (λ i. n (sym i)))
        ∙ room-other A B (R.blocks children).shaped inside c (range_in D children (handle_index p)) apart

-- the same by what the code read
module _ (d : Document) (mem : List ℕ) (u : Undamaged d mem) (child parent : NodeId) (lp : resolves (decode d mem) (word_of parent) ≡ true) (w : ℕ) (ew : w ≡ word_of child) (t : Bool) where
  abbrev Dm : Doc
  Dm = decode d mem

  whole : Shape (decode d mem)
  whole = shape (pool_in d mem) (names_in d mem) (lengths_add d mem) d mem u.memory

  as_is : t ≡ (resolves (decode d mem) (word_of parent) && room_fits (decode d mem) children (word_of parent)) → t ≡ room_fits (decode d mem) children (word_of parent)
  as_is q = q ∙ ap (λ (b : Bool). b && room_fits Dm children (word_of parent)) lp

  pub fits-detached : parent_at (decode d mem) w ≡ None → t ≡ (resolves (decode d mem) (word_of parent) && room_fits (decode d mem) children (word_of parent))
      → t ≡ room_fits (unhook (decode d mem) (word_of child)) children (word_of parent)
  fits-detached e q = as_is q ∙ sym (room-detached Dm whole u.rules (word_of child) (word_of parent) (ap (parent_at Dm) (sym ew) ∙ e))

  module _ (lc : resolves (decode d mem) (word_of child) ≡ true) (kind : child_kind (kind_at (decode d mem) (word_of child)) ≡ 0) (old : NodeId) (e : parent_at (decode d mem) w ≡ Some (word_of old)) (ho : old.index < 4294967296) (hp : parent.index < 4294967296) where
    above : parent_at Dm (word_of child) ≡ Some (word_of old)
    above = ap (parent_at Dm) (sym ew) ∙ e

    pub fits-same : old.index ≡ parent.index
        → t ≡ (resolves (decode d mem) (word_of parent) && has_room_after_removal ((decode d mem).arenas children) (range_in (decode d mem) children (handle_index (word_of parent))) (word_of child))
        → t ≡ room_fits (unhook (decode d mem) (word_of child)) children (word_of parent)
    fits-same i q =
        q
        ∙ ap (λ (b : Bool). b && has_room_after_removal (Dm.arenas children) (range_in Dm children (handle_index (word_of parent))) (word_of child)) lp
        ∙ sym (room-same Dm whole u.rules (word_of child) (word_of parent) lp lc kind (word_of old) above (handle_index-word_of old ho ∙ i ∙ sym (handle_index-word_of parent hp)))

    pub fits-another : (old.index ≡ parent.index → ⊥) → t ≡ (resolves (decode d mem) (word_of parent) && room_fits (decode d mem) children (word_of parent))
        → t ≡ room_fits (unhook (decode d mem) (word_of child)) children (word_of parent)
    fits-another n q =
        as_is q
        ∙ sym (room-another Dm whole u.rules (word_of child) (word_of parent) lp lc kind (word_of old) above
        (λ i. n (sym (handle_index-word_of old ho) ∙ i ∙ handle_index-word_of parent hp)))
