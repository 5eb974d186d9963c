-- Two moves in either order.
-- Assumes nothing.
use Rattle.std.proofs.lemmas.Option.{same_Some}
use Rattle.std.specs.Prelude.{Option, Some}
use mathlib.Core.Path.{◌≡◌, sym, ap, ap₂, ◌∙◌, subst}
use mathlib.Core.Logic.{◌≢◌, inl, inr}
use mathlib.Core.Bool.{true}
use mathlib.Core.List.{List}
use Prim.Native.Nat.{ℕ}
use lib.ListN.{length}
use Rattle.model.specs.Doc.{Doc, parent_at, map_option}
use Rattle.model.specs.Calls.{Answered, document-order, order-key, order_key, keys}
use Rattle.model.specs.Tree.{Tree, means, moved, set_current}
use Rattle.laws.proofs.Explained.{explains}
use Rattle.layout.specs.declared.Document.{Document}
use Rattle.layout.specs.Layout.{memory_ok}
use Rattle.memory.specs.Decode.{decode}
use Rattle.reading.specs.Contract.{reads}
use Rattle.tree.specs.Claim.{tree_after}
use Rattle.tree.proofs.Theorem.{Stands, stands_after}
use Rattle.commuting.specs.Moves.{Move, independent}
use Rattle.commuting.specs.EitherOrder.{InOrder, Renewal, document_end, plain_end, EndAlike, EitherOrder}
use Rattle.commuting.proofs.Moved.{moved_told}
use Rattle.commuting.proofs.Commute.{Touched, moves-commute}
use Rattle.commuting.proofs.Independent.{nodes-differ, parents-differ}
use Rattle.commuting.proofs.Accepting.{Goes, meant}
use Rattle.commuting.proofs.Slots.{SameSlots, same-trans, same-sym, same-resolves}
use Rattle.commuting.proofs.Keys.{same_key, same-words}
use Rattle.commuting.proofs.Events.{Went, went, Renewed, renewed}

same-birth : (o p : Option ℕ) (x y : ℕ) → o ≡ Some x → p ≡ Some y → o ≡ p → x ≡ y
same-birth o p x y e f g = same_Some x y (sym e ∙ g ∙ f)

-- what `order_key` answers, past test 4
key-read : (h : ℕ) (d : Document) (mem : List ℕ) → memory_ok d (length mem) ≡ true → reads (order-key h) d mem ≡ order_key (decode d mem) h
unfolding reads
key-read h d mem fits = rw fits

module _ (hs : ℕ → ℕ) {d : Document} {mem : List ℕ} {t : Tree} (S : Stands hs d mem t) where
  -- ---- one order: m, then n

  module _ (m n : Move) (x : InOrder d mem m n) where
    first-move : Went hs d mem t m x.earlier
    first-move = went hs S m x.earlier x.called.0 x.moves.0 x.accepted.0

    second-move : Went hs x.earlier.document x.earlier.memory (tree_after hs x.earlier t) n x.later
    second-move = went hs first-move.stands n x.later x.called.1.0 x.moves.1 x.accepted.1

    -- a move leaves what handles mean
    means-kept : (h : ℕ) → means (tree_after hs x.earlier t) hs h ≡ means t hs h
    means-kept h =
        let g = first-move.goes in
        ap (λ (u : Tree). means u hs h) (first-move.tree ∙ moved_told t g.parent m.index g.child g.listed)

    -- the second move is of the births that it would move as the first
    order-ends : (g : Goes t hs n.under n.index n.node)
        → plain_end hs t x ≡ moved (moved t first-move.goes.parent m.index first-move.goes.child) g.parent n.index g.child
    order-ends g =
        let k = second-move.goes in
        second-move.tree
        ∙ ap₂ (λ (p c : ℕ). moved (tree_after hs x.earlier t) p n.index c)
        (same-birth _ _ _ _ k.is_parent g.is_parent (means-kept n.under))
        (same-birth _ _ _ _ k.is_child g.is_child (means-kept n.node))
        ∙ ap (λ (u : Tree). moved u g.parent n.index g.child) first-move.tree

    order-slots : SameSlots (document_end x) (decode d mem)
    order-slots = same-trans second-move.slots first-move.slots

    -- the parents of the births are the parents of the handles
    parents-meant : (u : ℕ) → Touched (t.parent first-move.goes.child) first-move.goes.parent u
        → Touched (parent_at (decode d mem) m.node) m.under (hs u)
    parents-meant u (inl e) =
        let z = meant (decode d mem) t hs S.sim S.wf m.node first-move.goes.child first-move.goes.is_child in
        inl (ap (parent_at (decode d mem)) (sym z.1) ∙ S.sim.parent first-move.goes.child z.0 ∙ ap (map_option hs) e)
    parents-meant u (inr e) =
        inr (sym (meant (decode d mem) t hs S.sim S.wf m.under first-move.goes.parent first-move.goes.is_parent).1 ∙ ap hs e)

    node-meant : hs first-move.goes.child ≡ m.node
    node-meant = (meant (decode d mem) t hs S.sim S.wf m.node first-move.goes.child first-move.goes.is_child).1

  -- ---- both orders

  module _ (m n : Move) (I : independent (decode d mem) m n ≡ true) (x : InOrder d mem m n) (y : InOrder d mem n m) where
    abbrev G : Goes t hs m.under m.index m.node
    G = (first-move m n x).goes

    abbrev H : Goes t hs n.under n.index n.node
    H = (first-move n m y).goes

    differ : G.child ≢ H.child
    differ e = nodes-differ (decode d mem) m n I (sym (node-meant m n x) ∙ ap hs e ∙ node-meant n m y)

    apart : (u : ℕ) → Touched (t.parent G.child) G.parent u → Touched (t.parent H.child) H.parent u → ⊥
    apart u e f = parents-differ (decode d mem) m n I (hs u) (parents-meant m n x u e) (parents-meant n m y u f)

    trees : plain_end hs t x ≡ plain_end hs t y
    trees =
        order-ends m n x H
        ∙ moves-commute t G.parent H.parent m.index n.index G.child H.child differ apart G.listed H.listed
        ∙ sym (order-ends n m y G)

    slots : SameSlots (document_end x) (document_end y)
    slots = same-trans (order-slots m n x) (same-sym (order-slots n m y))

    one_end : Stands hs x.later.document x.later.memory (plain_end hs t x)
    one_end = (second-move m n x).stands

    other-end : Stands hs y.later.document y.later.memory (plain_end hs t x)
    other-end = subst (Stands hs y.later.document y.later.memory) (sym trees) (second-move n m y).stands

    -- once renewed
    module _ (r : Renewal x.later) (s : Renewal y.later) where
      one : Renewed hs (plain_end hs t x) x.later r.event
      one = renewed hs x.later one_end r

      other : Renewed hs (plain_end hs t x) y.later s.event
      other = renewed hs y.later other-end s

      abbrev one-doc : Doc
      one-doc = decode r.event.document r.event.memory

      abbrev other-doc : Doc
      other-doc = decode s.event.document s.event.memory

      same_read : (h : ℕ) → reads (order-key h) r.event.document r.event.memory ≡ reads (order-key h) s.event.document s.event.memory
      same_read h =
          key-read h r.event.document r.event.memory one.stands.fits
          ∙ same_key (set_current (plain_end hs t x)) hs one.stands.wf one-doc other-doc one.stands.sim other.stands.sim h
          ∙ sym (key-read h s.event.document s.event.memory other.stands.fits)

      same_answer : r.event.call ≡ document-order → s.event.call ≡ document-order → r.event.answer ≡ s.event.answer
      same_answer q w =
          let a = one.words q in
          let b = other.words w in
          a.1
          ∙ ap {B = Answered} keys
          (same-words (set_current (plain_end hs t x)) hs one.stands.wf one-doc other-doc one.stands.sim other.stands.sim
          (same-trans a.3 (same-trans slots (same-sym b.3))) a.0 b.0 a.2 b.2)
          ∙ sym b.1

    pub end-alike : EndAlike hs t x y
    end-alike =
        record {
          trees = trees;
          explained = (
            explains (document_end x) (plain_end hs t x) hs one_end.sim one_end.wf,
            explains (document_end y) (plain_end hs t x) hs other-end.sim other-end.wf,
          );
          handles = same-resolves slots;
          keys = same_read;
          words = same_answer;
        }

pub either_order : EitherOrder
either_order l mem mem' d S es c hs root o m n I x y = end-alike hs (stands_after l mem mem' d S es c hs root o) m n I x y
