-- What an accepted move, and an accepted renewal of the order, leave: over what the calls promise.
-- Assumes nothing.
use Rattle.std.specs.Prelude.{Option, None, Some}
use mathlib.Core.Path.{◌≡◌, refl, sym, ap, ◌∙◌, subst}
use mathlib.Core.Logic.{inl, inr}
use mathlib.Core.Bool.{Bool, false, cond, true≢false}
use mathlib.Core.List.{List}
use Prim.Native.Nat.{ℕ}
use native.Mathlib.Omega.{arith}
use Rattle.model.specs.Doc.{Doc}
use Rattle.model.specs.Calls.{Call, is_refusal, step, move_to, document-order, compact, keys}
use Rattle.model.specs.Calls as calls
use Rattle.model.specs.Tree.{Tree, means, moved, set_current}
use Rattle.model.specs.Tree as tree
use Rattle.laws.specs.Claim.{Agrees, KeysAgree}
use Rattle.layout.specs.declared.Document.{Document}
use Rattle.memory.specs.Decode.{decode}
use Rattle.tree.specs.Claim.{Event, Promised, tree_after, out_of}
use Rattle.tree.proofs.Theorem.{Made, Stands, After, made, sound, one-event, accepted-steps}
use Rattle.commuting.specs.Moves.{Move, call_at, call_of}
use Rattle.commuting.specs.EitherOrder.{Renews, Renewal}
use Rattle.commuting.proofs.Moved.{moved_told}
use Rattle.commuting.proofs.Accepting.{Goes, goes}
use Rattle.commuting.proofs.Slots.{SameSlots, moved_same, ordered_same}

-- the call of a move, on the document and on the plain tree
call-moves : (i : Option ℕ) (c p : ℕ) (d : Doc) → step (call_at i c p) d ≡ move_to d p i c
call-moves None c p d = refl
call-moves (Some i) c p d = refl

tree-moves : (i : Option ℕ) (c p : ℕ) (hs : ℕ → ℕ) (t : Tree) → tree.step (call_at i c p) hs t ≡ tree.move_to t (means t hs p) i (means t hs c)
tree-moves None c p hs t = refl
tree-moves (Some i) c p hs t = refl

module _ (hs : ℕ → ℕ) where
  module _ {d : Document} {mem : List ℕ} {t : Tree} (S : Stands hs d mem t) (e : Event) (p : Promised d mem e) (a : is_refusal e.answer ≡ false) where
    -- the call's step on the document, and on the plain tree
    stepped : out_of e ≡ step e.call (decode d mem)
    stepped = go (made d mem e S.fits (sound hs S) p)
      where
        go : Made d mem e → out_of e ≡ step e.call (decode d mem)
        go (Made.nothing r k m) = absurd (true≢false (sym (ap is_refusal r) ∙ a))
        go (Made.stepped o k) = o

    tree-stepped : (c : Call) → e.call ≡ c → tree_after hs e t ≡ (tree.step c hs t).tree
    tree-stepped c q =
        ap (λ (b : Bool). cond b t (tree.step e.call hs t).tree) (accepted-steps e.answer a) ∙ ap (λ (k : Call). (tree.step k hs t).tree) q

    -- a call that makes no birth tells no handle
    stands_on : (tree_after hs e t).births ≡ t.births → After hs e t
    stands_on b = one-event hs d mem t e S p (λ lt. absurd (omega arith))

  -- an accepted move: of these births, to this tree, with every slot as it was
  pub record Went (d : Document) (mem : List ℕ) (t : Tree) (m : Move) (e : Event) : Type 0 where
    pub goes : Goes t hs m.under m.index m.node
    pub tree : tree_after hs e t ≡ moved t goes.parent m.index goes.child
    pub stands : Stands hs e.document e.memory (tree_after hs e t)
    pub slots : SameSlots (decode e.document e.memory) (decode d mem)

  pub went : {d : Document} {mem : List ℕ} {t : Tree} → Stands hs d mem t → (m : Move) (e : Event) → Promised d mem e → e.call ≡ call_of m
      → is_refusal e.answer ≡ false → Went d mem t m e
  went {d} {mem} {t} S m e p q a =
      let D : Doc = decode d mem in
      let o : out_of e ≡ move_to D m.under m.index m.node =
      stepped S e p a ∙ ap (λ (c : Call). step c D) q ∙ call-moves m.index m.node m.under D in
      let g = goes D t hs S.sim S.wf m.index m.under m.node (sym (ap (λ (x : calls.Out). is_refusal x.answer) o) ∙ a) in
      let u : tree_after hs e t ≡ moved t g.parent m.index g.child =
      tree-stepped S e p a (call_of m) q ∙ ap (λ (x : tree.Out). x.tree) (tree-moves m.index m.node m.under hs t) ∙ g.went in
      record {
        goes = g;
        tree = u;
        stands = (stands_on S e p a (ap (λ (x : Tree). x.births) (u ∙ moved_told t g.parent m.index g.child g.listed))).0;
        slots = subst (λ (x : Doc). SameSlots x D) (sym (ap (λ (x : calls.Out). x.doc) o)) (moved_same D m.under m.index m.node);
      }

  -- an accepted renewal: the same tree, its order current
  pub record Renewed (t : Tree) (e r : Event) : Type 0 where
    pub stands : Stands hs r.document r.memory (set_current t)
    pub words : r.call ≡ document-order
        → (l : List ℕ) × (r.answer ≡ keys l) × KeysAgree hs (decode r.document r.memory) (set_current t) l
        × SameSlots (decode r.document r.memory) (decode e.document e.memory)

  pub renewed : {t : Tree} (e : Event) → Stands hs e.document e.memory t → (r : Renewal e) → Renewed t e r.event
  unfolding set_current
  renewed {t} e S r =
      record { stands = subst (Stands hs v.document v.memory) now after.0; words = λ q. words q }
    where
      v : Event
      v = r.event

      D : Doc
      D = decode e.document e.memory

      now : tree_after hs v t ≡ set_current t
      now = go r.renews
        where
          go : Renews v.call → tree_after hs v t ≡ set_current t
          go (inl q) = tree-stepped S v r.promised r.accepted document-order q
          go (inr q) = tree-stepped S v r.promised r.accepted compact q

      after : After hs v t
      after = stands_on S v r.promised r.accepted (ap (λ (x : Tree). x.births) now)

      words : v.call ≡ document-order
          → (l : List ℕ) × (v.answer ≡ keys l) × KeysAgree hs (decode v.document v.memory) (set_current t) l
          × SameSlots (decode v.document v.memory) D
      words q =
          let o : out_of v ≡ step document-order D = stepped S v r.promised r.accepted ∙ ap (λ (c : Call). step c D) q in
          let k = subst (λ (c : Call). Agrees hs c (out_of v) (tree.step c hs t)) q (after.2 (accepted-steps v.answer r.accepted)) in
          (k.0, k.1, k.2, subst (λ (x : Doc). SameSlots x D) (sym (ap (λ (x : calls.Out). x.doc) o)) (ordered_same D))
