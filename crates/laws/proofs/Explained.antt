-- What the claim says of a document and its plain tree follows from the relation.
-- Assumes nothing.
use mathlib.Core.Path.{◌≡◌, refl, sym, ap, ◌∙◌, subst}
use mathlib.Core.Bool.{Bool, true, false, cond, ◌&&◌, false≢true, true≢false}
use mathlib.Core.List.{map}
use Prim.Native.Nat.{ℕ, ◌+◌, ◌≤◌, ◌<◌, max}
use native.Mathlib.Omega.{arith}
use native.Mathlib.Decide.{ℕ_discrete, dec_lt}
use borrow.Author.Tests.{le-leb, eqb-true}
use lib.Dec.{eqb}
use lib.ListN.{get_or}
use Rattle.blocks.specs.Arena.{Arena, Block, block, cap_of, list_of}
use Rattle.records.specs.Handles.{handle_index}
use Rattle.model.specs.Kinds.{Which, children, attributes, namespaces, is_element}
use Rattle.model.specs.Doc.{Doc, kind_at, range_in, has_list, in_arena, shown_block, shown_list, no_key}
use Rattle.model.specs.Calls.{key, refused, key_of, Answered}
use Rattle.model.specs.Calls as calls
use Rattle.model.specs.Tree.{Tree, key_in}
use Rattle.model.specs.Rules.{block_in}
use Rattle.laws.specs.Claim.{freed, Explains}
use Rattle.laws.proofs.Wf.{WF}
use Rattle.laws.proofs.Sim.{Sim}
use Rattle.laws.proofs.Basics.{live-node, resolves-live, birth-of}
use Rattle.laws.proofs.RulesOfSim.{rules-of-sim}

-- a block is no longer than its capacity
len-capacity : (a : Arena) (b : Block) → b.len ≤ cap_of a b
len-capacity a b = go (eqb b.len 0) refl
  where
    go : (q : Bool) → eqb b.len 0 ≡ q → b.len ≤ cond q 0 (max b.len (get_or a.caps b.start 0))
    go true e = let z : b.len ≡ 0 = eqb-true _ _ e in omega arith
    go false e = omega arith

module _ (d : Doc) (t : Tree) (hs : ℕ → ℕ) (S : Sim d t hs) where
  -- the range of a live node lies in its arena
  in-arena : (w : Which) (b : ℕ) → t.live b ≡ true → in_arena d w (handle_index (hs b)) ≡ true
  in-arena w b lb =
      let i = handle_index (hs b) in
      let e : block_in d w i ≡ range_in d w i = rw (S.lives b lb) in
      let h = subst (λ (x : Block). x.start + cap_of (d.arenas w) x ≤ (d.arenas w).used) e ((S.blocks w).inside i).below in
      let k = len-capacity (d.arenas w) (range_in d w i) in
      le-leb ((range_in d w i).start + (range_in d w i).len) (d.arenas w).used (omega arith)

  -- the block shown is the node's range: one that the kind has no use for is (0, 0)
  pub shown-block : (w : Which) (b : ℕ) → t.live b ≡ true → shown_block d w (hs b) ≡ range_in d w (handle_index (hs b))
  shown-block w b lb =
      rw (resolves-live d t hs S b lb, in-arena w b lb) (go w (is_element (kind_at d (hs b))) refl)
    where
      go : (w : Which) (q : Bool) → is_element (kind_at d (hs b)) ≡ q
          → cond (has_list w q && true) (range_in d w (handle_index (hs b))) (block 0 0) ≡ range_in d w (handle_index (hs b))
      go children q e = refl
      go attributes true e = refl
      go attributes false e = sym (S.shape.unused attributes (handle_index (hs b)) (kind_at d (hs b)) (live-node d (handle_index (hs b)) (S.lives b lb)) e)
      go namespaces true e = refl
      go namespaces false e = sym (S.shape.unused namespaces (handle_index (hs b)) (kind_at d (hs b)) (live-node d (handle_index (hs b)) (S.lives b lb)) e)

  pub shown-list : (w : Which) (b : ℕ) → t.live b ≡ true → shown_list d w (hs b) ≡ map hs (t.lists w b)
  shown-list w b lb = ap (list_of (d.arenas w)) (shown-block w b lb) ∙ S.lists w b lb

  pub order-key : (b : ℕ) → t.live b ≡ true → calls.order_key d (hs b) ≡ cond t.current (key (key_in t b)) (refused 15)
  order-key b lb = rw (resolves-live d t hs S b lb) (go d.current t.current S.current refl)
    where
      go : (p q : Bool) → p ≡ q → d.current ≡ p
          → ◌≡◌ {A = Answered} (cond p (key (key_of (get_or d.order (handle_index (hs b)) no_key))) (refused 15)) (cond q (key (key_in t b)) (refused 15))
      go true true e c = ap key (S.order c b lb)
      go false false e c = refl
      go true false e c = absurd (true≢false e)
      go false true e c = absurd (false≢true e)

  handles-differ : freed t < 2147483648 → (a b : ℕ) → a < t.births → b < t.births → hs a ≡ hs b → a ≡ b
  handles-differ small a b la lb e = go (ℕ_discrete a b) (dec_lt a b)
    where
      go : Dec (a ≡ b) → Dec (a < b) → a ≡ b
      go (yes q) o = q
      go (no n) (yes h) = absurd ((S.fresh small).apart a b h lb e)
      go (no n) (no h) = absurd ((S.fresh small).apart b a (omega arith) la (sym e))

  pub explains : WF t → Explains hs d t
  explains W = record {
    rules = rules-of-sim d t hs S W;
    resolving = resolves-live d t hs S;
    resolved = λ h r. let o = birth-of d t hs S h r in (o.0, S.counted o.0 o.1, o.1, o.2);
    different = handles-differ;
    kind = S.kind;
    parent = S.parent;
    lists = shown-list;
    order_key = order-key;
  }
