-- A block edited: the owner's list as the tree has it, every other list as it was.
-- Assumes nothing.
use Rattle.std.proofs.lemmas.Option.{same_Some}
use Rattle.std.specs.Prelude.{Option, None, Some}
use mathlib.Core.Path.{◌≡◌, refl, sym, ap, ◌∙◌}
use mathlib.Core.Logic.{◌≢◌, ◌⊎◌, inl, inr}
use mathlib.Core.Bool.{true, false, cond, false≢true, true≢false}
use mathlib.Core.List.{List, map}
use Prim.Native.Nat.{ℕ, ◌<◌}
use native.Mathlib.Omega.{arith}
use native.Mathlib.Decide.{ℕ_discrete}
use lib.ListN.{length, get_or, set, length-set}
use lib.Seq.{get_or-set_same, get_or-set_other}
use Rattle.blocks.specs.Arena.{Block, block, Edit, list_of}
use Rattle.blocks.specs.Rule.{BlocksApart, Edited, at}
use Rattle.blocks.proofs.Apart.{apart-ext, at_same, at_other}
use Rattle.records.specs.Handles.{handle_index}
use Rattle.model.specs.Kinds.{Kind, Which, same_which}
use Rattle.model.specs.Doc.{Doc, live_slot, kind_at, range_in, list_at, pair_at, bytes_at}
use Rattle.model.specs.Edits.{update_which, set_block}
use Rattle.model.specs.Rules.{has_range, block_in}
use Rattle.model.specs.Tree.{Tree, update, set_list}
use Rattle.laws.proofs.Sim.{Sim}
use Rattle.laws.proofs.Kept.{within-kept, free-kept, pool-kept}
use Rattle.laws.proofs.Shown.{has_range-map}
use Rattle.laws.proofs.Basics.{update_same, update_other, same_which-refl, which-cases, live-node, birth-below}

module _ (d : Doc) (t : Tree) (hs : ℕ → ℕ) (S : Sim d t hs) where
  -- a live node's kind has the ranges that the tree's kind has
  pub range-of-kind : (w : Which) (b : ℕ) → t.live b ≡ true → has_range w (kind_at d (hs b)) ≡ has_range w (t.kind b)
  range-of-kind w b lb = sym (has_range-map (pair_at d) (bytes_at d) w (kind_at d (hs b))) ∙ ap (has_range w) (S.kind b lb)

  pub block-of-live : (w : Which) (b : ℕ) → t.live b ≡ true → block_in d w (handle_index (hs b)) ≡ range_in d w (handle_index (hs b))
  block-of-live w b lb = rw (S.lives b lb)

  pub sim-set_block : (w : Which) (p : ℕ) (l : List ℕ) (e : Edit) → t.live p ≡ true → has_range w (t.kind p) ≡ true
      → Edited (d.arenas w) (block_in d w) (handle_index (hs p)) (map hs l) e.arena e.block
      → ((i : ℕ) → get_or e.arena.caps i 0 < 4294967296)
      → Sim (set_block d w (handle_index (hs p)) e) (set_list t w p l) hs
  unfolding set_list
  sim-set_block w p l e lp has E fits =
      record {
        shape = record {
          kinds = S.shape.kinds;
          parents = S.shape.parents;
          ranges = λ v. ranges v (which-cases v w);
          ids = λ v. ids v (which-cases v w);
          caps = λ v. caps v (which-cases v w);
          order = S.shape.order;
          unused = λ v i k q h. unused v i k q h (which-cases v w);
        };
        limits = S.limits;
        counts = S.counts;
        lengths = S.lengths;
        within = within-kept S _ _ _ _ _;
        generations = S.generations;
        nodes = S.nodes;
        order_fits = S.order_fits;
        caps_fit = λ v i. caps_fit v i (which-cases v w);
        free = free-kept S _ _ _ _ _;
        blocks = λ v. blocks v (which-cases v w);
        pool = pool-kept S _ _ _ _ _ _ _ _;
        named = S.named;
        counted = S.counted;
        lives = S.lives;
        gen = S.gen;
        inj = S.inj;
        owner = S.owner;
        kind = S.kind;
        parent = S.parent;
        lists = λ v b lb. lists v b lb (which-cases v w);
        current = refl;
        order = λ f b lb. absurd (false≢true f);
        order_free = λ f i lt o. absurd (false≢true f);
        fresh = S.fresh;
        root_live = S.root_live;
        root_is = S.root_is;
      }
    where
      x : ℕ
      x = handle_index (hs p)

      d' : Doc
      d' = set_block d w x e

      in-range : x < length (d.ranges w)
      in-range = omega (arith, birth-below d t hs S p lp, S.shape.ranges w)

      range-here : get_or (set (d.ranges w) x e.block) x (block 0 0) ≡ e.block
      range-here = get_or-set_same (d.ranges w) x e.block (block 0 0) in-range

      range-other : (i : ℕ) → i ≢ x → get_or (set (d.ranges w) x e.block) i (block 0 0) ≡ range_in d w i
      range-other i n = get_or-set_other (d.ranges w) x i e.block (block 0 0) n

      ranges : (v : Which) → (v ≡ w) ⊎ (same_which v w ≡ false) → length (d'.ranges v) ≡ length d.gens
      ranges v (inl q) = rw (q, same_which-refl w) (length-set (d.ranges w) x e.block ∙ S.shape.ranges w)
      ranges v (inr q) = rw q (S.shape.ranges v)

      ids : (v : Which) → (v ≡ w) ⊎ (same_which v w ≡ false) → length (d'.arenas v).ids ≡ d.limits.entries v
      ids v (inl q) = rw (q, same_which-refl w) (E.limit ∙ S.shape.ids w)
      ids v (inr q) = rw q (S.shape.ids v)

      caps : (v : Which) → (v ≡ w) ⊎ (same_which v w ≡ false) → length (d'.arenas v).caps ≡ d.limits.entries v
      caps v (inl q) = rw (q, same_which-refl w) (E.rule.shaped.paired ∙ E.limit ∙ S.shape.ids w)
      caps v (inr q) = rw q (S.shape.caps v)

      -- the edited node's kind has the range
      unused : (v : Which) (i : ℕ) (k : Kind ℕ (Option ℕ)) → get_or d.kinds i None ≡ Some k → has_range v k ≡ false
          → (v ≡ w) ⊎ (same_which v w ≡ false) → range_in d' v i ≡ block 0 0
      unused v i k q h (inr r) = rw r (S.shape.unused v i k q h)
      unused v i k q h (inl r) = rw (r, same_which-refl w) (go (ℕ_discrete i x))
        where
          go : Dec (i ≡ x) → get_or (set (d.ranges w) x e.block) i (block 0 0) ≡ block 0 0
          go (yes f) =
              let same : kind_at d (hs p) ≡ k =
              same_Some (kind_at d (hs p)) k (sym (live-node d x (S.lives p lp)) ∙ ap (λ (j : ℕ). get_or d.kinds j None) (sym f) ∙ q) in
              absurd (true≢false (sym (range-of-kind w p lp ∙ has) ∙ ap (has_range w) same ∙ ap (λ (u : Which). has_range u k) (sym r) ∙ h))
          go (no n) = range-other i n ∙ S.shape.unused w i k q (ap (λ (u : Which). has_range u k) (sym r) ∙ h)

      caps_fit : (v : Which) (i : ℕ) → (v ≡ w) ⊎ (same_which v w ≡ false) → get_or (d'.arenas v).caps i 0 < 4294967296
      caps_fit v i (inl q) = rw (q, same_which-refl w) (fits i)
      caps_fit v i (inr q) = rw q (S.caps_fit v i)

      blocks : (v : Which) → (v ≡ w) ⊎ (same_which v w ≡ false) → BlocksApart (d'.arenas v) (block_in d' v)
      blocks v (inr q) = apart-ext (d'.arenas v) (block_in d v) (block_in d' v) (λ i. rw q) (rw q (S.blocks v))
      blocks v (inl q) =
          rw q
          (apart-ext (d'.arenas w) (at (block_in d w) x e.block) (block_in d' w) (λ i. same i (ℕ_discrete i x)) (rw (same_which-refl w) E.rule))
        where
          same : (i : ℕ) → Dec (i ≡ x) → at (block_in d w) x e.block i ≡ block_in d' w i
          same i (yes f) = at_same (block_in d w) x e.block i f ∙ rw (f, same_which-refl w, S.lives p lp) (sym range-here)
          same i (no n) =
              at_other (block_in d w) x e.block i n
              ∙ rw (same_which-refl w) (ap (λ (r : Block). cond (live_slot d i) r (block 0 0)) (sym (range-other i n)))

      lists : (v : Which) (b : ℕ) → t.live b ≡ true → (v ≡ w) ⊎ (same_which v w ≡ false)
          → list_at d' v (hs b) ≡ map hs (update_which t.lists w (update (t.lists w) p l) v b)
      lists v b lb (inr q) = rw q (S.lists v b lb)
      lists v b lb (inl q) = rw (q, same_which-refl w) (go (ℕ_discrete b p))
        where
          go : Dec (b ≡ p) → list_of e.arena (get_or (set (d.ranges w) x e.block) (handle_index (hs b)) (block 0 0)) ≡ map hs (update (t.lists w) p l b)
          go (yes f) =
              rw (f, update_same (t.lists w) p l, range-here)
              (ap (list_of e.arena) (sym (at_same (block_in d w) x e.block x refl))
              ∙ E.lists x
              ∙ at_same (λ (k : ℕ). list_of (d.arenas w) (block_in d w k)) x (map hs l) x refl)
          go (no n) =
              let y : ℕ = handle_index (hs b) in
              let m : y ≢ x = λ f. n (S.inj b p lb lp f) in
              rw (update_other (t.lists w) p l b n, range-other y m)
              (ap (list_of e.arena) (sym (block-of-live w b lb) ∙ sym (at_other (block_in d w) x e.block y m))
              ∙ E.lists y
              ∙ at_other (λ (k : ℕ). list_of (d.arenas w) (block_in d w k)) x (map hs l) y m
              ∙ ap (list_of (d.arenas w)) (block-of-live w b lb)
              ∙ S.lists w b lb)
