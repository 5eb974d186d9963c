-- The small edits that make no node and free none, as the tree has them: a parent; entering a list and leaving it.
-- Assumes nothing.
use Rattle.std.specs.Prelude.{Option, None, Some}
use mathlib.Core.Path.{◌≡◌, refl, sym, ap, ◌∙◌, subst}
use mathlib.Core.Bool.{Bool, true, false, cond, false≢true}
use mathlib.Core.List.{List, map}
use Prim.Native.Nat.{ℕ, ◌+◌, ◌-◌, ◌≤◌, ◌<◌}
use native.Mathlib.Omega.{arith}
use native.Mathlib.Decide.{ℕ_discrete, dec_lt}
use lib.Dec.{eqb}
use lib.ListN.{length, get_or, set, replicate, length-set, length-replicate, get_or-replicate}
use lib.Seq.{get_or-set_same, get_or-set_other, set_out}
use Rattle.words.specs.Parts.{part}
use Rattle.words.specs.Lists.{insert_at, without, index_of}
use Rattle.words.proofs.Parts.{get_or-part, part-put-same, get_or-put-before, get_or-put-after}
use Rattle.words.proofs.Lists.{map-insert_at, map-without}
use Rattle.blocks.specs.Arena.{Arena, Block, Edit, cap_of, list_of, moved_capacity, unrecorded, has_room, inserted, removed}
use Rattle.blocks.specs.Rule.{Shaped, Inside, Edited}
use Rattle.blocks.proofs.Edits.{inserted-in-place, inserted-moved, removed-there, removed-absent, block-fits}
use Rattle.blocks.proofs.Insertion.{insert-promise}
use Rattle.blocks.proofs.Removal.{remove-promise}
use Rattle.records.specs.Handles.{handle_index}
use Rattle.model.specs.Kinds.{Which, which_of, owns}
use Rattle.model.specs.Doc.{Doc, kind_at, range_in, pair_at, bytes_at, map_option}
use Rattle.model.specs.Edits.{set_block, set_parent, link, unlink_from, unlink, attach, unhook}
use Rattle.model.specs.Calls.{room_fits}
use Rattle.model.specs.Rules.{block_in}
use Rattle.model.specs.Tree.{Tree, update, set_list}
use Rattle.model.specs.Tree as tree
use Rattle.laws.proofs.Wf.{WF}
use Rattle.laws.proofs.Sim.{Sim}
use Rattle.laws.proofs.SimBlock.{block-of-live, sim-set_block}
use Rattle.laws.proofs.Kept.{within-kept, free-kept, pool-kept}
use Rattle.laws.proofs.Shown.{which_of-map, owns-range}
use Rattle.laws.proofs.Basics.{update_same, update_other, count-mem, limit-entries, birth-below, hs-injective}

-- ---- capacity words stay within 32 bits

pub set-fits : (l : List ℕ) (j v : ℕ) → v < 4294967296 → ((i : ℕ) → get_or l i 0 < 4294967296) → (i : ℕ) → get_or (set l j v) i 0 < 4294967296
set-fits l j v hv h i = go (ℕ_discrete i j) (dec_lt j (length l))
  where
    go : Dec (i ≡ j) → Dec (j < length l) → get_or (set l j v) i 0 < 4294967296
    go (yes e) (yes k) = rw (e, get_or-set_same l j v 0 k) hv
    go (yes e) (no k) = rw (set_out l j v (omega arith)) (h i)
    go (no n) k = rw (get_or-set_other l j i v 0 n) (h i)

-- words that are cleared are
cleared-fits : (l : List ℕ) (s n : ℕ) → s ≤ length l → ((i : ℕ) → get_or l i 0 < 4294967296) → (i : ℕ) → get_or (unrecorded l s n) i 0 < 4294967296
cleared-fits l s n b h i = go (dec_lt i s) (dec_lt i (s + n))
  where
    zeros : length (replicate {A = ℕ} n 0) ≡ n
    zeros = length-replicate n 0

    go : Dec (i < s) → Dec (i < s + n) → get_or (unrecorded l s n) i 0 < 4294967296
    go (yes k) m = rw (get_or-put-before l s (replicate n 0) i 0 k b) (h i)
    go (no k) (yes m) =
        let e : i ≡ s + (i - s) = omega arith in
        let q : get_or (unrecorded l s n) i 0 ≡ 0 =
        ap (λ (j : ℕ). get_or (unrecorded l s n) j 0) e ∙ sym (get_or-part (unrecorded l s n) s n (i - s) 0 (omega arith))
        ∙ ap (λ (k : ℕ). get_or (part s k (unrecorded l s n)) (i - s) 0) (sym zeros)
        ∙ ap (λ (r : List ℕ). get_or r (i - s) 0) (part-put-same l s (replicate n 0) b)
        ∙ get_or-replicate n (i - s) 0 0 (omega arith) in
        omega arith
    go (no k) (no m) = rw (get_or-put-after l s (replicate n 0) i 0 (omega (arith, zeros)) b) (h i)

module _ (a : Arena) (b : Block) (sh : Shaped a) (inb : Inside a b) (small : length a.ids ≤ 262144)
    (fits : (i : ℕ) → get_or a.caps i 0 < 4294967296) where
  -- a moved block's capacity is at most twice a length that is within the limit
  inserted-fits : (k id i : ℕ) → get_or (inserted a b k id).arena.caps i 0 < 4294967296
  inserted-fits k id i = go (dec_lt b.len (cap_of a b))
    where
      go : Dec (b.len < cap_of a b) → get_or (inserted a b k id).arena.caps i 0 < 4294967296
      go (yes h) = rw (inserted-in-place a b k id h) (fits i)
      go (no h) =
          rw (inserted-moved a b k id (omega arith))
          (set-fits (unrecorded (set a.caps b.start 0) a.used (moved_capacity b.len)) a.used (moved_capacity b.len) (omega (arith, block-fits a b sh inb))
          (cleared-fits (set a.caps b.start 0) a.used (moved_capacity b.len) (simp length-set (omega (arith, sh.fits, sh.paired)))
          (set-fits a.caps b.start 0 (omega arith) fits)) i)

  -- a removal's record is at most the capacity that lay inside the arena
  removed-fits : (id i : ℕ) → get_or (removed a b id).arena.caps i 0 < 4294967296
  removed-fits id i = go (dec_lt (index_of (eqb id) (list_of a b)) b.len)
    where
      left : (t : Bool) → cond t 0 (cap_of a b) < 4294967296
      left true = omega arith
      left false = omega (arith, inb.below, sh.fits)

      go : Dec (index_of (eqb id) (list_of a b) < b.len) → get_or (removed a b id).arena.caps i 0 < 4294967296
      go (yes h) =
          rw (removed-there a b id h) (set-fits a.caps b.start (cond (eqb b.len 1) 0 (cap_of a b)) (left (eqb b.len 1)) fits i)
      go (no h) = rw (removed-absent a b id (omega arith)) (fits i)

module _ (d : Doc) (t : Tree) (hs : ℕ → ℕ) (S : Sim d t hs) where
  pub which-of-kind : (b : ℕ) → t.live b ≡ true → which_of (kind_at d (hs b)) ≡ which_of (t.kind b)
  which-of-kind b lb = sym (which_of-map (pair_at d) (bytes_at d) (kind_at d (hs b))) ∙ ap which_of (S.kind b lb)

  -- ---- a parent

  pub sim-set_parent : (b : ℕ) (o : Option ℕ) → t.live b ≡ true → Sim (set_parent d (hs b) (map_option hs o)) (tree.set_parent t b o) hs
  unfolding set_parent tree.set_parent
  sim-set_parent b o lb =
      record {
        shape = record {
          kinds = S.shape.kinds;
          parents = length-set d.parents (handle_index (hs b)) (map_option hs o) ∙ S.shape.parents;
          ranges = S.shape.ranges;
          ids = S.shape.ids;
          caps = S.shape.caps;
          order = S.shape.order;
          unused = S.shape.unused;
        };
        limits = S.limits;
        counts = S.counts;
        lengths = S.lengths;
        within = within-kept S _ _ _ _ _;
        generations = S.generations;
        nodes = S.nodes;
        order_fits = S.order_fits;
        caps_fit = S.caps_fit;
        free = free-kept S _ _ _ _ _;
        blocks = S.blocks;
        pool = pool-kept S _ _ _ _ _ _ _ _;
        named = S.named;
        counted = S.counted;
        lives = S.lives;
        gen = S.gen;
        inj = S.inj;
        owner = S.owner;
        kind = S.kind;
        parent = λ c lc. parent c lc (ℕ_discrete c b);
        lists = S.lists;
        current = refl;
        order = λ f c lc. absurd (false≢true f);
        order_free = λ f i lt q. absurd (false≢true f);
        fresh = S.fresh;
        root_live = S.root_live;
        root_is = S.root_is;
      }
    where
      x : ℕ
      x = handle_index (hs b)

      parent : (c : ℕ) → t.live c ≡ true → Dec (c ≡ b) → get_or (set d.parents x (map_option hs o)) (handle_index (hs c)) None ≡ map_option hs (update t.parent b o c)
      parent c lc (yes e) =
          rw (e, update_same t.parent b o)
          (get_or-set_same d.parents x (map_option hs o) None (omega (arith, birth-below d t hs S b lb, S.shape.parents)))
      parent c lc (no n) =
          rw (update_other t.parent b o c n)
          (get_or-set_other d.parents x (handle_index (hs c)) (map_option hs o) None (λ e. n (S.inj c b lc lb e)) ∙ S.parent c lc)

  -- ---- into a list and out of it

  -- an edit of p's block, by its promise and by what it does to capacity words
  edit-list : (w : Which) (p : ℕ) (l : List ℕ) (new : Block → List ℕ) (e : Block → Edit) → t.live p ≡ true → owns w (t.kind p) ≡ true
      → Edited (d.arenas w) (block_in d w) (handle_index (hs p)) (new (block_in d w (handle_index (hs p)))) (e (block_in d w (handle_index (hs p)))).arena (e (block_in d w (handle_index (hs p)))).block
      → new (range_in d w (handle_index (hs p))) ≡ map hs l
      → (Inside (d.arenas w) (range_in d w (handle_index (hs p))) → length (d.arenas w).ids ≤ 262144
      → (i : ℕ) → get_or (e (range_in d w (handle_index (hs p)))).arena.caps i 0 < 4294967296)
      → Sim (set_block d w (handle_index (hs p)) (e (range_in d w (handle_index (hs p))))) (set_list t w p l) hs
  edit-list w p l new e lp own E q fits =
      sim-set_block d t hs S w p l (e r) lp (owns-range w (t.kind p) own)
      (subst (λ (m : List ℕ). Edited a (block_in d w) x m (e r).arena (e r).block) q
      (subst (λ (c : Block). Edited a (block_in d w) x (new c) (e c).arena (e c).block) here E))
      (fits (subst (Inside a) here ((S.blocks w).inside x)) (omega (arith, S.shape.ids w, limit-entries d.limits S.limits w)))
    where
      x : ℕ
      x = handle_index (hs p)

      a : Arena
      a = d.arenas w

      r : Block
      r = range_in d w x

      here : block_in d w x ≡ r
      here = block-of-live d t hs S w p lp

  pub sim-link : (w : Which) (p i b : ℕ) → t.live p ≡ true → owns w (t.kind p) ≡ true → room_fits d w (hs p) ≡ true
      → Sim (link d w (hs p) i (hs b)) (tree.link t w p i b) hs
  unfolding link
  sim-link w p i b lp own room =
      edit-list w p (insert_at i b (t.lists w p)) (λ r. insert_at i (hs b) (list_of (d.arenas w) r)) (λ r. inserted (d.arenas w) r i (hs b)) lp own
      (insert-promise (d.arenas w) (block_in d w) (handle_index (hs p)) (S.blocks w) i (hs b) (ap (has_room (d.arenas w)) (block-of-live d t hs S w p lp) ∙ room))
      (ap (insert_at i (hs b)) (S.lists w p lp) ∙ sym (map-insert_at hs i b (t.lists w p)))
      (λ inb small. inserted-fits (d.arenas w) (range_in d w (handle_index (hs p))) (S.blocks w).shaped inb small (S.caps_fit w) i (hs b))

  pub sim-unlink : WF t → (b : ℕ) → t.live b ≡ true → Sim (unlink d (hs b)) (tree.unlink t b) hs
  unfolding unlink tree.unlink
  sim-unlink W b lb = rw (S.parent b lb) (go (t.parent b) refl)
    where
      w : Which
      w = which_of (t.kind b)

      same : (p : ℕ) → t.live p ≡ true → without (eqb (hs b)) (map hs (t.lists w p)) ≡ map hs (without (eqb b) (t.lists w p))
      same p lp =
          sym (map-without hs b (t.lists w p) (λ c m f. hs-injective d t hs S c b (W.downward w p c lp (count-mem c (t.lists w p) m)).0 lb f))

      go : (o : Option ℕ) → t.parent b ≡ o → Sim (unlink_from (map_option hs o) d (hs b)) (tree.unlink_from o t b) hs
      go None e = S
      go (Some p) e =
          let lp : t.live p ≡ true = (W.upward b p lb e).0 in
          rw (which-of-kind b lb)
          (edit-list w p (without (eqb b) (t.lists w p)) (λ r. without (eqb (hs b)) (list_of (d.arenas w) r)) (λ r. removed (d.arenas w) r (hs b)) lp
          (W.upward b p lb e).1 (remove-promise (d.arenas w) (block_in d w) (handle_index (hs p)) (S.blocks w) (hs b))
          (ap (without (eqb (hs b))) (S.lists w p lp) ∙ same p lp)
          (λ inb small. removed-fits (d.arenas w) (range_in d w (handle_index (hs p))) (S.blocks w).shaped inb small (S.caps_fit w) (hs b)))

-- an unlink makes and frees no node
pub unlink-live : (t : Tree) (b c : ℕ) → (tree.unlink t b).live c ≡ t.live c
unfolding tree.unlink set_list
unlink-live t b c = go (t.parent b)
  where
    go : (o : Option ℕ) → (tree.unlink_from o t b).live c ≡ t.live c
    go None = refl
    go (Some p) = refl

module _ (d : Doc) (t : Tree) (hs : ℕ → ℕ) (S : Sim d t hs) where
  pub sim-attach : (w : Which) (p i b : ℕ) → t.live p ≡ true → owns w (t.kind p) ≡ true → room_fits d w (hs p) ≡ true → t.live b ≡ true
      → Sim (attach d w (hs p) i (hs b)) (tree.attach t w p i b) hs
  unfolding set_parent tree.set_parent
  sim-attach w p i b lp own room lb =
      sim-link (set_parent d (hs b) (Some (hs p))) (tree.set_parent t b (Some p)) hs (sim-set_parent d t hs S b (Some p) lb) w p i b lp own room

  pub sim-unhook : WF t → (b : ℕ) → t.live b ≡ true → Sim (unhook d (hs b)) (tree.unhook t b) hs
  sim-unhook W b lb = sim-set_parent (unlink d (hs b)) (tree.unlink t b) hs (sim-unlink d t hs S W b lb) b None (unlink-live t b b ∙ lb)
