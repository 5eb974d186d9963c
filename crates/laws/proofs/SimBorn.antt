-- A birth: the relation with one birth more.
-- Assumes nothing.
use Rattle.std.specs.Prelude.{Option, None, Some}
use mathlib.Core.Path.{◌≡◌, refl, sym, ap, ap₂, ◌∙◌, subst}
use mathlib.Core.Logic.{◌≢◌}
use mathlib.Core.Bool.{Bool, true, false, cond, ◌&&◌, false≢true, true≢false}
use mathlib.Core.List.Memᴰ
use mathlib.Core.List.{List, [], ◌∷◌, ◌++◌, map, Memᴰ}
use Prim.Native.Nat.{ℕ, suc, ◌<◌}
use native.Mathlib.Omega.{arith}
use native.Mathlib.Decide.{ℕ_discrete}
use borrow.Author.Tests.{ltb-true}
use lib.ListN.{length, get_or, set, length-set}
use Rattle.words.proofs.Parts.{part_none}
use Rattle.words.proofs.Tests.{and_both}
use Rattle.blocks.specs.Arena.{Block, block}
use Rattle.blocks.specs.Rule.{BlocksApart}
use Rattle.blocks.proofs.Apart.{apart-ext}
use Rattle.records.specs.Handles.{handle_index, handle_generation}
use Rattle.texts.specs.Pool.{Pool}
use Rattle.names.specs.Table.{Name}
use Rattle.model.specs.Kinds.{Kind, root, Which, names_of, texts_of}
use Rattle.model.specs.Doc.{Doc, no_key, handle_word, generation_at, live_slot, even, is_some, or_else, kind_at, node_at, parent_at, range_in, list_at, map_option}
use Rattle.model.specs.Edits.{up, next_from, next_handle, born_from, born}
use Rattle.model.specs.Calls.{slot_fits_from, slot_fits}
use Rattle.model.specs.Rules.{has_range, block_in, slots_held}
use Rattle.model.specs.Tree.{Tree, update}
use Rattle.model.specs.Tree as tree
use Rattle.laws.proofs.Sim.{FreeSlots, Sim, fields}
use Rattle.laws.proofs.Handles.{index-handle_word, generation-handle_word}
use Rattle.laws.proofs.Basics.{update_same, update_other, limit-nodes, live-even, odd-not-live}
use Rattle.laws.proofs.Fresh.{fresh-born}
use Rattle.laws.proofs.SimEdits.{set-fits}
use Rattle.laws.proofs.Shown.{shown_by}
use Rattle.laws.proofs.OneNode.{other-shown, pooled-changed}
use Rattle.laws.proofs.Stores.{Stores}
use Rattle.laws.proofs.Allocated.{Kinds, Allocated, with-columns, appended, appended-free, reused, reused-free, inside}

-- the new node is birth n, in the slot of its handle, with no list yet
module _ (d : Doc) (t : Tree) (hs : ℕ → ℕ) (S : Sim d t hs) (k : Kind ℕ (Option ℕ)) (p : Pool) (names : List (Option Name)) (kind : Kind Name (List ℕ))
    (K : Stores d k p names kind) (gens free : List ℕ) (kinds : Kinds) (parents : List (Option ℕ)) (ranges : Which → List Block)
    (order : List ℕ) (sized : length order ≡ length d.order) (small : (i : ℕ) → get_or order i 0 < 4294967296)
    (A : Allocated d (handle_index (hs t.births)) (handle_generation (hs t.births)) k gens kinds parents ranges)
    (F : FreeSlots (with-columns d gens free kinds parents ranges order p names)) where
  abbrev n : ℕ
  n = t.births

  abbrev x : ℕ
  x = handle_index (hs n)

  abbrev d' : Doc
  d' = with-columns d gens free kinds parents ranges order p names

  abbrev live' : ℕ → Bool
  live' = update t.live n true

  was-live : (b : ℕ) → b ≢ n → live' b ≡ true → t.live b ≡ true
  was-live b m lb = sym (update_other t.live n true b m) ∙ lb

  still-live : (b : ℕ) → t.live b ≡ true → live' b ≡ true
  still-live b lb =
      let h = S.counted b lb in
      update_other t.live n true b (λ e. omega arith) ∙ lb

  not_live : live_slot d x ≡ false
  not_live = odd-not-live d x A.was

  -- the slot of an older live birth is another one
  apart : (b : ℕ) → t.live b ≡ true → handle_index (hs b) ≢ x
  apart b lb q = true≢false (sym (S.lives b lb) ∙ ap (live_slot d) q ∙ not_live)

  live_same : (i : ℕ) → i ≢ x → live_slot d' i ≡ live_slot d i
  live_same i m = ap₂ (λ (g : ℕ) (o : Option (Kind ℕ (Option ℕ))). even g && is_some o) (A.gen_other i m) (A.kind_other i m)

  live_here : live_slot d' x ≡ true
  live_here =
      and_both (even (generation_at d' x)) (is_some (get_or kinds x None)) (ap even A.gen_here ∙ A.gen_even) (ap is_some A.kind_here)

  kind-same : (b : ℕ) → t.live b ≡ true → kind_at d' (hs b) ≡ kind_at d (hs b)
  kind-same b lb = ap (or_else root) (A.kind_other (handle_index (hs b)) (apart b lb))

  kind-here : kind_at d' (hs n) ≡ k
  kind-here = ap (or_else root) A.kind_here

  none-mine : (s : ℕ) → Memᴰ s [] → (t.live n ≡ true) × Memᴰ s (fields d (hs n))
  none-mine s m = absurd (Memᴰ.not-nil m)

  new-born : t.live n ≡ true → (s : ℕ) → Memᴰ s (fields d (hs n)) → Memᴰ s []
  new-born ln s m =
      let h = S.counted n ln in
      absurd (omega arith)

  pub sim-made : Sim d' (tree.born t kind) hs
  unfolding tree.born
  sim-made =
      record {
        shape = record {
          kinds = A.kinds_length;
          parents = A.parents_length;
          ranges = A.ranges_length;
          ids = S.shape.ids;
          caps = S.shape.caps;
          order = sized ∙ S.shape.order;
          unused = λ w i c q h. unused w i c q h (ℕ_discrete i x);
        };
        limits = S.limits;
        counts = S.counts;
        lengths = S.lengths;
        within = record {
          slots = A.within;
          texts = K.pool_fits.texts;
          text_bytes = K.pool_fits.bytes;
          names = K.names.names;
          name_bytes = K.names.bytes;
        };
        generations = A.gen_fits;
        nodes = λ i e. nodes i e (ℕ_discrete i x);
        order_fits = small;
        caps_fit = S.caps_fit;
        free = F;
        blocks = blocks;
        pool =
            pooled-changed d t hs d' n [] (slots_held (texts_of k)) None K.pool none-mine new-born S.pool (tree.born t kind)
            (update_same t.live n true) (ap (λ (c : Kind ℕ (Option ℕ)). slots_held (texts_of c)) kind-here)
            (λ a la m. (was-live a m la, ap (λ (c : Kind ℕ (Option ℕ)). slots_held (texts_of c)) (kind-same a (was-live a m la)))) still-live;
        named = λ b i lb m. named b i lb m (ℕ_discrete b n);
        counted = λ b lb. counted b lb (ℕ_discrete b n);
        lives = λ b lb. lives b lb (ℕ_discrete b n);
        gen = λ b lb. gen b lb (ℕ_discrete b n);
        inj = λ a b la lb q. inj a b la lb q (ℕ_discrete a n) (ℕ_discrete b n);
        owner = λ i li. owner i li (ℕ_discrete i x);
        kind = λ b lb. shown b lb (ℕ_discrete b n);
        parent = λ b lb. parent b lb (ℕ_discrete b n);
        lists = λ w b lb. lists w b lb (ℕ_discrete b n);
        current = refl;
        order = λ f b lb. absurd (false≢true f);
        order_free = λ f i lt o. absurd (false≢true f);
        fresh =
            fresh-born d.gens gens n t.live hs (λ b lb. live-even d (handle_index (hs b)) (S.lives b lb)) A.was A.gen_here A.gen_other
            A.slot_in A.back A.grow A.how S.fresh;
        root_live = still-live 0 S.root_live;
        root_is = S.root_is;
      }
    where
      unused : (w : Which) (i : ℕ) (c : Kind ℕ (Option ℕ)) → get_or kinds i None ≡ Some c → has_range w c ≡ false → Dec (i ≡ x) → range_in d' w i ≡ block 0 0
      unused w i c q h (yes e) = rw e (A.range_here w)
      unused w i c q h (no m) = A.range_other w i m ∙ S.shape.unused w i c (sym (A.kind_other i m) ∙ q) h

      nodes : (i : ℕ) → even (get_or gens i 1) ≡ true → Dec (i ≡ x) → is_some (get_or kinds i None) ≡ true
      nodes i e (yes q) = rw (q, A.kind_here)
      nodes i e (no m) = ap is_some (A.kind_other i m) ∙ S.nodes i (sym (ap even (A.gen_other i m)) ∙ e)

      blocks : (w : Which) → BlocksApart (d.arenas w) (block_in d' w)
      blocks w = apart-ext (d.arenas w) (block_in d w) (block_in d' w) (λ i. same i (ℕ_discrete i x)) (S.blocks w)
        where
          same : (i : ℕ) → Dec (i ≡ x) → block_in d w i ≡ block_in d' w i
          same i (yes e) =
              ap (block_in d w) e ∙ ap (λ (l : Bool). cond l (range_in d w x) (block 0 0)) not_live
              ∙ sym (ap (block_in d' w) e ∙ ap (λ (l : Bool). cond l (range_in d' w x) (block 0 0)) live_here ∙ A.range_here w)
          same i (no m) =
              sym (ap₂ (λ (l : Bool) (r : Block). cond l r (block 0 0)) (live_same i m) (A.range_other w i m))

      named : (b i : ℕ) → live' b ≡ true → Memᴰ i (names_of (kind_at d' (hs b))) → Dec (b ≡ n) → i < length names
      named b i lb m (yes q) =
          K.named i (subst (λ (c : Kind ℕ (Option ℕ)). Memᴰ i (names_of c)) (ap (λ (a : ℕ). kind_at d' (hs a)) q ∙ kind-here) m)
      named b i lb m (no r) =
          let l = was-live b r lb in
          omega (arith, S.named b i l (subst (λ (c : Kind ℕ (Option ℕ)). Memᴰ i (names_of c)) (kind-same b l) m), K.names.grows)

      counted : (b : ℕ) → live' b ≡ true → Dec (b ≡ n) → b < suc n
      counted b lb (yes q) = omega arith
      counted b lb (no m) =
          let h = S.counted b (was-live b m lb) in
          omega arith

      lives : (b : ℕ) → live' b ≡ true → Dec (b ≡ n) → live_slot d' (handle_index (hs b)) ≡ true
      lives b lb (yes q) = rw q live_here
      lives b lb (no m) =
          let l = was-live b m lb in
          live_same (handle_index (hs b)) (apart b l) ∙ S.lives b l

      gen : (b : ℕ) → live' b ≡ true → Dec (b ≡ n) → generation_at d' (handle_index (hs b)) ≡ handle_generation (hs b)
      gen b lb (yes q) = rw q A.gen_here
      gen b lb (no m) =
          let l = was-live b m lb in
          A.gen_other (handle_index (hs b)) (apart b l) ∙ S.gen b l

      inj : (a b : ℕ) → live' a ≡ true → live' b ≡ true → handle_index (hs a) ≡ handle_index (hs b) → Dec (a ≡ n) → Dec (b ≡ n) → a ≡ b
      inj a b la lb q (yes f) (yes g) = f ∙ sym g
      inj a b la lb q (yes f) (no m) = absurd (apart b (was-live b m lb) (sym q ∙ ap (λ (c : ℕ). handle_index (hs c)) f))
      inj a b la lb q (no m) (yes g) = absurd (apart a (was-live a m la) (q ∙ ap (λ (c : ℕ). handle_index (hs c)) g))
      inj a b la lb q (no m) (no r) = S.inj a b (was-live a m la) (was-live b r lb) q

      owner : (i : ℕ) → live_slot d' i ≡ true → Dec (i ≡ x) → (b : ℕ) × (live' b ≡ true) × (handle_index (hs b) ≡ i)
      owner i li (yes q) = (n, update_same t.live n true, sym q)
      owner i li (no m) =
          let o = S.owner i (sym (live_same i m) ∙ li) in
          (o.0, still-live o.0 o.1, o.2)

      shown : (b : ℕ) → live' b ≡ true → Dec (b ≡ n) → node_at d' (hs b) ≡ update t.kind n kind b
      shown b lb (yes q) =
          rw (q, update_same t.kind n kind) (ap (shown_by names p) kind-here ∙ K.shown)
      shown b lb (no m) =
          let l = was-live b m lb in
          rw (update_other t.kind n kind b m)
          (ap (shown_by names p) (kind-same b l)
          ∙ other-shown d t hs d' n [] (slots_held (texts_of k)) None K.pool none-mine new-born S K.names.kept b l m)

      parent : (b : ℕ) → live' b ≡ true → Dec (b ≡ n) → parent_at d' (hs b) ≡ map_option hs (update t.parent n None b)
      parent b lb (yes q) = rw (q, update_same t.parent n None) A.parent_here
      parent b lb (no m) =
          let l = was-live b m lb in
          rw (update_other t.parent n None b m) (A.parent_other (handle_index (hs b)) (apart b l) ∙ S.parent b l)

      lists : (w : Which) (b : ℕ) → live' b ≡ true → Dec (b ≡ n) → list_at d' w (hs b) ≡ map hs (update (t.lists w) n [] b)
      lists w b lb (yes q) = rw (q, update_same (t.lists w) n [], A.range_here w) (part_none (d.arenas w).ids 0)
      lists w b lb (no m) =
          let l = was-live b m lb in
          rw (update_other (t.lists w) n [] b m, A.range_other w (handle_index (hs b)) (apart b l)) (S.lists w b l)

-- the slot and the generation are those of the handle
at-handle : {d : Doc} {k : Kind ℕ (Option ℕ)} {gens : List ℕ} {kinds : Kinds} {parents : List (Option ℕ)} {ranges : Which → List Block} (x g h : ℕ)
    → h ≡ handle_word x g → x < 4294967296 → Allocated d x g k gens kinds parents ranges
    → Allocated d (handle_index h) (handle_generation h) k gens kinds parents ranges
at-handle {d} {k} {gens} {kinds} {parents} {ranges} x g h e lt A =
    subst (λ (f : ℕ). Allocated d (handle_index h) f k gens kinds parents ranges) (sym (ap handle_generation e ∙ generation-handle_word x g lt))
    (subst (λ (y : ℕ). Allocated d y g k gens kinds parents ranges) (sym (ap handle_index e ∙ index-handle_word x g lt)) A)

-- the handle told for the new birth is the next one
pub sim-born : (d : Doc) (t : Tree) (hs : ℕ → ℕ) → Sim d t hs → (k : Kind ℕ (Option ℕ)) (p : Pool) (names : List (Option Name)) (kind : Kind Name (List ℕ))
    → Stores d k p names kind → slot_fits d ≡ true → hs t.births ≡ next_handle d → Sim (born d k p names) (tree.born t kind) hs
unfolding born
sim-born d t hs S k p names kind K room told = go d.free refl room told
  where
    go : (f : List ℕ) → d.free ≡ f → slot_fits_from f d ≡ true → hs t.births ≡ next_from f d → Sim (born_from f d k p names) (tree.born t kind) hs
    go [] e r h =
        let lt : length d.gens < d.limits.nodes = ltb-true (length d.gens) d.limits.nodes r in
        sim-made d t hs S k p names kind K (d.gens ++ (0 ∷ [])) [] (d.kinds ++ (Some k ∷ [])) (d.parents ++ (None ∷ [])) (λ w. d.ranges w ++ (block 0 0 ∷ []))
        (set d.order (length d.gens) no_key) (length-set d.order (length d.gens) no_key) (set-fits d.order (length d.gens) no_key (omega arith) S.order_fits)
        (at-handle (length d.gens) 0 (hs t.births) h (omega (arith, limit-nodes d.limits S.limits)) (appended d t hs S k lt))
        (appended-free d t hs S k lt e (d.kinds ++ (Some k ∷ [])) (d.parents ++ (None ∷ [])) (λ w. d.ranges w ++ (block 0 0 ∷ [])) (set d.order (length d.gens) no_key) p names)
    go (j ∷ l) e r h =
        let g : ℕ = up (generation_at d j) in
        let lt : j < length d.gens = inside d t hs S k j l e in
        sim-made d t hs S k p names kind K (set d.gens j g) l (set d.kinds j (Some k)) (set d.parents j None) (λ w. set (d.ranges w) j (block 0 0))
        (set d.order j no_key) (length-set d.order j no_key) (set-fits d.order j no_key (omega arith) S.order_fits)
        (at-handle j g (hs t.births) h (omega (arith, limit-nodes d.limits S.limits, S.within.slots)) (reused d t hs S k j l e))
        (reused-free d t hs S k j l e (set d.kinds j (Some k)) (set d.parents j None) (λ w. set (d.ranges w) j (block 0 0)) (set d.order j no_key) p names)
