-- A fresh document stands for the seed: the Root alone.
-- Assumes nothing.
use Rattle.std.specs.Prelude.{Option, None}
use mathlib.Core.Path.{◌≡◌, refl, sym, ap, ◌∙◌, subst}
use mathlib.Core.Bool.{true, false, false≢true, true≢false}
use mathlib.Core.List.Memᴰ
use mathlib.Core.List.{[], ◌∷◌, Memᴰ}
use Prim.Native.Nat.{ℕ, zero, suc, ◌*◌, ◌≤◌, ◌<◌}
use native.Mathlib.Omega.{arith}
use borrow.Author.Tests.{eqb-true}
use lib.ListN.{get_or, replicate, length-replicate, get_or-replicate}
use Rattle.words.proofs.Parts.{part_none}
use Rattle.blocks.specs.Arena.{block, list_of, fresh_arena}
use Rattle.blocks.specs.Rule.{empty_left, BlocksApart}
use Rattle.blocks.proofs.Apart.{apart-ext}
use Rattle.records.specs.Handles.{handle_index, handle_generation}
use Rattle.model.specs.Kinds.{Kind, root, Which, names_of, texts_of}
use Rattle.model.specs.Doc.{Doc, Limits, limits_ok, fresh, root_handle, no_key, generation_at, live_slot, even, kind_in, kind_at, range_in}
use Rattle.model.specs.Calls.{key_of}
use Rattle.model.specs.Rules.{block_in, slots_held}
use Rattle.model.specs.Tree.{seed, key_in}
use Rattle.laws.specs.Claim.{gone_below}
use Rattle.laws.proofs.Sim.{Unrepeated, Sim, fields}
use Rattle.laws.proofs.Shown.{shown_by}
use Rattle.laws.proofs.Basics.{limit-some}

zeros : (n i : ℕ) → get_or (replicate n 0) i 0 < 4294967296
zeros zero i = omega arith
zeros (suc n) zero = omega arith
zeros (suc n) (suc i) = zeros n i

module _ (l : Limits) where
  -- every slot reads as the Root with no parent and no list; only slot 0 is live
  seed-kind : (i : ℕ) → kind_in (fresh l) i ≡ root
  seed-kind zero = refl
  seed-kind (suc i) = refl

  seed-range : (w : Which) (i : ℕ) → range_in (fresh l) w i ≡ block 0 0
  seed-range w zero = refl
  seed-range w (suc i) = refl

  seed-live : (i : ℕ) → even (generation_at (fresh l) i) ≡ true → i ≡ 0
  seed-live zero e = refl
  seed-live (suc i) e = absurd (false≢true e)

  seed-slot : (i : ℕ) → live_slot (fresh l) i ≡ true → i ≡ 0
  seed-slot zero e = refl
  seed-slot (suc i) e = absurd (false≢true e)

  seed-block : (w : Which) (i : ℕ) → block 0 0 ≡ block_in (fresh l) w i
  seed-block w zero = refl
  seed-block w (suc i) = refl

  empty-apart : (w : Which) → BlocksApart (fresh_arena (l.entries w)) (λ (i : ℕ). block 0 0)
  empty-apart w =
      record {
        shaped = record {
          fits = omega arith;
          paired = length-replicate {A = ℕ} (l.entries w) 0 ∙ sym (length-replicate {A = ℕ} (l.entries w) 0);
        };
        inside = λ i. record { below = omega arith };
        apart = λ i j n. empty_left refl;
      }

  no_field : (h s : ℕ) → Memᴰ s (fields (fresh l) h) → ⊥
  no_field h s m = Memᴰ.not-nil (subst (λ (k : Kind ℕ (Option ℕ)). Memᴰ s (slots_held (texts_of k))) (seed-kind (handle_index h)) m)

  no_name : (h s : ℕ) → Memᴰ s (names_of (kind_at (fresh l) h)) → ⊥
  no_name h s m = Memᴰ.not-nil (subst (λ (k : Kind ℕ (Option ℕ)). Memᴰ s (names_of k)) (seed-kind (handle_index h)) m)

  pub sim-seed : (hs : ℕ → ℕ) → limits_ok l ≡ true → hs 0 ≡ root_handle → Sim (fresh l) seed hs
  sim-seed hs ok r =
      record {
        shape = record {
          kinds = refl;
          parents = refl;
          ranges = λ w. refl;
          ids = λ w. length-replicate {A = ℕ} (l.entries w) 0;
          caps = λ w. length-replicate {A = ℕ} (l.entries w) 0;
          order = length-replicate {A = ℕ} l.nodes 0;
          unused = λ w i k q h. seed-range w i;
        };
        limits = ok;
        counts = refl;
        lengths = refl;
        within = record {
          slots = limit-some l ok;
          texts = omega arith;
          text_bytes = omega arith;
          names = omega arith;
          name_bytes = omega arith;
        };
        generations = generations;
        nodes = λ i e. rw (seed-live i e);
        order_fits = zeros l.nodes;
        caps_fit = λ w. zeros (l.entries w);
        free = record { odd = λ i m. absurd (Memᴰ.not-nil m); all = all; once = tt };
        blocks = λ w. apart-ext (fresh_arena (l.entries w)) (λ (i : ℕ). block 0 0) (block_in (fresh l) w) (seed-block w) (empty-apart w);
        pool = record {
          inside = λ b s lb m. absurd (no_field (hs b) s m);
          distinct = λ b lb. rw (seed-kind (handle_index (hs b))) tt;
          single = λ a b s la lb m. absurd (no_field (hs a) s m);
          free_inside = λ s m. absurd (Memᴰ.not-nil m);
          free_once = tt;
          free_apart = λ b s lb m. absurd (no_field (hs b) s m);
          covered = λ s lt. absurd (omega arith);
        };
        named = λ b i lb m. absurd (no_name (hs b) i m);
        counted = λ b lb. (let e = eqb-true b 0 lb in omega arith);
        lives = λ b lb. rw (only b lb);
        gen = λ b lb. rw (eqb-true b 0 lb, r);
        inj = λ a b la lb q. eqb-true a 0 la ∙ sym (eqb-true b 0 lb);
        owner = λ i li. (0, refl, ap handle_index r ∙ sym (seed-slot i li));
        kind = λ b lb. ap (shown_by [] (fresh l).pool) (seed-kind (handle_index (hs b)));
        parent = λ b lb. no-parent (handle_index (hs b));
        lists = λ w b lb. ap (list_of (fresh_arena (l.entries w))) (seed-range w (handle_index (hs b))) ∙ part_none (replicate (l.entries w) 0) 0;
        current = refl;
        order = λ f b lb. order b lb;
        order_free = λ f i lt o. absurd (true≢false (sym (first i lt) ∙ o));
        fresh = λ small. unrepeated;
        root_live = refl;
        root_is = r;
      }
    where
      d : Doc
      d = fresh l

      only : (b : ℕ) → seed.live b ≡ true → handle_index (hs b) ≡ 0
      only b lb = ap (λ (a : ℕ). handle_index (hs a)) (eqb-true b 0 lb) ∙ ap handle_index r

      generations : (i : ℕ) → i < 1 → get_or (0 ∷ []) i 0 < 4294967296
      generations i lt =
          let e : i ≡ 0 = omega arith in
          rw e (omega arith)

      first : (i : ℕ) → i < 1 → live_slot d i ≡ true
      first i lt =
          let e : i ≡ 0 = omega arith in
          rw e

      all : (i : ℕ) → i < 1 → even (generation_at d i) ≡ false → Memᴰ i []
      all i lt o =
          let e : i ≡ 0 = omega arith in
          absurd (true≢false (ap (λ (j : ℕ). even (generation_at d j)) (sym e) ∙ o))

      no-parent : (i : ℕ) → get_or d.parents i None ≡ None
      no-parent zero = refl
      no-parent (suc i) = refl

      order : (b : ℕ) → seed.live b ≡ true → key_of (get_or (replicate l.nodes 0) (handle_index (hs b)) no_key) ≡ key_in seed b
      order b lb =
          rw (only b lb, eqb-true b 0 lb, get_or-replicate {A = ℕ} l.nodes 0 0 no_key (limit-some l ok))

      unrepeated : Unrepeated (0 ∷ []) 1 seed.live hs
      unrepeated = record { in_slots = in_slots; older = older; bound = bound; apart = λ a b ab lt. absurd (omega arith) }
        where
          in_slots : (b : ℕ) → b < 1 → handle_index (hs b) < 1
          in_slots b lt =
              let e : b ≡ 0 = omega arith in
              rw (e, r) (omega arith)

          older : (b : ℕ) → b < 1 → seed.live b ≡ false → handle_generation (hs b) < get_or (0 ∷ []) (handle_index (hs b)) 1
          older b lt q =
              let e : b ≡ 0 = omega arith in
              absurd (true≢false (ap seed.live (sym e) ∙ q))

          bound : (i : ℕ) → i < 1 → get_or (0 ∷ []) i 1 ≤ 2 * gone_below seed.live 1
          bound i lt =
              let e : i ≡ 0 = omega arith in
              rw e (omega arith)
