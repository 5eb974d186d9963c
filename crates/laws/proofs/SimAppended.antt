-- A new node at the end of a list: a birth, then its entry.
-- Assumes nothing.
use Rattle.std.specs.Prelude.{Option}
use mathlib.Core.Path.{◌≡◌, refl, sym, ap, ◌∙◌, subst}
use mathlib.Core.Logic.{◌≢◌}
use mathlib.Core.Bool.{true, true≢false}
use mathlib.Core.List.{List, [], ◌∷◌, Memᴰ}
use Prim.Native.Nat.{ℕ}
use native.Mathlib.Omega.{arith}
use lib.ListN.{length, length-map}
use lib.Seq.{get_or-set_other}
use Rattle.blocks.specs.Arena.{block, has_room}
use Rattle.records.specs.Handles.{handle_index}
use Rattle.texts.specs.Pool.{Pool}
use Rattle.names.specs.Table.{Name}
use Rattle.model.specs.Kinds.{Kind, Which, owns}
use Rattle.model.specs.Doc.{Doc, generation_at, even, list_at}
use Rattle.model.specs.Edits.{next_handle, born_from, born, attach}
use Rattle.model.specs.Calls.{room_fits, slot_fits, appended}
use Rattle.model.specs.Tree.{Tree}
use Rattle.model.specs.Tree as tree
use Rattle.laws.proofs.Sim.{Sim}
use Rattle.laws.proofs.Basics.{update_same, update_other, get_or-snoc-other, birth-below, live-even}
use Rattle.laws.proofs.SimEdits.{sim-attach}
use Rattle.laws.proofs.Stores.{Stores}
use Rattle.laws.proofs.SimBorn.{sim-born}

module _ (d : Doc) (t : Tree) (hs : ℕ → ℕ) (S : Sim d t hs) (k : Kind ℕ (Option ℕ)) (pool : Pool) (names : List (Option Name)) where
  -- a birth takes no arena entry and leaves every live node's block
  pub room-born : (w : Which) (p : ℕ) → t.live p ≡ true → room_fits (born d k pool names) w (hs p) ≡ room_fits d w (hs p)
  unfolding born
  room-born w p lp = go d.free refl
    where
      x : ℕ
      x = handle_index (hs p)

      go : (f : List ℕ) → d.free ≡ f → room_fits (born_from f d k pool names) w (hs p) ≡ room_fits d w (hs p)
      go [] e =
          let lt = birth-below d t hs S p lp in
          ap (has_room (d.arenas w)) (get_or-snoc-other (d.ranges w) (block 0 0) (block 0 0) x (λ q. omega (arith, S.shape.ranges w)))
      go (j ∷ l) e = ap (has_room (d.arenas w)) (get_or-set_other (d.ranges w) j x (block 0 0) (block 0 0) other)
        where
          other : x ≢ j
          other q =
              true≢false
              (sym (live-even d x (S.lives p lp)) ∙ ap (λ (i : ℕ). even (generation_at d i)) q
              ∙ (S.free.odd j (subst (λ (f : List ℕ). Memᴰ j f) (sym e) (Memᴰ.head refl))).1)

  pub sim-appended : (kind : Kind Name (List ℕ)) (w : Which) (p : ℕ) → Stores d k pool names kind → t.live p ≡ true → owns w (t.kind p) ≡ true
      → slot_fits d ≡ true → room_fits d w (hs p) ≡ true → hs t.births ≡ next_handle d
      → Sim (appended d w (hs p) k pool names) (tree.appended t w p kind) hs
  unfolding tree.born
  sim-appended kind w p K lp own slot room told =
      subst (λ (c : ℕ). Sim (attach e w (hs p) c (next_handle d)) (tree.appended t w p kind) hs) (sym size)
      (subst (λ (h : ℕ). Sim (attach e w (hs p) (length (te.lists w p)) h) (tree.appended t w p kind) hs) told
      (sim-attach e te hs S' w p (length (te.lists w p)) n lp' own' (room-born w p lp ∙ room) ln))
    where
      n : ℕ
      n = t.births

      e : Doc
      e = born d k pool names

      te : Tree
      te = tree.born t kind

      S' : Sim e te hs
      S' = sim-born d t hs S k pool names kind K slot told

      old : p ≢ n
      old q =
          let h = S.counted p lp in
          omega arith

      lp' : te.live p ≡ true
      lp' = update_other t.live n true p old ∙ lp

      ln : te.live n ≡ true
      ln = update_same t.live n true

      own' : owns w (te.kind p) ≡ true
      own' = ap (owns w) (update_other t.kind n kind p old) ∙ own

      size : length (list_at e w (hs p)) ≡ length (te.lists w p)
      size = ap length (S'.lists w p lp') ∙ length-map (te.lists w p) hs
