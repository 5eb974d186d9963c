-- What an edit of parents, blocks or order words keeps of the relation: the counts, the free slots and the texts.
-- Assumes nothing.
use Rattle.std.specs.Prelude.{Option}
use mathlib.Core.Bool.{Bool}
use mathlib.Core.List.{List}
use Prim.Native.Nat.{ℕ}
use Rattle.blocks.specs.Arena.{Arena, Block}
use Rattle.model.specs.Kinds.{Which}
use Rattle.model.specs.Doc.{Doc, change_nodes, change_arenas, change_order}
use Rattle.model.specs.Tree.{Tree}
use Rattle.laws.proofs.Sim.{FreeSlots, Within, Pooled, Sim}

module _ {d : Doc} {t : Tree} {hs : ℕ → ℕ} (S : Sim d t hs) (parents : List (Option ℕ)) (ranges : Which → List Block) (arenas : Which → Arena)
    (order : List ℕ) (current : Bool) where
  abbrev relisted : Doc
  relisted = change_order (change_arenas (change_nodes d d.kinds parents ranges) arenas) order current

  pub within-kept : Within relisted
  within-kept =
      record {
        slots = S.within.slots;
        texts = S.within.texts;
        text_bytes = S.within.text_bytes;
        names = S.within.names;
        name_bytes = S.within.name_bytes;
      }

  pub free-kept : FreeSlots relisted
  free-kept = record { odd = S.free.odd; all = S.free.all; once = S.free.once }

  pub pool-kept : (parent : ℕ → Option ℕ) (lists : Which → ℕ → List ℕ) (now : Bool)
      → Pooled relisted (record { births = t.births; live = t.live; kind = t.kind; parent = parent; lists = lists; current = now }) hs
  pool-kept parent lists now =
      record {
        inside = S.pool.inside;
        distinct = S.pool.distinct;
        single = S.pool.single;
        free_inside = S.pool.free_inside;
        free_once = S.pool.free_once;
        free_apart = S.pool.free_apart;
        covered = S.pool.covered;
      }
