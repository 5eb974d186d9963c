-- The names of a document that keeps the rules are those of its table's words.
-- Assumes nothing.
use Rattle.std.specs.Prelude.{Option}
use mathlib.Core.Path.{◌≡◌, refl, sym, ap, ◌∙◌}
use mathlib.Core.Bool.{Bool, true}
use mathlib.Core.List.{List}
use Prim.Native.Nat.{ℕ}
use Rattle.words.proofs.Tests.{and_right}
use Rattle.names.specs.Table.{Name, name_fits}
use Rattle.names.specs.Words.{table_of, TableHeld}
use Rattle.names.specs.declared.NameLimits.{NameLimits}
use Rattle.names.specs.declared.NameCounts.{NameCounts}
use Rattle.model.specs.Calls.{name_fits_in}
use Rattle.layout.specs.declared.Document.{Document}
use Rattle.memory.specs.Decode.{name_limits, name_counts, names_part, names_in, texts_add, names_add, lengths_add, decode}
use Rattle.memory.proofs.Shown.{names-held}
use Rattle.memory.proofs.PoolAndTable.{names-length}
use Rattle.memory.specs.Undamaged.{Undamaged}
use Rattle.lookup.proofs.Counts.{counts-within}

names-reach : (d : Document) (mem : List ℕ) → lengths_add d mem ≡ true → names_add d mem ≡ true
unfolding lengths_add
names-reach d mem h = and_right (texts_add d mem) (names_add d mem) h

module _ (d : Document) (mem : List ℕ) (u : Undamaged d mem) where
  pub held : TableHeld (name_limits d) (name_counts d) (names_part d mem)
  held =
      let w = counts-within d mem u in
      record {
        size = names-length d mem (name_limits d) (names_part d mem) refl refl u.memory;
        names = w.names;
        bytes = w.namebytes;
        ends = names-reach d mem u.rules.texts.lengths;
      }

  pub names_same : names_in d mem ≡ table_of (name_limits d) (name_counts d) (names_part d mem)
  names_same = names-held d mem held

  -- the table lent, with its limits and counts
  module _ (l : NameLimits) (k : NameCounts) (w : List ℕ) (el : l ≡ name_limits d) (ek : k ≡ name_counts d) (ew : w ≡ names_part d mem) where
    pub name-asked : TableHeld l k w
    name-asked = rw (el, ek, ew) held

    pub name-told : (n : Name) (r : Bool) → r ≡ name_fits l.names l.bytes (table_of l k w) n → r ≡ name_fits_in (decode d mem) n
    name-told n r q =
        q
        ∙ (rw (el, ek, ew))
        ∙ sym (ap (λ (t : List (Option Name)). name_fits d.limits.names d.limits.namebytes t n) names_same)
