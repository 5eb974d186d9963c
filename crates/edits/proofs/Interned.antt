-- The words of the names lent to the table, and what an interned name is to the document.
-- Assumes nothing.
use Rattle.std.specs.Prelude.{Option}
use mathlib.Core.Path.{◌≡◌, sym, ap, subst, ◌∙◌}
use mathlib.Core.Bool.{true}
use mathlib.Core.List.{List}
use Prim.Native.Nat.{ℕ, ◌<◌}
use native.Mathlib.Omega.{arith}
use lib.ListN.{length}
use Rattle.names.specs.Table.{Name, number_of, interned, name_fits}
use Rattle.names.specs.Words.{table_of, TableHeld, InternedTo}
use Rattle.names.specs.declared.interning.Interned.{Interned}
use Rattle.names.proofs.Table.{number_of-le}
use Rattle.names.proofs.Words.{table-names}
use Rattle.model.specs.Doc.{Doc}
use Rattle.model.specs.Rules.{Rules}
use Rattle.layout.specs.declared.Document.{Document}
use Rattle.layout.specs.Layout.{limits_of}
use Rattle.memory.specs.Decode.{name_limits, name_counts, names_part, decode}
use Rattle.memory.specs.Step.{Step}
use Rattle.layout.specs.Record.{with_names}
use Rattle.memory.specs.Writing.{put_names}
use Rattle.layout.proofs.Sizes.{memory-limits, limits-fit}
use Rattle.memory.proofs.Shown.{names-held}
use Rattle.edits.specs.Pooled.{set_names}
use Rattle.edits.specs.Stores.{NamesReady, Internable}
use Rattle.edits.proofs.Renamed.{names-counted, names-step}

pub rules-names : (D : Doc) → Rules D → NamesReady D
rules-names D r = record { counts = r.fields.counts; lengths = r.texts.lengths }

module _ (d : Document) (mem : List ℕ) (n : Name) (s : Internable d mem n) where
  table : TableHeld (name_limits d) (name_counts d) (names_part d mem)
  table = names-counted d mem s.memory s.ready.counts s.ready.lengths

  fits : name_fits d.limits.names d.limits.namebytes (table_of (name_limits d) (name_counts d) (names_part d mem)) n ≡ true
  fits = ap (λ (t : List (Option Name)). name_fits d.limits.names d.limits.namebytes t n) (sym (names-held d mem table)) ∙ s.room

  pub intern-asked : TableHeld (name_limits d) (name_counts d) (names_part d mem)
      × (name_fits d.limits.names d.limits.namebytes (table_of (name_limits d) (name_counts d) (names_part d mem)) n ≡ true)
  intern-asked = (table, fits)

  module _ (mem' : List ℕ) (r : Interned) (k : InternedTo (name_limits d) (name_counts d) (names_part d mem) (names_part d mem') n r) where
    pub number-narrow : r.number.0 < 4294967296
    number-narrow =
        let t = table_of (name_limits d) (name_counts d) (names_part d mem) in
        let z = limits-fit (limits_of d.limits) (memory-limits d (length mem) s.memory) in
        omega (arith, k.number, number_of-le t n, table-names (name_limits d) (name_counts d) (names_part d mem) table, table.names, z.names)

    pub intern-step : mem' ≡ put_names d (names_part d mem') mem → (e : Document) → e ≡ with_names d r.counts
        → Step d mem e mem' (set_names (decode d mem) (interned (decode d mem).names n))
    intern-step em e ee =
        let t = interned (decode d mem).names n in
        let stepped = names-step d mem s.memory s.ready.counts s.ready.lengths r.counts (names_part d mem') k.held t
        (k.table ∙ ap (λ (x : List (Option Name)). interned x n) (sym (names-held d mem table))) in
        subst (λ (x : Document). Step d mem x mem' (set_names (decode d mem) t)) (sym ee)
        (subst (λ (x : List ℕ). Step d mem (with_names d r.counts) x (set_names (decode d mem) t)) (sym em) stepped)

    pub interned-number : r.number.0 ≡ number_of (decode d mem).names n
    interned-number = k.number ∙ ap (λ (x : List (Option Name)). number_of x n) (sym (names-held d mem table))
