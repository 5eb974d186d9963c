-- `memory::lent::Lent::write_name` meets its contract.
-- Assumes nothing.
use native.Mathlib.Omega.{arith}
use mathlib.Core.Path.{refl, ◌≡◌}
use mathlib.Core.Bool.{true}
use Prim.Native.Nat.{◌<◌}
use lib.ListN.{length}
use Rattle.names.specs.Expanded.{expanded}
use Rattle.names.specs.Table.{name_fits}
use Rattle.names.specs.Words.{table_of, TableHeld, InternedTo}
use Rattle.layout.specs.Layout.{limits_of}
use Rattle.layout.proofs.Sizes.{memory-limits, limits-fit}
use Rattle.memory.proofs.PoolAndTable.{ends}
use Rattle.memory.proofs.Cuts.{names-asked, names-told}
use Rattle.memory.proofs.lent.Lent.write_name.Goals as goal

pub names_range-requires : goal.names_range-requires
names_range-requires c =
    memory-limits c.args.self.now.document (length c.args.self.now.words.now) c.args.self.now.fits

pub offset_bounds-self-names_range : goal.offset_bounds-self-names_range
offset_bounds-self-names_range c =
    let z = ends c.args.self.now.document (length c.args.self.now.words.now) c.args.self.now.fits in
    omega (arith, c.names_range.ensures.start)

pub slice_bounds-words-end-2 : goal.slice_bounds-words-end-2
slice_bounds-words-end-2 c =
    let z = ends c.args.self.now.document (length c.args.self.now.words.now) c.args.self.now.fits in
    omega (arith, c.names_range.ensures.start, c.names_range.ensures.end)

pub intern-requires : goal.intern-requires
intern-requires c =
    let a = c.args in
    let z = limits-fit (limits_of a.self.now.document.limits) (memory-limits a.self.now.document (length a.self.now.words.now) c.args.self.now.fits) in
    names-asked a.self.now.document a.self.now.words.now c.name_limits-limits.result c.name_limits-limits.ensures c.name_counts-counts.result c.name_counts-counts.ensures _ _ c.names_range.ensures.start c.names_range.ensures.end
    (λ l n w. TableHeld l n w × (name_fits l.names l.bytes (table_of l n w) (expanded a.name) ≡ true) × (l.names < 4294967296)) (c.requires.0, c.requires.1, omega (arith, z.names))

pub returns : goal.returns
returns c =
    let a = c.args in
    let got = c.intern in
    let q = names-told a.self.now.document a.self.now.words.now c.name_limits-limits.result c.name_limits-limits.ensures c.name_counts-counts.result c.name_counts-counts.ensures _ _ c.names_range.ensures.start c.names_range.ensures.end c.args.self.now.fits (λ l n w v. InternedTo l n w v (expanded a.name) got.result) _ got.auto.words got.ensures in
    record { interned_to = q.0; lent_after = record { record_is = refl; words_are = q.1; reference = refl } }
