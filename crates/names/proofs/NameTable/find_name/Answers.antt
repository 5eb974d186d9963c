-- `names::NameTable::find_name` meets its contract: the search of proofs/Search, name by name.
-- Assumes nothing.
use mathlib.Core.Path.{◌≡◌}
use mathlib.Core.List.{List}
use Prim.Native.Nat.{ℕ, ◌+◌, ◌≤◌, ◌<◌}
use native.Mathlib.Omega.{arith}
use lib.ListN.{length, get_or}
use Rattle.names.specs.Table.{name, number_of}
use Rattle.names.specs.Words.{bytes_at, table_of, TableHeld}
use Rattle.names.specs.declared.NameLimits.{NameLimits}
use Rattle.names.specs.declared.NameCounts.{NameCounts}
use Rattle.names.proofs.Words.{names_by}
use Rattle.names.proofs.Search.{Reached, reached-start, reached-fits, reached-next, left-start, left_end, found, passed}
use Rattle.names.proofs.NameTable.find_name.Goals as goal

-- the names that the search passes are the table
whole : (limits : NameLimits) (counts : NameCounts) (words namespace local : List ℕ) (k : ℕ) → k ≡ number_of (names_by (bytes_at limits) counts.names words) (name namespace local)
    → k ≡ number_of (table_of limits counts words) (name namespace local)
unfolding table_of
whole limits counts words namespace local k e = e

fits : (limits : NameLimits) (counts : NameCounts) (words : List ℕ) → TableHeld limits counts words → counts.names + counts.names ≤ length words
fits limits counts words h = omega (arith, h.size)

-- the next name's parts lie one behind the other, among the words
within : (limits : NameLimits) (counts : NameCounts) (words : List ℕ) (k at : ℕ) → TableHeld limits counts words → k < counts.names → Reached (bytes_at limits) counts.names words k at
    → (at ≤ bytes_at limits + get_or words (k + k) 0) × (get_or words (k + k) 0 ≤ get_or words (k + k + 1) 0) × (bytes_at limits + get_or words (k + k + 1) 0 ≤ length words)
within limits counts words k at h g r =
    let q = reached-fits (bytes_at limits) counts.names counts.bytes words (fits limits counts words h) h.ends k at g r in
    (q.0, q.1, omega (arith, q.2, h.size))

pub loop-k-init : goal.loop-k-init
loop-k-init c = (reached-start _ _ _, left-start _ _ _ _ _)

pub overflow_add-middle-in-loop-k : goal.overflow_add-middle-in-loop-k
overflow_add-middle-in-loop-k c =
    let loop = c.loop-k in
    omega (arith, within c.args.self.limits c.args.self.counts c.args.self.words.now loop.k loop.at c.requires (omega arith) loop.invariant.0)

pub overflow_add-end-in-loop-k-2 : goal.overflow_add-end-in-loop-k-2
overflow_add-end-in-loop-k-2 c =
    let loop = c.loop-k in
    omega (arith, within c.args.self.limits c.args.self.counts c.args.self.words.now loop.k loop.at c.requires (omega arith) loop.invariant.0)

pub same_name-requires : goal.same_name-requires
same_name-requires c =
    let loop = c.loop-k in
    let q = within c.args.self.limits c.args.self.counts c.args.self.words.now loop.k loop.at c.requires (omega arith) loop.invariant.0 in
    (omega arith, omega arith, omega arith)

pub returns-then-same_name : goal.returns-then-same_name
returns-then-same_name c =
    let loop = c.loop-k in
    let a = c.args in
    let q = whole a.self.limits a.self.counts a.self.words.now a.name.namespace.now a.name.local.now loop.k
    (found (bytes_at a.self.limits) a.self.counts.names a.self.counts.bytes a.self.words.now (fits a.self.limits a.self.counts a.self.words.now c.requires) c.requires.ends loop.k loop.at (omega arith) loop.invariant.0
    a.name.namespace.now a.name.local.now loop.invariant.1 _ c.same_name.ensures c.if-same_name.true) in
    (omega (arith, q), q)

pub loop-k-preserved : goal.loop-k-preserved
loop-k-preserved c =
    let loop = c.loop-k in
    let a = c.args in (
      reached-next (bytes_at a.self.limits) a.self.counts.names a.self.counts.bytes a.self.words.now (fits a.self.limits a.self.counts a.self.words.now c.requires) c.requires.ends loop.k loop.at (omega arith) loop.invariant.0,
      passed (bytes_at a.self.limits) a.self.counts.names a.self.counts.bytes a.self.words.now (fits a.self.limits a.self.counts a.self.words.now c.requires) c.requires.ends loop.k loop.at (omega arith) loop.invariant.0
          a.name.namespace.now a.name.local.now loop.invariant.1 _ c.same_name.ensures c.if-same_name.false,
    )

pub returns : goal.returns
returns c =
    let loop = c.loop-k in
    let a = c.args in
    let q = whole a.self.limits a.self.counts a.self.words.now a.name.namespace.now a.name.local.now a.self.counts.names
    (left_end (bytes_at a.self.limits) a.self.counts.names a.self.counts.bytes a.self.words.now (fits a.self.limits a.self.counts a.self.words.now c.requires) c.requires.ends a.name.namespace.now a.name.local.now loop.k (omega arith) (omega arith) loop.invariant.1) in
    λ h. omega (arith, q)
