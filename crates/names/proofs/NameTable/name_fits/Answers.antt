-- `names::NameTable::name_fits` meets its contract: the name is there, or there is room, or there is none.
-- Assumes nothing.
use mathlib.Core.Path.{◌≡◌, refl, sym, ◌∙◌}
use mathlib.Core.Bool.{true, false, false≢true}
use Prim.Native.Nat.{ℕ}
use native.Mathlib.Omega.{arith}
use borrow.Author.Tests.{le-ltb}
use Rattle.std.specs.Prelude.{Option, Some, None, SomeIff, is_some}
use Rattle.names.specs.Expanded.{expanded}
use Rattle.names.proofs.Append.{number-lacked, fits-found, fits-room, fits-full}
use Rattle.names.proofs.NameTable.name_fits.Goals as goal

there : (o : Option ℕ) (P : Type 0) (v : ℕ) → SomeIff o P v → is_some o ≡ true → P
there None P v h e = absurd (false≢true e)
there (Some k) P v h e = h.0

lacked : (o : Option ℕ) (P : Type 0) (v : ℕ) → SomeIff o P v → is_some o ≡ false → P → ⊥
lacked None P v h e = h
lacked (Some k) P v h e = absurd (false≢true (sym e))

pub returns-then-is_some : goal.returns-then-is_some
returns-then-is_some c =
    let a = c.args in
    fits-found a.self.limits a.self.counts a.self.words.now (expanded a.name) c.requires _ refl (there _ _ _ c.find_name.ensures (sym c.is_some.ensures ∙ c.if-is_some.true))

pub returns-then-self : goal.returns-then-self
returns-then-self c =
    let a = c.args in
    let n = expanded a.name in
    let e = number-lacked a.self.limits a.self.counts a.self.words.now n c.requires (lacked _ _ _ c.find_name.ensures (sym c.is_some.ensures ∙ c.if-is_some.false)) in
    fits-room a.self.limits a.self.counts a.self.words.now n c.requires _ e (omega arith) c.if-self.true

pub returns-else-self : goal.returns-else-self
returns-else-self c =
    let a = c.args in
    let n = expanded a.name in
    let e = number-lacked a.self.limits a.self.counts a.self.words.now n c.requires (lacked _ _ _ c.find_name.ensures (sym c.is_some.ensures ∙ c.if-is_some.false)) in
    le-ltb _ _ c.if-self.false ∙ fits-full a.self.limits a.self.counts a.self.words.now n c.requires _ e (omega arith) c.if-self.false
