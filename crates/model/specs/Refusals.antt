-- The refusals' numbers (01, "What a call answers"), and what a check of bytes is refused with.
use Rattle.std.specs.Prelude.{ℕ}
use Rattle.chars.specs.declared.Fault.{Fault}
use Rattle.chars.specs.declared.Fault.TheVariants as fault
use Rattle.model.specs.declared.Refusal.{Refusal}
use Rattle.model.specs.declared.Refusal.TheVariants.{NotUtf8, InvalidName, InvalidText, BadBuffers, Damaged, Stale, NotAnElement, NotAContainer, NotAChild, NotText, NotRemovable, RootElementExists, WouldCycle, Full, OrderStale}

abbrev pub number_of : Refusal → ℕ
number_of NotUtf8 = 1
number_of InvalidName = 2
number_of InvalidText = 3
number_of BadBuffers = 4
number_of Damaged = 5
number_of Stale = 6
number_of NotAnElement = 7
number_of NotAContainer = 8
number_of NotAChild = 9
number_of NotText = 10
number_of NotRemovable = 11
number_of RootElementExists = 12
number_of WouldCycle = 13
number_of Full = 14
number_of OrderStale = 15

abbrev pub refusal_of : Fault → Refusal
refusal_of fault.NotUtf8 = NotUtf8
refusal_of fault.InvalidName = InvalidName
refusal_of fault.InvalidText = InvalidText
