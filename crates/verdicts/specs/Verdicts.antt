-- What a plan answers, as 01's number: 0 where the call is accepted.
use Rattle.std.specs.Prelude.{Result, Ok, Err, ℕ}
use Rattle.model.specs.declared.Refusal.{Refusal}
use Rattle.model.specs.Refusals.{number_of}
use Rattle.model.specs.Calls.{Answered, refused, done, made, truth, node, listed, every_node, kind_is, name_is, key, keys}

abbrev pub verdict_number : {T : Type 0} → Result T Refusal → ℕ
verdict_number (Ok x) = 0
verdict_number (Err why) = number_of why

-- the number of a call's answer: 0 where it is no refusal
abbrev pub refusal_number : Answered → ℕ
refusal_number (refused n) = n
refusal_number done = 0
refusal_number (made h) = 0
refusal_number (truth b) = 0
refusal_number (node h) = 0
refusal_number (listed r l) = 0
refusal_number (every_node l) = 0
refusal_number (kind_is k a n) = 0
refusal_number (name_is n) = 0
refusal_number (key k) = 0
refusal_number (keys l) = 0
