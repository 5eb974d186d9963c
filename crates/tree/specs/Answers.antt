-- What Start's result is among the answers of the definitions, and the record that comes with it.
use Rattle.std.specs.Prelude.{false, Result, Ok, Err}
use Rattle.model.specs.Refusals.{number_of}
use Rattle.model.specs.Calls.{Answered, refused, done}
use Rattle.layout.specs.declared.Document.{Document}
use Rattle.layout.specs.declared.Limits as given
use Rattle.layout.specs.Record.{slots_alone}
use Rattle.model.specs.declared.Refusal.{Refusal}

abbrev pub of_start : Result Document Refusal → Answered
of_start (Ok d) = done
of_start (Err why) = refused (number_of why)

-- the record after Start; no promise speaks of the one after a refusal
abbrev pub started_record : given.Limits → Result Document Refusal → Document
started_record l (Ok d) = d
started_record l (Err why) = slots_alone l 0 false
