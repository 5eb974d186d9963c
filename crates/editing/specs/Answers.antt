-- What an editing call gives is among the answers of the definitions, with the record that the caller has then.
use Rattle.std.specs.Prelude.{Result, Ok, Err, Bool, List, ℕ}
use Rattle.records.specs.Handles.{word_of}
use Rattle.model.specs.declared.Refusal.{Refusal}
use Rattle.model.specs.Refusals.{number_of}
use Rattle.model.specs.Calls.{Answered, refused, done, made, truth, keys}
use Rattle.layout.specs.declared.Document.{Document}
use Rattle.edits.specs.declared.born.NewNode.{NewNode}
use Rattle.reading.specs.Answers.{order_shown}

-- "A refusal returns its number alone": the record stays
abbrev pub of_done : Result Document Refusal → Answered
of_done (Ok d) = done
of_done (Err why) = refused (number_of why)

abbrev pub after_done : Document → Result Document Refusal → Document
after_done d (Ok d') = d'
after_done d (Err why) = d

abbrev pub of_made : Result NewNode Refusal → Answered
of_made (Ok n) = made (word_of n.id)
of_made (Err why) = refused (number_of why)

abbrev pub after_made : Document → Result NewNode Refusal → Document
after_made d (Ok n) = n.document
after_made d (Err why) = d

-- whether it was there
abbrev pub of_found : Result (Document × Bool) Refusal → Answered
of_found (Ok (d, t)) = truth t
of_found (Err why) = refused (number_of why)

abbrev pub after_found : Document → Result (Document × Bool) Refusal → Document
after_found d (Ok (d', t)) = d'
after_found d (Err why) = d

-- "`document_order` has one word a slot": what `order_words` shows of the memory then
abbrev pub of_order : List ℕ → Result Document Refusal → Answered
of_order mem' (Ok d') = keys (order_shown d' mem')
of_order mem' (Err why) = refused (number_of why)
