-- A document that was shown to keep the rules, as the lemmas over plain values take it.
-- Assumes nothing.
use Rattle.laws.proofs.RulesTest.{rules-of-test}
use Rattle.memory.specs.Decode.{pool_in, names_in, lengths_add, decode}
use Rattle.memory.specs.Undamaged.{Undamaged}
use Rattle.memory.specs.declared.view.Undamaged as view
use Rattle.memory.proofs.Shaped.{shape}

pub kept : (doc : view.Undamaged) → Undamaged doc.view.document doc.view.words.now
kept doc =
    let d = doc.view.document in
    let mem = doc.view.words.now in
    record {
      memory = doc.view.fits;
      rules = rules-of-test (decode d mem) (shape (pool_in d mem) (names_in d mem) (lengths_add d mem) d mem doc.view.fits) doc.rules;
    }
