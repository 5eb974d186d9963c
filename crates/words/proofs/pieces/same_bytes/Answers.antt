-- `words::pieces::same_bytes` meets its contract.
-- Assumes nothing.
use Rattle.std.proofs.Common.{rules, tests, ℕ, eqb, ◌∙◌}
use Rattle.std.proofs.lemmas.Iterator.{YieldsList-from_slice, YieldsList-from_zip}
use Rattle.std.proofs.lemmas.Iterator.Search.{all_from_yields_List}
use Rattle.words.proofs.Bytes.{same_bytes-zip, same_bytes-lengths}
use Rattle.words.proofs.pieces.same_bytes.Goals as goal

pub returns-then-words-bytes : goal.returns-then-words-bytes
returns-then-words-bytes c =
    let a = c.args in
    all_from_yields_List (λ (p : ℕ × ℕ). eqb p.0 p.1) c.all.new.self _ _ c.all.ensures.ran
    (YieldsList-from_zip (YieldsList-from_slice a.words.now (cc)) (YieldsList-from_slice a.bytes.now (cc))) (λ x b q k. search (rules, tests))
    ∙ same_bytes-zip a.words.now a.bytes.now c.if-words-bytes.true

pub returns-else-words-bytes : goal.returns-else-words-bytes
returns-else-words-bytes c = search (rules, tests, same_bytes-lengths)
