-- `steps::step::hinted_index` meets its contract.
-- Assumes nothing.
use Rattle.std.proofs.Common.{rules, tests, arith, ◌≡◌, ◌≢◌, ◌∙◌, ◌<◌, eqb, length, get_or, position}
use Rattle.std.proofs.lemmas.Iterator.{YieldsList-from_slice}
use Rattle.std.proofs.lemmas.Iterator.Search.{position_from_yields_List}
use Rattle.steps.proofs.Stepping.{hint-right, hint-wrong}
use Rattle.steps.proofs.step.hinted_index.Goals as goal
use Rattle.steps.proofs.step.hinted_index.Goals.{else-hint-entries-via-then-hint-entries+else-entries-hint, else-hint-entries-via-else-hint-entries}

pub returns-then-entries-hint : goal.returns-then-entries-hint
returns-then-entries-hint c =
    rw (← c.block_words-entries.ensures) (hint-right _ c.args.word c.args.hint c.if-hint-entries.true c.if-entries-hint.true)

pub returns : goal.returns
returns c =
    let l = c.block_words-entries.result.now in
    let elsewhere : c.args.hint < length l → get_or l c.args.hint 0 ≢ c.args.word =
    elim c.else-hint-entries.branch [
      | else-hint-entries-via-then-hint-entries+else-entries-hint w ↦ λ h. w.if-entries-hint.false
      | else-hint-entries-via-else-hint-entries w ↦ λ h. absurd (omega arith)
    ] in
    let first : c.position.result ≡ position (λ y. eqb y c.args.word) l =
    position_from_yields_List (λ y. eqb y c.args.word) _ _ c.position.result c.position.ensures.ran (YieldsList-from_slice _ c.iter.ensures.rest) (λ x b q k. search (rules, tests)) in
    rw (← c.block_words-entries.ensures) (c.unwrap_or.ensures ∙ hint-wrong l c.args.word c.args.hint elsewhere c.position.result first)
