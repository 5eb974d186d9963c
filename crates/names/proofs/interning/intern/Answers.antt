-- `names::interning::intern` meets its contract: the pair is found, or it is appended.
-- Assumes nothing.
use native.Mathlib.Omega.{arith}
use Rattle.names.specs.Expanded.{expanded}
use Rattle.names.proofs.Append.{number-lacked, intern-found, intern-new, room}
use Rattle.names.proofs.interning.intern.Goals as goal

pub returns-in-Some : goal.returns-in-Some
returns-in-Some c =
    let a = c.args in
    intern-found a.limits a.counts a.words.now (expanded a.name) c.requires.0 c.in-Some.k c.in-Some.ensures.1 (omega (arith, c.in-Some.ensures))

pub append_name-counts-requires : goal.append_name-counts-requires
append_name-counts-requires c =
    let a = c.args in
    let n = expanded a.name in
    let free = room a.limits a.counts a.words.now n c.requires.0 _ (number-lacked a.limits a.counts a.words.now n c.requires.0 c.in_default.ensures) (omega arith) c.requires.1 in
    (c.requires.0, free.0, free.1)

pub returns : goal.returns
returns c =
    let a = c.args in
    let n = expanded a.name in
    let e = number-lacked a.limits a.counts a.words.now n c.requires.0 c.in_default.ensures in
    intern-new a.limits a.counts a.words.now n c.requires.0 _ e (omega arith) _ _ (room a.limits a.counts a.words.now n c.requires.0 _ e (omega arith) c.requires.1)
    c.append_name-counts.ensures.0 c.append_name-counts.ensures.1
