-- `memory::view::View::record_word` meets its contract.
-- Assumes nothing.
use native.Mathlib.Omega.{arith}
use lib.ListN.{length}
use Rattle.layout.proofs.Sizes.{sizes}
use Rattle.memory.proofs.Words.{record-word}
use Rattle.memory.proofs.view.View.record_word.Goals as goal

pub overflow_mul-result : goal.overflow_mul-result
overflow_mul-result c =
    let z = sizes c.args.self.now.document (length c.args.self.now.words.now) c.args.self.now.fits in
    omega arith

pub overflow_mul-result-2 : goal.overflow_mul-result-2
overflow_mul-result-2 c =
    let z = sizes c.args.self.now.document (length c.args.self.now.words.now) c.args.self.now.fits in
    omega arith

pub overflow_add-result : goal.overflow_add-result
overflow_add-result c =
    let z = sizes c.args.self.now.document (length c.args.self.now.words.now) c.args.self.now.fits in
    omega arith

pub overflow_add-result-2 : goal.overflow_add-result-2
overflow_add-result-2 c =
    let z = sizes c.args.self.now.document (length c.args.self.now.words.now) c.args.self.now.fits in
    omega arith

pub offset_bounds-self-self : goal.offset_bounds-self-self
offset_bounds-self-self c =
    let z = sizes c.args.self.now.document (length c.args.self.now.words.now) c.args.self.now.fits in
    omega arith

pub bounds-self-self : goal.bounds-self-self
bounds-self-self c =
    let z = sizes c.args.self.now.document (length c.args.self.now.words.now) c.args.self.now.fits in
    omega arith

pub returns : goal.returns
returns c =
    record-word c.args.self.now.document c.args.self.now.words.now c.args.slot.0 c.args.word c.requires.0 c.requires.1
