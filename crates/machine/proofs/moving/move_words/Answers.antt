-- `machine::moving::move_words`: before each turn i words are moved. Assumes nothing.
use native.Mathlib.Omega.{arith}
use Rattle.machine.proofs.Moves.{none_moved, one_moved, all_moved}
use Rattle.machine.proofs.moving.move_words.Goals as goal

pub loop-i-init : goal.loop-i-init
loop-i-init c =
    let a = c.args in
    (omega arith, omega arith, omega arith, none_moved a.b a.c a.n)

pub loop-i-preserved : goal.loop-i-preserved
loop-i-preserved c = (
  omega arith,
  omega (arith, c.keep.auto.drum),
  omega (arith, c.keep.auto.marks),
  one_moved c.loop-i.invariant.3 c.loop-i-test.true c.requires.1 c.word_in_turn-k.ensures.0 c.word-w.ensures c.keep.ensures,
)

pub returns : goal.returns
returns c = all_moved c.loop-i.invariant.3 (omega arith)
