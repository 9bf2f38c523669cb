use Rattle.std.proofs.Common.{rules}
use mathlib.Core.Path.{sym, ◌∙◌}
use native.Mathlib.Omega.{arith}
use Rattle.making.proofs.Left.{none_left, left_passed, left_taken}
use Rattle.making.proofs.blocks.BlocksIterator.next.Goals as goal

pub returns-then-n-gt0-clause-steps : goal.returns-then-n-gt0-clause-steps
returns-then-n-gt0-clause-steps c =
    c.loop-self.invariant.1 ∙ left_taken _ _ _ _ c.loop-self-test.true c.card_from-n.ensures.size (omega arith) c.loop-self.invariant.0

pub returns-then-n-gt0-clause-goes : goal.returns-then-n-gt0-clause-goes
returns-then-n-gt0-clause-goes c =
    let e = c.loop-self.invariant.1 ∙ left_taken _ _ _ _ c.loop-self-test.true c.card_from-n.ensures.size (omega arith) c.loop-self.invariant.0 in
    rw e (search rules)

pub loop-self-preserved : goal.loop-self-preserved
loop-self-preserved c =
    (c.loop-self.invariant.0, c.loop-self.invariant.1 ∙ left_passed _ _ _ c.loop-self-test.true (sym c.card_from-n.ensures.size ∙ omega arith))

pub returns-clause-steps : goal.returns-clause-steps
returns-clause-steps c = (c.loop-self.invariant.1 ∙ none_left _ _ _ (omega arith), none_left _ _ _ (omega arith))
