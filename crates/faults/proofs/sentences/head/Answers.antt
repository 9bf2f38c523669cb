-- `faults::sentences::head` meets its contract: text behind text. Assumes nothing.
use Rattle.rules.specs.Bytes.{bytes}
use Rattle.faults.specs.Sentences.{head_of}
use Rattle.faults.proofs.Says.{none_said, then_said, adds_as}
use Rattle.faults.proofs.sentences.head.Goals as goal

pub returns : goal.returns
unfolding head_of bytes
returns c =
    then_said _ _ (then_said _ _ (then_said _ _ (then_said _ _ (then_said _ _ (then_said _ _ (then_said _ _ (then_said _ _ (then_said _ _ (none_said c.empty.ensures)
    c.with.ensures) c.with_number.ensures) c.with-2.ensures) (adds_as _ c.name.ensures c.with-3.ensures)) c.with-4.ensures) c.with_due.ensures) c.with-5.ensures)
    c.with_number-2.ensures) c.with-6.ensures
