-- `faults::sentences::of_none` meets its contract: text behind text. Assumes nothing.
use mathlib.Core.List.{append_assoc}
use Rattle.rules.specs.Bytes.{bytes}
use Rattle.faults.specs.Sentences.{none_sentence, none_line}
use Rattle.faults.proofs.Says.{then_said, said_whole}
use Rattle.faults.proofs.Lengths.{none_short}
use Rattle.faults.proofs.sentences.of_none.Goals as goal

pub returns : goal.returns
unfolding none_sentence bytes
returns c =
    let a = c.args in
    said_whole (none_line a.k a.place) (none_short a.k a.place) (rw append_assoc (then_said _ _ c.head-line.ensures c.with.ensures))
