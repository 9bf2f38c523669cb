-- `faults::sentences::of_card` meets its contract: the sentence, and a line end. Assumes nothing.
use Rattle.faults.specs.Sentences.{card_line}
use Rattle.faults.proofs.Says.{then_said, said_whole}
use Rattle.faults.proofs.Lengths.{card_short}
use Rattle.faults.proofs.sentences.of_card.Goals as goal

pub returns : goal.returns
unfolding card_line
returns c =
    let a = c.args in
    said_whole (card_line a.k a.place a.fault a.o a.rest.now) (card_short a.k a.place a.fault a.o a.rest.now) (then_said _ _ c.said_of.ensures c.with.ensures)
