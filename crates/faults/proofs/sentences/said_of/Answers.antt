-- `faults::sentences::said_of` meets its contract, fault by fault. Assumes nothing.
use Rattle.rules.specs.Bytes.{bytes}
use Rattle.faults.specs.Sentences.{card_sentence}
use Rattle.faults.proofs.Says.{then_said, as_fault}
use Rattle.faults.proofs.sentences.said_of.Goals as goal

pub returns-in-UnknownKind : goal.returns-in-UnknownKind
unfolding card_sentence
returns-in-UnknownKind c =
    let a = c.args in
    as_fault a.k a.place a.o a.rest.now c.in-UnknownKind.is c.of_kind.ensures

pub returns-in-SecondFirst : goal.returns-in-SecondFirst
unfolding card_sentence bytes
returns-in-SecondFirst c =
    let a = c.args in
    as_fault a.k a.place a.o a.rest.now c.in-SecondFirst.is (then_said _ _ c.head.ensures c.with.ensures)

pub returns-in-CutShort : goal.returns-in-CutShort
unfolding card_sentence
returns-in-CutShort c =
    let a = c.args in
    as_fault a.k a.place a.o a.rest.now c.in-CutShort.is c.of_cut.ensures

pub returns-in-BadByte : goal.returns-in-BadByte
unfolding card_sentence
returns-in-BadByte c =
    let a = c.args in
    as_fault a.k a.place a.o a.rest.now c.in-BadByte.is c.of_byte.ensures

pub returns-in-BadPlace : goal.returns-in-BadPlace
unfolding card_sentence
returns-in-BadPlace c =
    let a = c.args in
    as_fault a.k a.place a.o a.rest.now c.in-BadPlace.is c.of_place.ensures
