-- `making::write_cards` meets its contract: before each turn what stands in the output, with the cards of the blocks ahead behind it, is all
-- cards. Assumes nothing.
use Rattle.rules.specs.Drum.{view}
use Rattle.making.proofs.Writing.{Written}
use Rattle.making.proofs.cards.write_cards.Given as goal

abbrev pub invariant-loop-a : goal.invariant-loop-a
invariant-loop-a l =
    (goal.iterator-loop-a).can_next l.a-iterator × (goal.iterator-loop-a).is_finite l.a-iterator
    × Written (view l.fn.drum l.fn.marks) l.problem l.initial.out l.out l.at l.number l.a-iterator
