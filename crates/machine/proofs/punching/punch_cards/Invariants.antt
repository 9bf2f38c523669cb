-- `machine::punching::punch_cards` meets its contract: each turn sends one card, and what is left to punch is the whole from the start.
-- Assumes nothing.
use Rattle.machine.proofs.Punches.{Punching}
use Rattle.machine.proofs.punching.punch_cards.Given as goal

abbrev pub invariant-loop-left : goal.invariant-loop-left
invariant-loop-left l = Punching l.drum l.marks l.initial.out l.initial.desk l.b l.n l.out l.desk l.next l.left

abbrev pub decreases-loop-left : goal.decreases-loop-left
decreases-loop-left l = l.left
