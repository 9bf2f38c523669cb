-- `card::judge` meets its contract: what is left to judge has the answer of the whole. A card that fits names a cell, so no sum is too
-- large; it has a word, so a cell less is left. Assumes nothing.
use Prim.Native.Nat.{◌+◌, ◌-◌}
use Rattle.card.proofs.DataCards.{Judging}
use Rattle.card.proofs.cards.judge.Given as goal

abbrev pub invariant-loop-next : goal.invariant-loop-next
invariant-loop-next l = Judging l.deck l.from l.b l.c l.at l.next

abbrev pub decreases-loop-next : goal.decreases-loop-next
decreases-loop-next l = l.c + 1 - l.next
