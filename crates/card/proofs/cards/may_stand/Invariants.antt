-- `card::may_stand` meets its contract: each turn passes one data card that does not begin at r. Assumes nothing.
use Prim.Native.Nat.{◌-◌}
use lib.ListN.{length}
use Rattle.card.proofs.DataCards.{Standing}
use Rattle.card.proofs.cards.may_stand.Given as goal

abbrev pub invariant-loop-size : goal.invariant-loop-size
invariant-loop-size l = Standing l.deck l.behind l.r l.at

abbrev pub decreases-loop-size : goal.decreases-loop-size
decreases-loop-size l = length l.deck - l.at
