-- `faults::counts::count_before` meets its contract: each turn passes one good card. Assumes nothing.
use Prim.Native.Nat.{◌-◌}
use lib.ListN.{length}
use Rattle.faults.proofs.Counted.{Counting}
use Rattle.faults.proofs.counts.count_before.Given as goal

abbrev pub invariant-loop-at : goal.invariant-loop-at
invariant-loop-at l = Counting l.deck l.place l.at l.n

abbrev pub decreases-loop-at : goal.decreases-loop-at
decreases-loop-at l = length l.deck - l.at
