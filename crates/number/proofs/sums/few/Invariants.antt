-- `number::sums::few` meets its contract: told in units a tenth as large as often as there is room, the digits are eight and exact.
-- Assumes nothing.
use Prim.Native.Nat.{◌-◌}
use Rattle.number.proofs.Aligning.{Finer}
use Rattle.number.proofs.sums.few.Given as goal

abbrev pub invariant-loop-w : goal.invariant-loop-w
invariant-loop-w l = Finer l.v l.w l.i

abbrev pub decreases-loop-w : goal.decreases-loop-w
decreases-loop-w l = 10000000 - l.w
