-- `faults::empty` meets its contract: the room is zeros. Assumes nothing.
use mathlib.Core.Path.{refl}
use native.Mathlib.Omega.{arith}
use Rattle.rules.specs.Running.{over}
use Rattle.faults.proofs.lines.empty.Goals as goal

pub invariant_of-result : goal.invariant_of-result
unfolding over
invariant_of-result c = record { fits = omega arith; zeros = refl }
