-- `codes::slots::index` meets its contract: what is laid out in 40 turns is the row of each slot's code. Assumes nothing.
use mathlib.Core.Path.{◌≡◌}
use Rattle.codes.proofs.Laid.{laid_out}
use Rattle.codes.proofs.slots.index.Given as goal

abbrev pub invariant-loop-i : goal.invariant-loop-i
invariant-loop-i l = l.index ≡ laid_out l.i
