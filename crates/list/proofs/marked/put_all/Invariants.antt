-- `list::marked::put_all`: the loop's invariant is that the lines of the cells passed stand in the output, and all else is as it was.
-- Assumes nothing.
use mathlib.Core.Path.{◌≡◌}
use lib.ListN.{length}
use Rattle.rules.specs.Drum.{view}
use Rattle.octets.proofs.Joins.{Put}
use Rattle.list.specs.Marked.{lines_upto}
use Rattle.list.proofs.marked.put_all.Given as goal

abbrev pub invariant-loop-address : goal.invariant-loop-address
invariant-loop-address l = (length l.out ≡ length l.initial.out) × Put l.initial.out 0 (lines_upto (view l.drum l.marks) l.address) l.at l.out
