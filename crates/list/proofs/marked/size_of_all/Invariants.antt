-- `list::marked::size_of_all`: the loop's invariant is the length of the lines of the cells passed. Assumes nothing.
use mathlib.Core.Path.{◌≡◌}
use lib.ListN.{length}
use Rattle.rules.specs.Drum.{view}
use Rattle.list.specs.Marked.{lines_upto}
use Rattle.list.proofs.marked.size_of_all.Given as goal

abbrev pub invariant-loop-a : goal.invariant-loop-a
invariant-loop-a l = l.n ≡ length (lines_upto (view l.drum l.marks) l.a)
