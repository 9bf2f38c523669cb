-- `machine::moving::move_words`: before each turn i words are moved. Assumes nothing.
use mathlib.Core.Path.{◌≡◌}
use Prim.Native.Nat.{◌-◌, ◌≤◌}
use lib.ListN.{length}
use Rattle.machine.proofs.Moves.{Moving}
use Rattle.machine.proofs.moving.move_words.Given as goal

abbrev pub invariant-loop-i : goal.invariant-loop-i
invariant-loop-i l = (l.i ≤ l.n) × (length l.drum ≡ length l.initial.drum) × (length l.marks ≡ length l.initial.marks) × Moving l.initial.drum l.initial.marks l.b l.c l.n l.drum l.marks l.i

abbrev pub decreases-loop-i : goal.decreases-loop-i
decreases-loop-i l = l.n - l.i
