-- `l1::sessions::go_on` ends: each room takes some of the budget. The loop's invariant: what is left to do in empty rooms is the whole.
-- Assumes nothing.
use Prim.Native.Nat.{ℕ, ◌+◌, ◌≤◌}
use mathlib.Core.Path.{◌≡◌}
use lib.ListN.{length}
use Rattle.machine.specs.Lent.{call_of}
use Rattle.l1.specs.Going.{gone_on}
use Rattle.l1.proofs.sessions.go_on.Given as goal

abbrev pub invariant-loop-switches : goal.invariant-loop-switches
invariant-loop-switches g l =
    (f : ℕ) × (l.left ≤ f) × (l.count + l.left ≡ l.budget) × (length l.drum ≡ length l.initial.drum) × (length l.marks ≡ length l.initial.marks) × (length l.out ≡ length l.initial.out)
    × (gone_on f (call_of l.drum l.marks l.out l.deck l.st l.left l.switches) l.count ≡ gone_on l.budget (call_of l.initial.drum l.initial.marks l.initial.out l.deck l.initial.st l.budget l.switches) 0)

abbrev pub decreases-loop-switches : goal.decreases-loop-switches
decreases-loop-switches g l = l.left
