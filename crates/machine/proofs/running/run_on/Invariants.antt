use Prim.Native.Nat.{◌-◌, ◌≤◌}
use mathlib.Core.Path.{◌≡◌}
use lib.Dec.{eqb}
use Rattle.rules.specs.Machine.{Machine}
use Rattle.rules.specs.Running.{RunCall, run_from, inputs}
use Rattle.codes.specs.Slots.{Indexed}
use Rattle.machine.specs.Lent.{Shows, call_of, run_of}
use Rattle.machine.proofs.running.run_on.Given as goal

abbrev pub invariant-loop-count : goal.invariant-loop-count
invariant-loop-count l =
    Indexed (eqb (l.desk.state.mode) 1) l.given.index.now
    × (let x : RunCall = call_of l.initial.drum l.initial.marks l.initial.out l.deck l.initial.desk.state l.budget l.given.switches in
    (m : Machine) × Shows l.initial.drum l.initial.out l.drum l.marks l.out l.desk m × (l.count ≤ l.budget)
    × (run_from (inputs x) (l.budget - l.count) m l.count ≡ run_of x))

abbrev pub decreases-loop-count : goal.decreases-loop-count
decreases-loop-count l = l.budget - l.count
