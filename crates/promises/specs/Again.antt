-- What a run leaves for the next one: the next is not refused at its entry, and after a refused order or the stop 00 it begins with the
-- same order. Assumes nothing.
use Rattle.std.specs.Prelude.{ℕ, ◌+◌, ◌≤◌, ◌≡◌, List, true, Ok}
use Rattle.rules.specs.Numbers.{completed, tries_again}
use Rattle.rules.specs.Machine.{Machine}
use Rattle.rules.specs.Running.{step, RunCall, RunResult, begun, inputs, ran}
use Rattle.rules.specs.Answers.{Outcome}
use Rattle.rules.specs.declared.Switches.{Switches}
use Rattle.promises.specs.Calls.{run_of}
use Rattle.promises.specs.Undone.{AsBefore}
use Rattle.promises.specs.Counting.{Steps}

-- A call with the drum, marks and state that a run of c left, and c's deck; output, budget and switches are its own.
abbrev pub following : RunCall → RunResult → List ℕ → ℕ → Switches → RunCall
following c x out budget switches = run_of x.drum x.marks c.deck out x.state budget switches

abbrev pub again : RunCall → List ℕ → ℕ → Switches → RunCall
again c out budget switches = following c (ran c) out budget switches

-- Behind a run that was not refused at its entry, no run is, whatever the first one ended with: 02 may go on later.
abbrev pub MayGoOnLater : Type 0
MayGoOnLater =
    (c : RunCall) (o : Outcome) → (ran c).ending ≡ Ok o → (out : List ℕ) (budget : ℕ) (switches : Switches) → budget ≤ 999999
    → (p : Outcome) × ((ran (again c out budget switches)).ending ≡ Ok p)

-- so many steps of c come to an order that ended its run, and the machine with which the next run begins is the one in front of that order
pub record MetAgain (c : RunCall) (o : Outcome) (next : RunCall) : Type 0 where
  pub steps : ℕ
  pub front : Machine
  pub comes : Steps (inputs c) steps (begun c) front
  pub ends : (step (inputs c) front).outcome ≡ o
  pub counted : (ran c).count ≡ steps + completed o
  pub met : AsBefore front (begun next)

-- Behind a run that a refusal or the stop 00 ended, the next run begins with the order that ended it.
abbrev pub SameOrderNextRun : Type 0
SameOrderNextRun =
    (c : RunCall) (o : Outcome) → (ran c).ending ≡ Ok o → tries_again o ≡ true → (out : List ℕ) (budget : ℕ) (switches : Switches)
    → MetAgain c o (again c out budget switches)
