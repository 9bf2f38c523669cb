-- What refusals leave: a refused order is undone but for its trace card, and a call that is refused at its entry changes nothing.
-- Assumes nothing.
use Rattle.std.specs.Prelude.{ℕ, ◌≡◌, true, Err}
use Rattle.rules.specs.Numbers.{tries_again}
use Rattle.rules.specs.Drum.{cell_at}
use Rattle.rules.specs.Machine.{Machine, Inputs}
use Rattle.rules.specs.Running.{as_done, step, Left, RunCall, not_run, ran}
use Rattle.rules.specs.Loads.{LoadCall, not_loaded, loaded}
use Rattle.rules.specs.declared.Refusal.{Refusal}
use Rattle.rules.specs.declared.Bar.{Bar}

-- cells (and so marks), loop box, reader, location, problem number, mode and tracing are as they were; and so the order that comes next
-- is the same one, and is done the same
pub record AsBefore (m u : Machine) : Type 0 where
  pub cells_same : u.cells ≡ m.cells
  pub counts_same : u.state.counts ≡ m.state.counts
  pub reader_same : u.state.reader ≡ m.state.reader
  pub location_same : u.state.location ≡ m.state.location
  pub problem_same : u.state.problem ≡ m.state.problem
  pub mode_same : u.state.mode ≡ m.state.mode
  pub tracing_same : u.state.tracing ≡ m.state.tracing
  pub order_same : cell_at u.cells u.state.location ≡ cell_at m.cells m.state.location
  pub done_same : (w : ℕ) → as_done u.state w ≡ as_done m.state w

-- A refused order leaves the machine as it found it; cards and counter too, but for the order's own trace card.
abbrev pub RefusalUndone : Type 0
RefusalUndone =
    (i : Inputs) (m : Machine) (r : Refusal) → (step i m).outcome ≡ Err r → AsBefore m (step i m).machine × Left m (step i m).machine

-- Running again after a refusal or after the stop 00 tries the same order.
abbrev pub SameOrderAgain : Type 0
SameOrderAgain = (i : Inputs) (m : Machine) → tries_again (step i m).outcome ≡ true → AsBefore m (step i m).machine

-- A load that is refused changes nothing.
abbrev pub RefusedLoadChangesNothing : Type 0
RefusedLoadChangesNothing = (c : LoadCall) (b : Bar) → (loaded c).loading ≡ Err b → loaded c ≡ not_loaded c b

-- A run that is refused at its entry changes nothing, counts nothing and writes nothing.
abbrev pub RefusedRunChangesNothing : Type 0
RefusedRunChangesNothing = (c : RunCall) (b : Bar) → (ran c).ending ≡ Err b → ran c ≡ not_run c b
