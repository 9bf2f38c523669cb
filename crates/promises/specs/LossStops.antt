-- What the stop 03 changes of a run: nothing with the switch on RUN, and on STOP nothing but that the run ends there. A run without this stop
-- is one by all other requests. Assumes nothing.
use Rattle.std.specs.Prelude.{ℕ, ◌+◌, ◌≡◌, true, false, Some, Ok}
use Rattle.rules.specs.Drum.{cell_at}
use Rattle.rules.specs.Machine.{Machine, Inputs, present, without_loss_stops, done}
use Rattle.rules.specs.Running.{step, RunCall, RunResult, ran, ran_by}
use Rattle.rules.specs.declared.Switches.{Switches}
use Rattle.rules.specs.declared.Stop.TheVariants.{Lost}
use Rattle.rules.specs.declared.Done.TheVariants.{GoesOn, Stops}
use Rattle.promises.specs.Calls.{run_of}

-- ---- calls

-- With the switch on RUN a run is what it is without the stop 03, in every part: of any call, one that is refused included.
abbrev pub OnRunAsBefore : Type 0
OnRunAsBefore = (c : RunCall) → c.switches.stop ≡ false → ran c ≡ ran_by (without_loss_stops present) c

-- So is a run with the switch on STOP, unless 03 ends it.
abbrev pub OnStopAsBefore : Type 0
OnStopAsBefore = (c : RunCall) → ((w : ℕ) → (ran c).ending ≡ Ok (Ok (Stops Lost w)) → ⊥) → ran c ≡ ran_by (without_loss_stops present) c

-- the switch on RUN
abbrev pub run : Switches
run = record { stop = false }

-- the same call for so many orders, and with the switch on RUN
abbrev pub for_orders : ℕ → RunCall → RunCall
for_orders n c = run_of c.drum c.marks c.deck c.out c.state n c.switches

abbrev pub on_run : RunCall → RunCall
on_run c = run_of c.drum c.marks c.deck c.out c.state c.budget run

-- all that a run told and left, but that it ended with 02
abbrev pub with_budget_used : RunResult → RunResult
with_budget_used x =
    record {
      ending = Ok (Ok GoesOn);
      count = x.count;
      written = x.written;
      state = x.state;
      drum = x.drum;
      marks = x.marks;
      out = x.out;
    }

-- What a run told and left that 03 ended, the same call for as many orders tells and leaves, with 02 in place of 03, if the switch is on RUN or
-- if there is no stop 03.
abbrev pub LossStopOnlyStops : Type 0
LossStopOnlyStops =
    (c : RunCall) (w : ℕ) → (ran c).ending ≡ Ok (Ok (Stops Lost w))
    → (ran (on_run (for_orders (ran c).count c)) ≡ with_budget_used (ran c)) × (ran_by (without_loss_stops present) (for_orders (ran c).count c) ≡ with_budget_used (ran c))

-- ---- orders

abbrev pub order_on_run : Inputs → Inputs
order_on_run i = record { deck = i.deck; room = i.room; switches = run; requests = i.requests }

-- An order that stops the run with 03 does so on STOP only; it is done on RUN too, and the run goes on with the same machine; the word shown is
-- the result, which is in cell 000 too; and the next order is the one behind.
pub record StoppedByLoss (i : Inputs) (m : Machine) (w : ℕ) : Type 0 where
  pub on_stop : i.switches.stop ≡ true
  pub leaves : step (order_on_run i) m ≡ done (step i m).machine
  pub shown : cell_at (step i m).machine.cells 0 ≡ Some w
  pub following : (step i m).machine.state.location ≡ m.state.location + 1

abbrev pub LossStopLeavesResult : Type 0
LossStopLeavesResult = (i : Inputs) (m : Machine) (w : ℕ) → (step i m).outcome ≡ Ok (Stops Lost w) → StoppedByLoss i m w
