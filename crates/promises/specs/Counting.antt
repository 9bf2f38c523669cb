-- The count of a run is the number of the definition's steps that completed their order, and the run is these steps, one after
-- another. Assumes nothing.
use Rattle.std.specs.Prelude.{ℕ, zero, suc, ◌+◌, ◌<◌, ◌≡◌, false, Ok}
use Rattle.rules.specs.Numbers.{completed, may_go_on}
use Rattle.rules.specs.Machine.{Machine, Inputs}
use Rattle.rules.specs.Running.{Course, step, run_from, RunCall, ran}
use Rattle.rules.specs.Answers.{Outcome}
use Rattle.rules.specs.declared.Done.TheVariants.{GoesOn}

-- k steps from m to u, after each of which the run could go on
pub data Steps (i : Inputs) : ℕ → Machine → Machine → Type 0 where
  none : (m : Machine) → Steps i zero m m
  next : (k : ℕ) (m u : Machine) → (step i m).outcome ≡ (Ok GoesOn) → Steps i k (step i m).machine u → Steps i (suc k) m u

-- how a run of at most so many orders from m comes to x
pub data Comes (i : Inputs) (budget : ℕ) (m : Machine) (x : Course) : Type 0 where
  used_up : Steps i budget m x.machine → x.outcome ≡ (Ok GoesOn) → x.count ≡ budget → Comes i budget m x
  ended :
      (k : ℕ) (u : Machine) → k < budget → Steps i k m u → x.outcome ≡ (step i u).outcome → x.machine ≡ (step i u).machine
      → may_go_on x.outcome ≡ false → x.count ≡ k + completed x.outcome → Comes i budget m x

-- A run either makes all the steps of its budget, or ends with the first after which it cannot go on; the count is that of the orders
-- completed.
abbrev pub CountIsSteps : Type 0
CountIsSteps = (i : Inputs) (budget : ℕ) (m : Machine) → Comes i budget m (run_from i budget m 0)

-- With budget 0, a run that is not refused at its entry answers 02, and nothing is done.
abbrev pub ZeroBudgetDoesNothing : Type 0
ZeroBudgetDoesNothing =
    (c : RunCall) (o : Outcome) → c.budget ≡ 0 → (ran c).ending ≡ Ok o
    → ran c
    ≡ record { ending = Ok (Ok GoesOn); count = 0; written = 0; state = c.state; drum = c.drum; marks = c.marks; out = c.out }
