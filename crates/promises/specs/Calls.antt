-- Any number of calls of load, run and make, one after another on one drum: what each tells its caller, and what drum, marks and state
-- are after the last. Assumes nothing.
use Rattle.std.specs.Prelude.{ℕ, List, [], ◌∷◌, Bool}
use Rattle.rules.specs.Running.{RunCall, RunResult, ran}
use Rattle.rules.specs.Loads.{LoadCall, LoadResult, loaded}
use Rattle.rules.specs.Making.{MakeCall, MakeResult, made}
use Rattle.rules.specs.Answers.{Ending, Loading, Making}
use Rattle.rules.specs.declared.State.{State}
use Rattle.rules.specs.declared.Switches.{Switches}

-- the state that a call begins with: the one that the call before it left, or any other
pub data Start : Type 0 where
  handed_on : Start
  given : State → Start

abbrev pub start_of : Start → State → State
start_of handed_on s = s
start_of (given t) s = t

-- the problem number that a deck is made with: that of the state, or any other
pub data Posed : Type 0 where
  own_problem : Posed
  posed_as : ℕ → Posed

abbrev pub problem_of : Posed → State → ℕ
problem_of own_problem s = s.problem
problem_of (posed_as n) s = n

-- what the caller brings: to a load the deck and the mode, to a run the deck, the output, the budget and the switches, to a make the
-- output, the first order and the problem number
pub data Call : Type 0 where
  load : Start → List ℕ → Bool → Call
  run : Start → List ℕ → List ℕ → ℕ → Switches → Call
  make : List ℕ → ℕ → Posed → Call

-- a call of each, by its drum, marks, deck and what else is lent and given
abbrev pub load_of : List ℕ → List ℕ → List ℕ → State → Bool → LoadCall
load_of drum marks deck s traced = record { drum = drum; marks = marks; deck = deck; state = s; traced = traced }

abbrev pub run_of : List ℕ → List ℕ → List ℕ → List ℕ → State → ℕ → Switches → RunCall
run_of drum marks deck out s budget switches =
    record { drum = drum; marks = marks; out = out; deck = deck; state = s; budget = budget; switches = switches }

abbrev pub make_of : List ℕ → List ℕ → List ℕ → ℕ → ℕ → MakeCall
make_of drum marks out order problem = record { drum = drum; marks = marks; out = out; order = order; problem = problem }

pub data Answered : Type 0 where
  of_load : Loading → Answered
  of_run : Ending → ℕ → ℕ → Answered
  of_make : Making → Answered

-- what a call tells: its answer with count and bytes written, the state, the marks and the whole output. All but the drum.
pub record Told : Type 0 where
  pub answer : Answered
  pub state : State
  pub marks : List ℕ
  pub out : List ℕ

pub record Called : Type 0 where
  pub told : Told
  pub drum : List ℕ

abbrev pub after_load : LoadResult → Called
after_load x = record { told = record { answer = of_load x.loading; state = x.state; marks = x.marks; out = [] }; drum = x.drum }

abbrev pub after_run : RunResult → Called
after_run x =
    record {
      told = record { answer = of_run x.ending x.count x.written; state = x.state; marks = x.marks; out = x.out };
      drum = x.drum;
    }

-- drum, marks and state are as they were
abbrev pub after_make : List ℕ → List ℕ → State → MakeResult → Called
after_make drum marks s x = record { told = record { answer = of_make x.making; state = s; marks = marks; out = x.out }; drum = drum }

abbrev pub called : Call → List ℕ → List ℕ → State → Called
called (load st deck traced) drum marks s = after_load (loaded (load_of drum marks deck (start_of st s) traced))
called (run st deck out budget switches) drum marks s = after_run (ran (run_of drum marks deck out (start_of st s) budget switches))
called (make out order posed) drum marks s = after_make drum marks s (made (make_of drum marks out order (problem_of posed s)))

-- the whole list of calls
pub record History : Type 0 where
  pub tolds : List Told
  pub state : State
  pub marks : List ℕ
  pub drum : List ℕ

unfoldable pub history : List Call → List ℕ → List ℕ → State → History
history [] drum marks s = record { tolds = []; state = s; marks = marks; drum = drum }
history (c ∷ cs) drum marks s =
    let x = called c drum marks s in
    let h = history cs x.drum x.told.marks x.told.state in
    record { tolds = x.told ∷ h.tolds; state = h.state; marks = h.marks; drum = h.drum }
