-- That the lent runs show a machine of the rules: drum and marks hold its cells, the output is the bytes written over some old output, and
-- the desk has its state and how many bytes are written. The contracts inside this crate are said through it, each for any old drum,
-- any old output and any machine, so that they chain. Assumes nothing.
use Rattle.std.specs.Prelude.{ℕ, ◌+◌, ◌≤◌, ◌≡◌, List, length, Ok, Err}
use Rattle.rules.specs.Machine.{Machine, Inputs, Answer, present, went_to}
use Rattle.rules.specs.Orders.{tracing_to}
use Rattle.rules.specs.Running.{over, Course, RunCall, RunResult, begun, inputs, run_from}
use Rattle.rules.specs.Loads.{LoadResult}
use Rattle.rules.specs.Answers.{Outcome}
use Rattle.rules.specs.declared.State.{State}
use Rattle.rules.specs.declared.Switches.{Switches}
use Rattle.rules.specs.declared.Bar.{Bar}
use Rattle.drum.specs.Held.{Holds}
use Rattle.machine.specs.declared.desk.Desk.{Desk}
use Rattle.machine.specs.declared.Ran.{Ran}
use Rattle.machine.specs.declared.Loaded.{Loaded}

-- ---- the lent runs

-- only the location has changed, and is l
abbrev pub Went : Desk → ℕ → Desk → Type 0
Went desk l desk' = (desk'.state ≡ went_to desk.state l) × (desk'.written ≡ desk.written)

-- what is on the desk after an order that turns tracing: on to the next order, and in traced mode tracing is t
abbrev pub Turned : Desk → ℕ → Desk → Type 0
Turned desk t desk' =
    (desk'.state ≡ went_to (tracing_to desk.state t) ((tracing_to desk.state t).location + 1)) × (desk'.written ≡ desk.written)

-- the output, by the bytes written
pub record Wrote (out₀ out sent : List ℕ) : Type 0 where
  pub out_is : out ≡ over sent out₀
  pub fits : length sent ≤ length out₀

pub record Shows (drum₀ out₀ drum marks out : List ℕ) (desk : Desk) (m : Machine) : Type 0 where
  pub memory : Holds drum₀ drum marks m.cells
  pub output : Wrote out₀ out m.sent
  pub state_is : desk.state ≡ m.state
  pub written_is : desk.written ≡ length m.sent

-- ---- what an order makes of them

-- an order came out as the rules say
pub record Did (drum₀ out₀ drum marks out : List ℕ) (desk : Desk) (r : Outcome) (x : Answer) : Type 0 where
  pub outcome_is : r ≡ x.outcome
  pub shows : Shows drum₀ out₀ drum marks out desk x.machine

-- of any machine that the lent runs showed, the order makes what f says; for one that looks at the room
abbrev pub Does : Inputs → (drum marks out : List ℕ) → Desk → (drum' marks' out' : List ℕ) → Desk → Outcome → (Machine → Answer) → Type 0
Does i drum marks out desk drum' marks' out' desk' r f =
    (drum₀ out₀ : List ℕ) (m : Machine) → length out₀ ≡ i.room → Shows drum₀ out₀ drum marks out desk m
    → Did drum₀ out₀ drum' marks' out' desk' r (f m)

-- the same for one that has nothing to do with the output
abbrev pub DoesQuietly : (drum marks : List ℕ) → Desk → (drum' marks' : List ℕ) → Desk → Outcome → (Machine → Answer) → Type 0
DoesQuietly drum marks desk drum' marks' desk' r f =
    (drum₀ out₀ out : List ℕ) (m : Machine) → Shows drum₀ out₀ drum marks out desk m → Did drum₀ out₀ drum' marks' out desk' r (f m)

-- of any machine that the lent runs showed, they now show what f makes of it
abbrev pub Sends : (drum marks out : List ℕ) → Desk → (out' : List ℕ) → Desk → (Machine → Machine) → Type 0
Sends drum marks out desk out' desk' f =
    (drum₀ out₀ : List ℕ) (m : Machine) → Shows drum₀ out₀ drum marks out desk m → Shows drum₀ out₀ drum marks out' desk' (f m)

-- what a call lends beside the runs: the one place where an input is told by its parts
pub record Lends (deck : List ℕ) (switches : Switches) (i : Inputs) : Type 0 where
  pub deck_is : i.deck ≡ deck
  pub switches_are : i.switches ≡ switches
  pub requests_are : i.requests ≡ present

-- a run ended as the rules say
pub record Ended (drum₀ out₀ drum marks out : List ℕ) (r : Ran) (x : Course) : Type 0 where
  pub ending_is : r.ending ≡ Ok x.outcome
  pub count_is : r.count ≡ x.count
  pub written_is : r.written ≡ length x.machine.sent
  pub state_is : r.state ≡ x.machine.state
  pub memory : Holds drum₀ drum marks x.machine.cells
  pub output : Wrote out₀ out x.machine.sent

-- what a run came to, by its last outcome and what is on the desk; and one that was refused at its entry
abbrev pub ended_as : Outcome → ℕ → Desk → Ran
ended_as o count desk = record { ending = Ok o; count = count; written = desk.written; state = desk.state }

abbrev pub barred_as : Bar → State → Ran
barred_as b s = record { ending = Err b; count = 0; written = 0; state = s }

-- a call by what it is lent and given, and the whole run of it
abbrev pub call_of : (drum marks out deck : List ℕ) → State → ℕ → Switches → RunCall
call_of drum marks out deck s budget switches =
    record { drum = drum; marks = marks; out = out; deck = deck; state = s; budget = budget; switches = switches }

abbrev pub run_of : RunCall → Course
run_of c = run_from (inputs c) c.budget (begun c) 0

-- ---- what the two public functions say: every part of the answer and of what was lent

pub record RunRight (x : RunResult) (drum marks out : List ℕ) (r : Ran) : Type 0 where
  pub ending_is : r.ending ≡ x.ending
  pub count_is : r.count ≡ x.count
  pub written_is : r.written ≡ x.written
  pub state_is : r.state ≡ x.state
  pub drum_is : drum ≡ x.drum
  pub marks_are : marks ≡ x.marks
  pub out_is : out ≡ x.out

pub record LoadRight (x : LoadResult) (drum marks : List ℕ) (r : Loaded) : Type 0 where
  pub loading_is : r.loading ≡ x.loading
  pub state_is : r.state ≡ x.state
  pub drum_is : drum ≡ x.drum
  pub marks_are : marks ≡ x.marks
