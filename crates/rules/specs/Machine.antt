-- The machine between two orders: its cells, the bytes written so far and its state; what a call lends it; and what an order makes of
-- it. Assumes nothing.
use Rattle.std.specs.Prelude.{ℕ, ◌+◌, ◌%◌, List, [], ◌∷◌, ◌++◌, Bool, true, false, eqb, get_or, Ok, Err}
use Rattle.rules.specs.Drum.{store}
use Rattle.rules.specs.Answers.{Cell, Outcome}
use Rattle.rules.specs.declared.State.{State}
use Rattle.rules.specs.declared.Switches.{Switches}
use Rattle.rules.specs.declared.Refusal.{Refusal}
use Rattle.rules.specs.declared.Done.TheVariants.{GoesOn}

pub record Machine : Type 0 where
  pub cells : List Cell
  pub sent : List ℕ
  pub state : State

-- Which requests after the base a run goes by: whether a sum that has lost its digits may stop it, and whether sums of addresses carry. A run
-- goes by all of them; the base, and all but one of them, are there so that runs can be held against each other. A request that builds what was
-- refused before has no field.
pub record Requests : Type 0 where
  pub loss_stops : Bool
  pub sums_carry : Bool

abbrev pub present : Requests
present = record { loss_stops = true; sums_carry = true }

abbrev pub base : Requests
base = record { loss_stops = false; sums_carry = false }

-- the same requests without one of them
abbrev pub without_loss_stops : Requests → Requests
without_loss_stops q = record { loss_stops = false; sums_carry = q.sums_carry }

abbrev pub without_carries : Requests → Requests
without_carries q = record { loss_stops = q.loss_stops; sums_carry = false }

-- what a run is lent beside the machine: the deck, the room for cards, and the console's switches; and the requests that it goes by
pub record Inputs : Type 0 where
  pub deck : List ℕ
  pub room : ℕ
  pub switches : Switches
  pub requests : Requests

pub record Answer : Type 0 where
  pub outcome : Outcome
  pub machine : Machine

-- One change of the state each. The orders use nothing else.
abbrev pub went_to : State → ℕ → State
went_to s l =
    record {
      location = l;
      counts = s.counts;
      counter = s.counter;
      problem = s.problem;
      reader = s.reader;
      mode = s.mode;
      tracing = s.tracing;
    }

-- the loop box; its counts belong to the addresses A, B and C
abbrev pub counting : State → List ℕ → State
counting s box =
    record {
      location = s.location;
      counts = box;
      counter = s.counter;
      problem = s.problem;
      reader = s.reader;
      mode = s.mode;
      tracing = s.tracing;
    }

abbrev pub count_a : State → ℕ
count_a s = get_or s.counts 0 0

abbrev pub count_b : State → ℕ
count_b s = get_or s.counts 1 0

abbrev pub count_c : State → ℕ
count_c s = get_or s.counts 2 0

abbrev pub clear_box : List ℕ
clear_box = 0 ∷ 0 ∷ 0 ∷ []

-- the card counter rises by one; after 9999 comes 0000
abbrev pub numbered : State → State
numbered s =
    record {
      location = s.location;
      counts = s.counts;
      counter = (s.counter + 1) % 10000;
      problem = s.problem;
      reader = s.reader;
      mode = s.mode;
      tracing = s.tracing;
    }

abbrev pub read_to : State → ℕ → State
read_to s r =
    record {
      location = s.location;
      counts = s.counts;
      counter = s.counter;
      problem = s.problem;
      reader = r;
      mode = s.mode;
      tracing = s.tracing;
    }

abbrev pub tracing_set : State → ℕ → State
tracing_set s t =
    record {
      location = s.location;
      counts = s.counts;
      counter = s.counter;
      problem = s.problem;
      reader = s.reader;
      mode = s.mode;
      tracing = t;
    }

abbrev pub is_traced : State → Bool
is_traced s = eqb s.mode 1

abbrev pub is_tracing : State → Bool
is_tracing s = eqb s.tracing 1

-- the machine with another state, with a word stored, with a card written
abbrev pub with_state : Machine → State → Machine
with_state m s = record { cells = m.cells; sent = m.sent; state = s }

abbrev pub stored : Machine → ℕ → ℕ → Machine
stored m a w = record { cells = store m.cells a w; sent = m.sent; state = m.state }

abbrev pub sending : Machine → List ℕ → Machine
sending m card = record { cells = m.cells; sent = m.sent ++ card; state = m.state }

-- the next order is the one at C, or the one behind this
abbrev pub going_to : Machine → ℕ → Machine
going_to m c = with_state m (went_to m.state c)

abbrev pub onward : Machine → Machine
onward m = going_to m (m.state.location + 1)

-- the order is done and the run goes on; the order is refused, and nothing of it is left
abbrev pub done : Machine → Answer
done m = record { outcome = Ok GoesOn; machine = m }

abbrev pub undone : Refusal → Machine → Answer
undone r m = record { outcome = Err r; machine = m }

abbrev pub stops : Outcome → Machine → Answer
stops o m = record { outcome = o; machine = m }
