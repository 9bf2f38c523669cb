-- Room after room: a run that ends with 22 goes on in the next room with what is left of its budget. It comes to what one run in one large
-- room comes to. Assumes nothing.
use Rattle.std.specs.Prelude.{ℕ, ◌+◌, ◌-◌, ◌*◌, ◌≤◌, ◌≡◌, List, [], ◌∷◌, ◌++◌, Bool, true, false, eqb, length, take}
use Rattle.rules.specs.Numbers.{ending_number, refusal_number}
use Rattle.rules.specs.Running.{RunCall, RunResult, ran}
use Rattle.rules.specs.Answers.{Ending}
use Rattle.rules.specs.declared.State.{State}
use Rattle.rules.specs.declared.Refusal.TheVariants.{NoRoom}
use Rattle.promises.specs.Calls.{run_of}
use Rattle.promises.specs.Again.{again}

-- it ended with 22
abbrev pub is_full : Ending → Bool
is_full e = eqb (ending_number e) (refusal_number NoRoom)

-- what runs came to: all that they told, with their cards, and what they left
pub record Came : Type 0 where
  pub ending : Ending
  pub count : ℕ
  pub cards : List ℕ
  pub state : State
  pub drum : List ℕ
  pub marks : List ℕ

-- the bytes that a run wrote
abbrev pub cards_of : RunResult → List ℕ
cards_of x = take x.written x.out

-- one run
abbrev pub came_to : RunResult → Came
came_to x = record { ending = x.ending; count = x.count; cards = cards_of x; state = x.state; drum = x.drum; marks = x.marks }

-- a run, and what those came to that went on from it: its cards are the first, and its orders are counted
abbrev pub joined : RunResult → Came → Came
joined x y =
    record {
      ending = y.ending;
      count = x.count + y.count;
      cards = cards_of x ++ y.cards;
      state = y.state;
      drum = y.drum;
      marks = y.marks;
    }

-- the same call with another output
abbrev pub within : RunCall → List ℕ → RunCall
within c out = run_of c.drum c.marks c.deck out c.state c.budget c.switches

-- The call c; and where it ends with 22, the call behind it in the next of these rooms, with the rest of its budget. The rooms are of any
-- lengths.
unfoldable pub room_after_room : List (List ℕ) → RunCall → Came
room_after_room [] c = came_to (ran c)
room_after_room (out ∷ outs) c =
    let x = ran c in
    elim (is_full x.ending) [
      | true ↦ joined x (room_after_room outs (again c out (c.budget - x.count) c.switches))
      | false ↦ came_to x
    ]

-- Where neither ends with 22, runs in one room after another come to what one run in one room comes to: the same ending, the same cards,
-- the whole count, the same state, drum and marks.
abbrev pub OneLargeRoom : Type 0
OneLargeRoom =
    (c : RunCall) (outs : List (List ℕ)) (whole : List ℕ) → is_full (room_after_room outs c).ending ≡ false
    → is_full (ran (within c whole)).ending ≡ false → room_after_room outs c ≡ came_to (ran (within c whole))

-- the most bytes that one order writes: PCH of the cells 1 to 999, 200 cards
abbrev pub most_sent : ℕ
most_sent = 13189

-- One room is large enough if it holds that much for each order of the budget.
abbrev pub LargeEnough : Type 0
LargeEnough = (c : RunCall) → most_sent * c.budget ≤ length c.out → is_full (ran c).ending ≡ false

-- each room holds what any one order writes
pub data Roomy : List (List ℕ) → Type 0 where
  none : Roomy []
  more : (out : List ℕ) (outs : List (List ℕ)) → most_sent ≤ length out → Roomy outs → Roomy (out ∷ outs)

-- In such rooms, if they are as many as the orders of the budget, runs one after another do not end with 22.
abbrev pub NeverFull : Type 0
NeverFull =
    (c : RunCall) (outs : List (List ℕ)) → most_sent ≤ length c.out → Roomy outs → c.budget ≤ length outs
    → is_full (room_after_room outs c).ending ≡ false
