-- Block moves and address tests on a few cells, computed on the definitions, at the edges of what they are: what is judged, what is moved,
-- where a test goes. A check in another order, an address too far, a word read after it was stored over break one of them. Assumes nothing.
use Rattle.std.proofs.Common.{None, Some}
use Prim.Native.Nat.{ℕ}
use mathlib.Core.Path.{◌≡◌, refl}
use mathlib.Core.List.{List, [], ◌∷◌}
use mathlib.Core.Bool.{false}
use Rattle.rules.specs.Codes
use Rattle.rules.specs.Codes.{checked}
use Rattle.rules.specs.Machine.{Machine, Answer, present}
use Rattle.rules.specs.Numbers.{outcome_number}
use Rattle.rules.specs.Orders
use Rattle.rules.specs.Running
use Rattle.rules.specs.Running.{step}
use Rattle.rules.specs.Answers.{Cell}

-- what one sees behind an order: the number (02: the run goes on), the next order's location, and the cells
pub record Seen : Type 0 where
  pub number : ℕ
  pub location : ℕ
  pub cells : List Cell

abbrev pub seen_in : Answer → Seen
seen_in x = record { number = outcome_number x.outcome; location = x.machine.state.location; cells = x.machine.cells }

-- The order w stands in 001, behind it minus zero, a word that is no number, two words more, and a cell that is not owned. The box has a count
-- for A, so that a minus order gets it.
abbrev pub cells_with : ℕ → List Cell
cells_with w = Some 7000000050 ∷ Some w ∷ Some 10000000000 ∷ Some 0000000005 ∷ Some 6006005004 ∷ Some 2000000050 ∷ None ∷ []

abbrev pub machine_of : ℕ → Machine
machine_of w =
    record {
      cells = cells_with w;
      sent = [];
      state = record { location = 1; counts = 2 ∷ 0 ∷ 0 ∷ []; counter = 0; problem = 0; reader = 0; mode = 0; tracing = 0 };
    }

abbrev pub does : ℕ → Seen
does w = seen_in (step (record { deck = []; room = 0; switches = record { stop = false }; requests = present }) (machine_of w))

-- it is refused with this number, and nothing is changed
abbrev pub Refuses : ℕ → ℕ → Type 0
Refuses w n = does w ≡ record { number = n; location = 1; cells = cells_with w }

-- it goes to l, and nothing else is changed
abbrev pub Goes : ℕ → ℕ → Type 0
Goes w l = does w ≡ record { number = 2; location = l; cells = cells_with w }

-- the next order is in 002, and the cells behind the order are these
abbrev pub Moves : ℕ → List Cell → Type 0
Moves w v = does w ≡ record { number = 2; location = 2; cells = Some 7000000050 ∷ Some w ∷ v }

pub record BlocksMoved : Type 0 where
  -- three words up by one, into the cell that is not owned by two, and down by one
  pub up : Moves 9003002003 (Some 10000000000 ∷ Some 10000000000 ∷ Some 0000000005 ∷ Some 6006005004 ∷ None ∷ [])
  pub up_two : Moves 9003003004 (Some 10000000000 ∷ Some 0000000005 ∷ Some 0000000005 ∷ Some 6006005004 ∷ Some 2000000050 ∷ [])
  pub down : Moves 9003003002 (Some 0000000005 ∷ Some 6006005004 ∷ Some 2000000050 ∷ Some 2000000050 ∷ None ∷ [])
  -- one word, and a block onto itself
  pub one : Moves 9001002006 (Some 10000000000 ∷ Some 0000000005 ∷ Some 6006005004 ∷ Some 2000000050 ∷ Some 10000000000 ∷ [])
  pub itself : Moves 9004002002 (Some 10000000000 ∷ Some 0000000005 ∷ Some 6006005004 ∷ Some 2000000050 ∷ None ∷ [])
  -- a minus order of MOVE 000 is made a block move of two words by the box
  pub by_the_box : Moves 19000002004 (Some 10000000000 ∷ Some 0000000005 ∷ Some 10000000000 ∷ Some 0000000005 ∷ None ∷ [])
  -- from 000 and to 000, past 999 by either block: 20, though the first source cell may not be owned; the last cell may be 999
  pub from_000 : Refuses 9001000002 20
  pub to_000 : Refuses 9001002000 20
  pub source_past_999 : Refuses 9002999002 20
  pub destination_past_999 : Refuses 9002002999 20
  pub both_tell : Refuses 9002006999 20
  pub source_at_999 : Refuses 9002998002 21
  pub longest : Refuses 9999001001 21
  pub longer : Refuses 9999001002 20
  -- a source cell that is not owned: the only one, and the last
  pub foreign : Refuses 9001006002 21
  pub foreign_last : Refuses 9003004002 21

pub record AddressesTested : Type 0 where
  -- the word in 004 has the addresses 006, 005 and 004; equal goes on, unequal to C
  pub a_equal : Goes 6004006009 2
  pub a_unequal : Goes 6004005009 9
  pub b_equal : Goes 7004005009 2
  pub b_unequal : Goes 7004006009 9
  pub c_equal : Goes 8004004009 2
  pub c_unequal : Goes 8004005009 9
  -- its own cell; a word with a minus; the cell A of a minus order, by the box
  pub itself : Goes 6001001000 2
  pub minus_zero : Goes 8002000009 2
  pub by_the_box : Goes 16002006009 2
  -- A 000 is 20, though cell 000 is owned; a cell that is not owned is 21
  pub zero : Refuses 6000000009 20
  pub foreign : Refuses 7006000009 21

pub blocks_moved : BlocksMoved
unfolding Codes.codes Codes.lookup Codes.code_in Codes.owned_from Codes.checked Orders.words_from Orders.stored_from Orders.performed Running.obeyed Running.traced Running.fetched Running.step
blocks_moved =
    record {
      up = refl;
      up_two = refl;
      down = refl;
      one = refl;
      itself = refl;
      by_the_box = refl;
      from_000 = refl;
      to_000 = refl;
      source_past_999 = refl;
      destination_past_999 = refl;
      both_tell = refl;
      source_at_999 = refl;
      longest = refl;
      longer = refl;
      foreign = refl;
      foreign_last = refl;
    }

pub addresses_tested : AddressesTested
unfolding Codes.codes Codes.lookup Codes.code_in Codes.owned_from Codes.checked Orders.performed Running.obeyed Running.traced Running.fetched Running.step
addresses_tested =
    record {
      a_equal = refl;
      a_unequal = refl;
      b_equal = refl;
      b_unequal = refl;
      c_equal = refl;
      c_unequal = refl;
      itself = refl;
      minus_zero = refl;
      by_the_box = refl;
      zero = refl;
      foreign = refl;
    }
