-- Address changes on a few cells, computed on the definitions, at the edges of what they are: how far a sum carries, which sign it leaves, what
-- the ten digits do not hold, which refusal comes first; and what the base makes of the same. Assumes nothing.
use Rattle.std.proofs.Common.{None, Some}
use Prim.Native.Nat.{ℕ}
use mathlib.Core.Path.{◌≡◌, refl}
use mathlib.Core.List.{List, [], ◌∷◌}
use mathlib.Core.Bool.{false}
use Rattle.rules.specs.Codes
use Rattle.rules.specs.Machine.{Machine, Requests, present, without_carries}
use Rattle.rules.specs.Orders
use Rattle.rules.specs.Running
use Rattle.rules.specs.Running.{step}
use Rattle.rules.specs.Answers.{Cell}
use Rattle.rules.proofs.MovedBlocks.{Seen, seen_in}

-- The order w stands in 001, the word y in 002, and 003 is not owned. The box has counts for B and C, so that a minus order gets them.
abbrev pub cells_with : ℕ → ℕ → List Cell
cells_with w y = Some 0000000005 ∷ Some w ∷ Some y ∷ None ∷ []

abbrev pub machine_of : ℕ → ℕ → Machine
machine_of w y =
    record {
      cells = cells_with w y;
      sent = [];
      state = record { location = 1; counts = 0 ∷ 2 ∷ 1 ∷ []; counter = 0; problem = 0; reader = 0; mode = 0; tracing = 0 };
    }

abbrev pub does : Requests → ℕ → ℕ → Seen
does q w y = seen_in (step (record { deck = []; room = 0; switches = record { stop = false }; requests = q }) (machine_of w y))

-- the next order is in 002, and the word there is z
abbrev pub Makes : ℕ → ℕ → ℕ → Type 0
Makes w y z = does present w y ≡ record { number = 2; location = 2; cells = cells_with w z }

-- it is refused with this number, and nothing is changed
abbrev pub Refuses : ℕ → ℕ → ℕ → Type 0
Refuses w y n = does present w y ≡ record { number = n; location = 1; cells = cells_with w y }

-- what the base makes of it
abbrev pub Wraps : ℕ → ℕ → ℕ → Type 0
Wraps w y z = does (without_carries present) w y ≡ record { number = 2; location = 2; cells = cells_with w z }

pub record AddressesAdded : Type 0 where
  -- within the address; into the next; through two and three, into O1
  pub within : Makes 0006002001 0001002998 0001002999
  pub to_b : Makes 0006002001 0001002999 0001003000
  pub to_a : Makes 0006002001 0001999999 0002000000
  pub to_o1 : Makes 0006002001 0999999999 1000000000
  pub b_to_a : Makes 0060002001 0001999007 0002000007
  pub b_to_o1 : Makes 0060002001 3999999007 4000000007
  pub a_to_o1 : Makes 0600002001 8999002003 9000002003
  -- C 000, and C 999
  pub by_000 : Makes 0006002000 9999999999 9999999999
  pub by_999 : Makes 0600002999 0001002003 1000002003
  -- the largest ten digits, and one more
  pub largest : Makes 0006002001 9999999998 9999999999
  pub past_c : Refuses 0006002001 9999999999 20
  pub past_b : Refuses 0060002001 9999999000 20
  pub past_a : Refuses 0600002999 9001000000 20
  pub largest_a : Makes 0600002999 9000999999 9999999999
  -- a minus stays, and is not added to
  pub minus : Makes 0006002001 10001002999 10001003000
  pub minus_zero : Makes 0006002001 10000000000 10000000001
  pub minus_largest : Makes 0006002001 19999999998 19999999999
  pub minus_past : Refuses 0006002001 19999999999 20
  -- B 000 is 20 and a cell that is not owned is 21, whatever the sum
  pub zero : Refuses 0006000001 9999999999 20
  pub foreign : Refuses 0600003999 9999999999 21
  -- a minus order has its B and its C by the box; the order is as stored behind it
  pub by_the_box : Makes 10006000000 0001002999 0001003000
  pub by_the_box_past : Refuses 10006000000 9999999999 20

pub record AddressesTaken : Type 0 where
  pub within : Makes 0007002001 0001002003 0001002002
  pub from_b : Makes 0007002001 0001002000 0001001999
  pub from_a : Makes 0007002001 0002000000 0001999999
  pub from_o1 : Makes 0007002001 1000000000 0999999999
  pub b_from_a : Makes 0070002001 0002000007 0001999007
  pub b_from_o1 : Makes 0070002001 4000000007 3999999007
  pub a_from_o1 : Makes 0700002001 9000002003 8999002003
  pub by_000 : Makes 0007002000 0000000000 0000000000
  pub by_999 : Makes 0700002999 1000002003 0001002003
  -- ten zeros, and one less
  pub least : Makes 0007002001 0000000001 0000000000
  pub below_c : Refuses 0007002001 0000000000 20
  pub below_b : Refuses 0070002001 0000000999 20
  pub below_a : Refuses 0700002001 0000999999 20
  pub least_a : Makes 0700002001 0001000000 0000000000
  pub minus : Makes 0007002001 10001002000 10001001999
  pub to_minus_zero : Makes 0007002001 10000000001 10000000000
  pub minus_below : Refuses 0007002001 10000000000 20
  pub zero : Refuses 0007000001 0000000000 20
  pub foreign : Refuses 0700003001 0000000000 21

pub record AddressesSet : Type 0 where
  pub a : Makes 0500002999 9001002003 9999002003
  pub b : Makes 0050002000 9001002003 9001000003
  pub c : Makes 0005002999 10000000000 10000000999
  pub foreign : Refuses 0005003999 9999999999 21

-- by the base a sum wraps within its address, and is never refused
pub record AddressesWrapped : Type 0 where
  pub added : Wraps 0006002001 0001002999 0001002000
  pub past : Wraps 0600002001 9999002003 9000002003
  pub taken : Wraps 0007002001 0001002000 0001002999
  pub below : Wraps 0700002001 10000000000 10999000000
  pub within : Wraps 0060002001 10001002003 10001003003

pub addresses_added : AddressesAdded
unfolding Codes.codes Codes.lookup Codes.code_in Codes.checked Orders.performed Running.obeyed Running.traced Running.fetched Running.step
addresses_added =
    record {
      within = refl;
      to_b = refl;
      to_a = refl;
      to_o1 = refl;
      b_to_a = refl;
      b_to_o1 = refl;
      a_to_o1 = refl;
      by_000 = refl;
      by_999 = refl;
      largest = refl;
      past_c = refl;
      past_b = refl;
      past_a = refl;
      largest_a = refl;
      minus = refl;
      minus_zero = refl;
      minus_largest = refl;
      minus_past = refl;
      zero = refl;
      foreign = refl;
      by_the_box = refl;
      by_the_box_past = refl;
    }

pub addresses_taken : AddressesTaken
unfolding Codes.codes Codes.lookup Codes.code_in Codes.checked Orders.performed Running.obeyed Running.traced Running.fetched Running.step
addresses_taken =
    record {
      within = refl;
      from_b = refl;
      from_a = refl;
      from_o1 = refl;
      b_from_a = refl;
      b_from_o1 = refl;
      a_from_o1 = refl;
      by_000 = refl;
      by_999 = refl;
      least = refl;
      below_c = refl;
      below_b = refl;
      below_a = refl;
      least_a = refl;
      minus = refl;
      to_minus_zero = refl;
      minus_below = refl;
      zero = refl;
      foreign = refl;
    }

pub addresses_set : AddressesSet
unfolding Codes.codes Codes.lookup Codes.code_in Codes.checked Orders.performed Running.obeyed Running.traced Running.fetched Running.step
addresses_set = record { a = refl; b = refl; c = refl; foreign = refl }

pub addresses_wrapped : AddressesWrapped
unfolding Codes.codes Codes.lookup Codes.code_in Codes.checked Orders.performed Running.obeyed Running.traced Running.fetched Running.step
addresses_wrapped = record { added = refl; past = refl; taken = refl; below = refl; within = refl }
