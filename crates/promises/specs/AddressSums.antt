-- Sums of addresses that carry: what ADD and SUB of an address do, one by one; and that a run in which no such sum passes 999 or falls below 000
-- is what it is by the rule of the base, by which a sum wraps within its address. Assumes nothing.
use Rattle.std.specs.Prelude.{ℕ, ◌+◌, ◌-◌, ◌*◌, ◌≤◌, ◌<◌, ◌≡◌, true, false, length, Some, None, Ok, Err}
use Rattle.rules.specs.Words.{sign_in, digits_in, worth_of, address_in, first_digit, a_in, b_in, c_in}
use Rattle.rules.specs.Drum.{cell_at, word_at}
use Rattle.rules.specs.Codes.{codes, lookup, code_in}
use Rattle.rules.specs.Machine.{Machine, Requests, base, without_carries, Inputs, Answer, went_to, undone}
use Rattle.rules.specs.Running.{as_done, step, run_from, RunCall, begun, inputs_by, ran_by, ran}
use Rattle.rules.specs.declared.Address.{Address}
use Rattle.rules.specs.declared.Address.TheVariants.{OfA, OfB, OfC}
use Rattle.rules.specs.declared.Changing.{Changing}
use Rattle.rules.specs.declared.Changing.TheVariants.{SetTo, AddTo, SubFrom}
use Rattle.rules.specs.declared.Class.{Class}
use Rattle.rules.specs.declared.Operation.TheVariants.{Change}
use Rattle.rules.specs.declared.Refusal.TheVariants.{BadAddress, Unmarked}
use Rattle.rules.specs.declared.Done.TheVariants.{GoesOn}
use Rattle.promises.specs.Next.{Next, told}

-- ---- orders

-- the three digits behind the 0 of ADD, and of SUB, of an address
abbrev pub add_code : Address → ℕ
add_code OfA = 600
add_code OfB = 060
add_code OfC = 006

abbrev pub sub_code : Address → ℕ
sub_code OfA = 700
sub_code OfB = 070
sub_code OfC = 007

-- Cell b, which held y, has the digits d and y's sign; every other cell is what it was, nothing is written, and the next order is the one behind.
pub record Redone (x : Answer) (u : Machine) (b y d : ℕ) : Type 0 where
  pub goes_on : x.outcome ≡ (Ok GoesOn)
  pub word : ℕ
  pub cell : cell_at x.machine.cells b ≡ Some word
  pub digits : digits_in word ≡ d
  pub sign : sign_in word ≡ sign_in y
  pub others : (a : ℕ) → (a ≡ b → ⊥) → cell_at x.machine.cells a ≡ cell_at u.cells a
  pub long : length x.machine.cells ≡ length u.cells
  pub sent : x.machine.sent ≡ u.sent
  pub state : x.machine.state ≡ went_to u.state (u.state.location + 1)

-- B 000 is 20; then an unmarked cell at B is 21, whatever it holds; then 20 where the ten digits do not hold the sum; else they become it.
pub record Sums (x : Answer) (u : Machine) (b : ℕ) (Held : ℕ → Type 0) (sum : ℕ → ℕ) : Type 0 where
  pub zero : b ≡ 0 → x ≡ undone BadAddress u
  pub foreign : 1 ≤ b → cell_at u.cells b ≡ None → x ≡ undone Unmarked u
  pub past : 1 ≤ b → (y : ℕ) → cell_at u.cells b ≡ Some y → (Held (digits_in y) → ⊥) → x ≡ undone BadAddress u
  pub held : 1 ≤ b → (y : ℕ) → cell_at u.cells b ≡ Some y → Held (digits_in y) → Redone x u b y (sum (digits_in y))

-- The digits become the old ones and C times what the address is worth, or the old ones less that.
abbrev pub AddsCarry : Type 0
AddsCarry =
    (i : Inputs) (m : Machine) (order w : ℕ) → Next i m order w → i.requests.sums_carry ≡ true → (k : Address) → first_digit w ≡ 0 → a_in w ≡ add_code k
    → Sums (step i m) (told m order w) (b_in w) (λ d. d + c_in w * worth_of k ≤ 9999999999) (λ d. d + c_in w * worth_of k)

abbrev pub SubsBorrow : Type 0
SubsBorrow =
    (i : Inputs) (m : Machine) (order w : ℕ) → Next i m order w → i.requests.sums_carry ≡ true → (k : Address) → first_digit w ≡ 0 → a_in w ≡ sub_code k
    → Sums (step i m) (told m order w) (b_in w) (λ d. c_in w * worth_of k ≤ d) (λ d. d - c_in w * worth_of k)

-- ---- runs

-- C added to the address y is 999 at most, or C taken from it 000 at least; SET has no sum
abbrev pub Within : Changing → ℕ → ℕ → Type 0
Within SetTo y c = Unit {0}
Within AddTo y c = y + c ≤ 999
Within SubFrom y c = c ≤ y

-- the order in the machine's cell, done as w, changes the address x in the way k
pub record Changes (m : Machine) (k : Changing) (x : Address) (w : ℕ) : Type 0 where
  pub order : ℕ
  pub cell : cell_at m.cells m.state.location ≡ Some order
  pub is_done_as : as_done m.state order ≡ w
  pub class : Class
  pub built : lookup (code_in w) codes ≡ Some (Change k x, class)

-- if the next order is an address change, the address that it changes and C stay within 000 to 999
abbrev pub StaysWithin : Machine → Type 0
StaysWithin m = (k : Changing) (x : Address) (w : ℕ) → Changes m k x w → Within k (address_in x (word_at m.cells (b_in w))) (c_in w)

-- the machine behind the first n orders of a call's run, and what is asked of each order that the run does
abbrev pub behind : Requests → RunCall → ℕ → Machine
behind q c n = (run_from (inputs_by q c) n (begun c) 0).machine

abbrev pub SumsStay : Requests → RunCall → Type 0
SumsStay q c = (n : ℕ) → n < (ran_by q c).count → StaysWithin (behind q c n)

-- A run by the rule of the base whose sums all stay within their addresses is, in every part, the run by the rule that carries: of any call, one
-- that is refused included, and whichever other requests it goes by.
abbrev pub WrapsAsCarries : Type 0
WrapsAsCarries = (q : Requests) (c : RunCall) → SumsStay (without_carries q) c → ran_by q c ≡ ran_by (without_carries q) c

-- So is a run by the rule that carries, if the same is so of the order that ended it where it ends with 20: that order may be one whose sum the ten
-- digits do not hold.
abbrev pub CarriesAsWraps : Type 0
CarriesAsWraps =
    (q : Requests) (c : RunCall) → SumsStay q c → ((ran_by q c).ending ≡ Ok (Err BadAddress) → StaysWithin (behind q c (ran_by q c).count))
    → ran_by q c ≡ ran_by (without_carries q) c

-- With the switch on RUN, such a run is the base's own.
abbrev pub AsTheBase : Type 0
AsTheBase = (c : RunCall) → c.switches.stop ≡ false → SumsStay base c → ran c ≡ ran_by base c
