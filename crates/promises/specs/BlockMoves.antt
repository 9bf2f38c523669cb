-- What the orders of W-204 do, one by one: MOVE of a block, whatever the overlap, and TR A, TR B, TR C; and what a trace card tells of a
-- block move. That a refused order is undone, that unmarked cells have no part in it, and the count are said of every order elsewhere.
-- Assumes nothing.
use Rattle.std.specs.Prelude.{ℕ, ◌+◌, ◌≤◌, ◌<◌, ◌≡◌, length, get_or, Some, None, Ok}
use Rattle.rules.specs.Words.{first_digit, a_in, b_in, c_in, address_in}
use Rattle.rules.specs.Drum.{cell_at, word_at}
use Rattle.rules.specs.Machine.{Machine, Inputs, Answer, going_to, went_to, done, undone}
use Rattle.rules.specs.Running.{trace_words, step}
use Rattle.rules.specs.declared.Address.{Address}
use Rattle.rules.specs.declared.Address.TheVariants.{OfA, OfB, OfC}
use Rattle.rules.specs.declared.Refusal.TheVariants.{BadAddress, Unmarked}
use Rattle.rules.specs.declared.Done.TheVariants.{GoesOn}
use Rattle.promises.specs.Next.{Next, told}

-- ---- MOVE with A not 000

-- n cells from b on lie within 001 to 999
pub record Lies (b n : ℕ) : Type 0 where
  pub begins : 1 ≤ b
  pub ends : b + n ≤ 1000

-- Each cell of the block from c on is what its cell of the block from b on was before, marked as that was; every other cell is what it was, cell
-- 000 among them; and the next order is the one behind.
pub record Moved (x : Answer) (u : Machine) (n b c : ℕ) : Type 0 where
  pub goes_on : x.outcome ≡ (Ok GoesOn)
  pub block : (k : ℕ) → k < n → cell_at x.machine.cells (c + k) ≡ cell_at u.cells (b + k)
  pub others : (a : ℕ) → (c ≤ a → a < c + n → ⊥) → cell_at x.machine.cells a ≡ cell_at u.cells a
  pub first : cell_at x.machine.cells 0 ≡ cell_at u.cells 0
  pub long : length x.machine.cells ≡ length u.cells
  pub sent : x.machine.sent ≡ u.sent
  pub state : x.machine.state ≡ went_to u.state (u.state.location + 1)

-- A block outside 001 to 999 is 20, whatever the cells; then a source cell that is not marked is 21; else the block is moved. The cells that it
-- goes to are not asked for.
pub record MovesBlock (x : Answer) (u : Machine) (n b c : ℕ) : Type 0 where
  pub outside : (Lies b n → Lies c n → ⊥) → x ≡ undone BadAddress u
  pub foreign : Lies b n → Lies c n → (k : ℕ) → k < n → cell_at u.cells (b + k) ≡ None → x ≡ undone Unmarked u
  pub owned : Lies b n → Lies c n → ((k : ℕ) → k < n → cell_at u.cells (b + k) ≡ Some (word_at u.cells (b + k))) → Moved x u n b c

abbrev pub BlockMoves : Type 0
BlockMoves =
    (i : Inputs) (m : Machine) (order w : ℕ) → Next i m order w → first_digit w ≡ 9 → 1 ≤ a_in w
    → MovesBlock (step i m) (told m order w) (a_in w) (b_in w) (c_in w)

-- Its trace card shows the word in the cell whose number is the block's length, though no word of the block need be there.
abbrev pub BlockMoveTold : Type 0
BlockMoveTold =
    (m : Machine) (order w : ℕ) → first_digit w ≡ 9 → 1 ≤ a_in w → get_or (trace_words m order w) 3 0 ≡ word_at m.cells (a_in w)

-- ---- TR A, TR B, TR C

-- the first digit of the order that tests this address
abbrev pub digit_of : Address → ℕ
digit_of OfA = 6
digit_of OfB = 7
digit_of OfC = 8

-- A 000 is 20, an unmarked cell at A is 21; else the named address of its word is compared with B.
pub record TestsAddress (x : Answer) (u : Machine) (k : Address) (a b c : ℕ) : Type 0 where
  pub zero : a ≡ 0 → x ≡ undone BadAddress u
  pub foreign : 1 ≤ a → cell_at u.cells a ≡ None → x ≡ undone Unmarked u
  pub equal : 1 ≤ a → (y : ℕ) → cell_at u.cells a ≡ Some y → address_in k y ≡ b → x ≡ done (going_to u (u.state.location + 1))
  pub unequal : 1 ≤ a → (y : ℕ) → cell_at u.cells a ≡ Some y → (address_in k y ≡ b → ⊥) → x ≡ done (going_to u c)

abbrev pub AddressTests : Type 0
AddressTests =
    (i : Inputs) (m : Machine) (order w : ℕ) → Next i m order w → (k : Address) → first_digit w ≡ digit_of k
    → TestsAddress (step i m) (told m order w) k (a_in w) (b_in w) (c_in w)
