-- One order from its cell on, with the loop box and the trace card; a run of orders up to a budget; and a whole call of run with its
-- entry checks. Assumes nothing.
use Rattle.std.specs.Prelude.{ℕ, zero, suc, ◌+◌, ◌*◌, ◌≡◌, ◌⊎◌, List, [], ◌∷◌, ◌++◌, Bool, true, false, eqb, leb, ltb, length, drop, Some, None, Ok, Err}
use Rattle.rules.specs.Words.{pick, both, sign_in, first_digit, a_in, b_in, c_in, worth_of}
use Rattle.rules.specs.Numbers.{completed, may_go_on}
use Rattle.rules.specs.Drum.{view, cell_at, word_at, is_owned, marks_of, overlay, drum_fits}
use Rattle.rules.specs.Cards.{trace_card}
use Rattle.rules.specs.Decks.{deck_of, may_stand}
use Rattle.rules.specs.Codes.{codes, lookup, code_in, pch_code, noop_code, checked}
use Rattle.rules.specs.Machine.{Machine, Requests, present, Inputs, Answer, count_a, count_b, count_c, numbered, is_traced, is_tracing, with_state, sending, undone}
use Rattle.rules.specs.Orders.{performed}
use Rattle.rules.specs.Answers.{Built, Cell, Checked, Deck, Ending, Outcome}
use Rattle.rules.specs.declared.Address.TheVariants.{OfA, OfB, OfC}
use Rattle.rules.specs.declared.State.{State}
use Rattle.rules.specs.declared.Switches.{Switches}
use Rattle.rules.specs.declared.Operation.{Operation}
use Rattle.rules.specs.declared.Refusal.TheVariants.{BadAddress, Unmarked, NoRoom, NotBuilt}
use Rattle.rules.specs.declared.Bar.{Bar}
use Rattle.rules.specs.declared.Bar.TheVariants.{BadDrum, BadDeck, BadState}
use Rattle.rules.specs.declared.Done.TheVariants.{GoesOn}

-- ---- the order as done: of a minus order each address with its count of the loop box; the minus stays

abbrev pub is_minus : ℕ → Bool
is_minus w = eqb (sign_in w) 1

abbrev pub sums_fit : State → ℕ → Bool
sums_fit s w =
    both (leb (a_in w + count_a s) 999)
    (both (leb (b_in w + count_b s) 999) (leb (c_in w + count_c s) 999))

abbrev pub order_fits : State → ℕ → Bool
order_fits s w = pick (is_minus w) (sums_fit s w) true

abbrev pub box_word : State → ℕ
box_word s = count_a s * worth_of OfA + count_b s * worth_of OfB + count_c s * worth_of OfC

abbrev pub as_done : State → ℕ → ℕ
as_done s w = pick (is_minus w) (w + box_word s) w

-- ---- the order itself: built or not, then the checks of its class, then what it does

abbrev pub allowed : Inputs → Machine → Operation → ℕ → ℕ → ℕ → Checked → Answer
allowed i m o a b c (Ok _) = performed i m o a b c
allowed i m o a b c (Err r) = undone r m

abbrev pub obeyed_as : Inputs → Machine → ℕ → ℕ → ℕ → Built → Answer
obeyed_as i m a b c None = undone NotBuilt m
obeyed_as i m a b c (Some (o, k)) = allowed i m o a b c (checked k m.cells a b c)

-- in traced mode PCH is NOOP, checks and all
abbrev pub code_done : Bool → ℕ → ℕ
code_done t w = pick (both t (eqb (code_in w) pch_code)) noop_code (code_in w)

unfoldable pub obeyed : Inputs → Machine → ℕ → Answer
obeyed i m w =
    obeyed_as i m (a_in w) (b_in w) (c_in w) (lookup (code_done (is_traced m.state) w) codes)

-- ---- the trace card: order as stored, as done, the loop box, A's word, B's word, cell 000's

abbrev pub word_of_a : List Cell → ℕ → ℕ
word_of_a v w = pick (both (ltb 0 (first_digit w)) (ltb 0 (a_in w))) (word_at v (a_in w)) 0

abbrev pub trace_words : Machine → ℕ → ℕ → List ℕ
trace_words m w w' =
    w ∷ w' ∷ box_word m.state ∷ word_of_a m.cells w' ∷ word_at m.cells (b_in w') ∷ word_at m.cells 0 ∷ []

-- the counter rises before it as before a punched card
abbrev pub trace_sent : Machine → ℕ → ℕ → Machine
trace_sent m w w' =
    let s = numbered m.state in
    sending (with_state m s) (trace_card s.counter s.location (trace_words m w w') s.problem)

abbrev pub trace_size : ℕ
trace_size = 77

unfoldable pub traced : Inputs → Machine → ℕ → ℕ → Answer
traced i m w w' =
    pick (is_tracing m.state)
    (pick (leb (length m.sent + trace_size) i.room) (obeyed i (trace_sent m w w') w') (undone NoRoom m))
    (obeyed i m w')

-- ---- one order: its location, its cell, its sums, its trace card, itself

unfoldable pub fetched : Inputs → Machine → Cell → Answer
fetched i m None = undone Unmarked m
fetched i m (Some w) = pick (order_fits m.state w) (traced i m w (as_done m.state w)) (undone BadAddress m)

unfoldable pub step : Inputs → Machine → Answer
step i m =
    pick (both (leb 1 m.state.location) (leb m.state.location 999)) (fetched i m (cell_at m.cells m.state.location))
    (undone BadAddress m)

-- What is left by an order that is to be tried again, a refused one or the stop 00: the machine as it was, or as it was but for the
-- trace card of the order in its own cell.
abbrev pub Left : Machine → Machine → Type 0
Left m u =
    (u ≡ m)
    ⊎ ((w : ℕ) × (cell_at m.cells m.state.location ≡ Some w) × (u ≡ trace_sent m w (as_done m.state w)))

-- ---- a run: at most so many orders, n having been completed

pub record Course : Type 0 where
  pub outcome : Outcome
  pub machine : Machine
  pub count : ℕ

unfoldable pub run_from : Inputs → ℕ → Machine → ℕ → Course
run_from i zero m n = record { outcome = Ok GoesOn; machine = m; count = n }
run_from i (suc k) m n =
    let x = step i m in
    elim (may_go_on x.outcome) [
      | true ↦ run_from i k x.machine (n + 1)
      | false ↦ record { outcome = x.outcome; machine = x.machine; count = n + completed x.outcome }
    ]

-- ---- a call of run: what it is lent and given, what is answered, and what the lent drum, marks and output then hold

pub record RunCall : Type 0 where
  pub drum : List ℕ
  pub marks : List ℕ
  pub out : List ℕ
  pub deck : List ℕ
  pub state : State
  pub budget : ℕ
  pub switches : Switches

pub record RunResult : Type 0 where
  pub ending : Ending
  pub count : ℕ
  pub written : ℕ
  pub state : State
  pub drum : List ℕ
  pub marks : List ℕ
  pub out : List ℕ

-- the bytes written, and then what the output held past them
unfoldable pub over : List ℕ → List ℕ → List ℕ
over sent out = sent ++ drop (length sent) out

-- nothing is changed
abbrev pub not_run : RunCall → Bar → RunResult
not_run c b =
    record { ending = Err b; count = 0; written = 0; state = c.state; drum = c.drum; marks = c.marks; out = c.out }

unfoldable pub ran_as : RunCall → Course → RunResult
ran_as c x =
    record {
      ending = Ok x.outcome;
      count = x.count;
      written = length x.machine.sent;
      state = x.machine.state;
      drum = overlay c.drum x.machine.cells;
      marks = marks_of x.machine.cells;
      out = over x.machine.sent c.out;
    }

abbrev pub begun : RunCall → Machine
begun c = record { cells = view c.drum c.marks; sent = []; state = c.state }

abbrev pub inputs_by : Requests → RunCall → Inputs
inputs_by q c = record { deck = c.deck; room = length c.out; switches = c.switches; requests = q }

abbrev pub inputs : RunCall → Inputs
inputs c = inputs_by present c

-- Check 12. Of mode and tracing there are three tests: mode is 0 or 1; tracing is 0 or 1; tracing is not on in plain mode, that is, not
-- above the mode. The reader stands behind the first-order card, at a card's start or the deck's end.
abbrev pub box_fits : State → Bool
box_fits s = both (leb (count_a s) 999) (both (leb (count_b s) 999) (leb (count_c s) 999))

unfoldable pub state_fits : List Cell → List ℕ → ℕ → State → ℕ → Bool
state_fits v deck behind s budget =
    both (leb budget 999999)
    (both (leb s.location 1000)
    (both (box_fits s)
    (both (leb s.counter 9999)
    (both (leb s.problem 999)
    (both (leb s.mode 1)
    (both (leb s.tracing 1)
    (both (leb s.tracing s.mode)
    (both (is_owned (cell_at v 0)) (may_stand deck behind s.reader)))))))))

unfoldable pub ran_on : Requests → RunCall → Deck → RunResult
ran_on q c (Err f) = not_run c (BadDeck f)
ran_on q c (Ok start) =
    pick (state_fits (view c.drum c.marks) c.deck start.behind c.state c.budget)
    (ran_as c (run_from (inputs_by q c) c.budget (begun c) 0))
    (not_run c BadState)

-- check 10, that of the deck and check 12 in their order, and then the run, by these requests
unfoldable pub ran_by : Requests → RunCall → RunResult
ran_by q c = pick (drum_fits (length c.drum) c.marks (view c.drum c.marks)) (ran_on q c (deck_of c.deck)) (not_run c BadDrum)

abbrev pub ran : RunCall → RunResult
ran c = ran_by present c
