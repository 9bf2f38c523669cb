-- What each built operation does to the machine, once the checks of its class have passed; a, b and c are the addresses of the order
-- as it is done. Assumes nothing.
use Rattle.std.specs.Prelude.{ℕ, zero, suc, ◌+◌, ◌-◌, ◌*◌, ◌/◌, ◌%◌, max, List, [], ◌∷◌, ◌++◌, Bool, true, false, eqb, leb, ltb, length, Ok, Err}
use Rattle.rules.specs.Words.{pick, both, sign_in, digits_in, exponent_in, worth_of, address_in, with_address, with_digits}
use Rattle.rules.specs.Arithmetic.{add_of, sub_of, mpy_of, div_of, ngmpy_of, sqrt_of, abs_of, loss_in}
use Rattle.rules.specs.Drum.{word_at, store}
use Rattle.rules.specs.Cards.{data_card}
use Rattle.rules.specs.Decks.{data_from, cards_stored, judged_from}
use Rattle.rules.specs.Machine.{Machine, Inputs, Answer, counting, count_a, count_b, count_c, clear_box, numbered, read_to, tracing_set, is_traced, with_state, stored, sending, going_to, onward, done, undone, stops}
use Rattle.rules.specs.Answers.{Cell, Judged, Outcome, Reckoned}
use Rattle.rules.specs.declared.State.{State}
use Rattle.rules.specs.declared.Refusal.TheVariants.{BadAddress, NoRoom}
use Rattle.rules.specs.declared.Stop.TheVariants.{Unconditional, Conditional, Lost}
use Rattle.rules.specs.declared.Operation.{Operation}
use Rattle.rules.specs.declared.Operation.TheVariants.{Reckon, Move, Go, Loop, Change, Read, Pch, Trace, MoveBlock, Compare}
use Rattle.rules.specs.declared.Reckoning.{Reckoning}
use Rattle.rules.specs.declared.Reckoning.TheVariants.{Add, Sub, Mpy, Div, Ngmpy, Sqrt, Abs}
use Rattle.rules.specs.declared.Going.{Going}
use Rattle.rules.specs.declared.Going.TheVariants.{UncStop, CondStop, TrSgn, TrExp, Tr, TrSubr, Noop}
use Rattle.rules.specs.declared.Address.{Address}
use Rattle.rules.specs.declared.Address.TheVariants.{OfC}
use Rattle.rules.specs.declared.Changing.{Changing}
use Rattle.rules.specs.declared.Changing.TheVariants.{SetTo, AddTo, SubFrom}
use Rattle.rules.specs.declared.Tracing.{Tracing}
use Rattle.rules.specs.declared.Tracing.TheVariants.{StartTr, StopTr, StTrEras}
use Rattle.rules.specs.declared.Done.TheVariants.{GoesOn, Stops}

-- ---- results: stored at C and at 000

abbrev pub result_at : Machine → ℕ → ℕ → Machine
result_at m c w = stored (stored m c w) 0 w

-- of the words x at A and y at B
abbrev pub reckoned_by : Reckoning → ℕ → ℕ → Reckoned
reckoned_by Add x y = add_of x y
reckoned_by Sub x y = sub_of x y
reckoned_by Mpy x y = mpy_of x y
reckoned_by Div x y = div_of x y
reckoned_by Ngmpy x y = ngmpy_of x y
reckoned_by Sqrt x y = sqrt_of y
reckoned_by Abs x y = abs_of y

-- the digits that went, by the answer r: only ADD and SUB tell of them
abbrev pub loss_by : Reckoning → ℕ → ℕ → Reckoned → ℕ
loss_by Add x y r = loss_in x y r
loss_by Sub x y r = loss_in x y r
loss_by Mpy x y r = 0
loss_by Div x y r = 0
loss_by Ngmpy x y r = 0
loss_by Sqrt x y r = 0
loss_by Abs x y r = 0

-- a loss above two stops the run where the switch is on STOP
abbrev pub stops_at : Inputs → ℕ → Bool
stops_at i n = both i.requests.loss_stops (both i.switches.stop (ltb 2 n))

abbrev pub stops_by_loss : Inputs → Reckoning → ℕ → ℕ → Bool
stops_by_loss i k x y = stops_at i (loss_by k x y (reckoned_by k x y))

-- with the result w the run stops and shows it, or it goes on
abbrev pub resulted : Bool → ℕ → Outcome
resulted true w = Ok (Stops Lost w)
resulted false w = Ok GoesOn

-- either way the result is stored, and the next order follows
abbrev pub reckoned : Bool → Machine → ℕ → Reckoned → Answer
reckoned t m c (Ok w) = stops (resulted t w) (onward (result_at m c w))
reckoned t m c (Err r) = undone r m

abbrev pub reckoned_at : Inputs → Machine → Reckoning → ℕ → ℕ → ℕ → Answer
reckoned_at i m k x y c = reckoned (stops_by_loss i k x y) m c (reckoned_by k x y)

-- ---- stops and transfers

-- on STOP it stops and shows B's word; either way the next order is at C
abbrev pub cond_stopped : Bool → Machine → ℕ → ℕ → Answer
cond_stopped true m b c = stops (Ok (Stops Conditional (word_at m.cells b))) (going_to m c)
cond_stopped false m b c = done (going_to m c)

-- minus, and not ten zeros
abbrev pub is_negative : ℕ → Bool
is_negative w = both (eqb (sign_in w) 1) (ltb 0 (digits_in w))

abbrev pub sign_transferred : Machine → ℕ → ℕ → Machine
sign_transferred m b c = going_to m (pick (is_negative (word_at m.cells 0)) c b)

abbrev pub exponent_transferred : Machine → ℕ → ℕ → Machine
exponent_transferred m b c = going_to m (pick (leb b (exponent_in (word_at m.cells 0))) c (m.state.location + 1))

-- the order at C gets B as its C-address and a plus sign; go to C
abbrev pub linked : Machine → ℕ → ℕ → Machine
linked m b c = going_to (stored m c (with_address OfC (digits_in (word_at m.cells c)) b)) c

unfoldable pub gone : Inputs → Machine → Going → ℕ → ℕ → Answer
gone i m UncStop b c = stops (Ok (Stops Unconditional (word_at m.cells b))) m
gone i m CondStop b c = cond_stopped i.switches.stop m b c
gone i m TrSgn b c = done (sign_transferred m b c)
gone i m TrExp b c = done (exponent_transferred m b c)
gone i m Tr b c = done (going_to m c)
gone i m TrSubr b c = done (linked m b c)
gone i m Noop b c = done (onward m)

-- ---- loops

-- the box with the named counts raised by one
abbrev pub raise : Bool → ℕ → ℕ
raise true n = n + 1
raise false n = n

abbrev pub raised : State → Bool → Bool → Bool → List ℕ
raised s x y z = raise x (count_a s) ∷ raise y (count_b s) ∷ raise z (count_c s) ∷ []

-- The largest of the named counts, once raised; a count that is not named is taken for 0. Only those that this loop has raised can end it:
-- a count that is not named belongs to another loop, and however large it is, it says nothing of this one.
abbrev pub named : Bool → ℕ → ℕ
named true n = n + 1
named false n = 0

abbrev pub largest : State → Bool → Bool → Bool → ℕ
largest s x y z = max (named x (count_a s)) (max (named y (count_b s)) (named z (count_c s)))

abbrev pub looped : Machine → Bool → Bool → Bool → ℕ → ℕ → Machine
looped m x y z b c =
    pick (ltb (largest m.state x y z) b) (going_to (with_state m (counting m.state (raised m.state x y z))) c)
    (onward (with_state m (counting m.state clear_box)))

-- ---- address changes: one address of the word at B

-- The base: from the address y, C itself, or C added to it or taken from it, modulo 1000. Sign and other digits stay.
abbrev pub new_address : Changing → ℕ → ℕ → ℕ
new_address SetTo y c = c
new_address AddTo y c = (y + c) % 1000
new_address SubFrom y c = (y + 1000 - c) % 1000

abbrev pub wrapped : Changing → Address → ℕ → ℕ → Reckoned
wrapped k x w c = Ok (with_address x w (new_address k (address_in x w) c))

-- Sums that carry: C, shifted to where that address stands, is added to all ten digits or taken from them. Where they cannot hold that, the
-- order is refused; the sign stays. SET is that of the base.
abbrev pub shifted : Address → ℕ → ℕ
shifted x c = c * worth_of x

abbrev pub raised_by : ℕ → ℕ → Reckoned
raised_by w n = pick (leb (digits_in w + n) 9999999999) (Ok (with_digits w (digits_in w + n))) (Err BadAddress)

abbrev pub lowered_by : ℕ → ℕ → Reckoned
lowered_by w n = pick (leb n (digits_in w)) (Ok (with_digits w (digits_in w - n))) (Err BadAddress)

abbrev pub carried : Changing → Address → ℕ → ℕ → Reckoned
carried SetTo x w c = wrapped SetTo x w c
carried AddTo x w c = raised_by w (shifted x c)
carried SubFrom x w c = lowered_by w (shifted x c)

-- by either rule
abbrev pub changed_word : Bool → Changing → Address → ℕ → ℕ → Reckoned
changed_word true k x w c = carried k x w c
changed_word false k x w c = wrapped k x w c

abbrev pub changed : Machine → ℕ → Reckoned → Answer
changed m b (Ok w) = done (onward (stored m b w))
changed m b (Err r) = undone r m

abbrev pub changed_at : Inputs → Machine → Changing → Address → ℕ → ℕ → Answer
changed_at i m k x b c = changed m b (changed_word i.requests.sums_carry k x (word_at m.cells b) c)

-- ---- address tests: an address of the word at A against B

-- equal, go on; unequal, go to C
abbrev pub compared_to : Machine → Address → ℕ → ℕ → ℕ → Machine
compared_to m x a b c = going_to m (pick (eqb (address_in x (word_at m.cells a)) b) (m.state.location + 1) c)

-- ---- PCH: cells B to C, five a card, the last card the rest

abbrev pub five : ℕ → ℕ
five n = pick (ltb n 5) n 5

unfoldable pub words_from : List Cell → ℕ → ℕ → List ℕ
words_from v b zero = []
words_from v b (suc n) = words_from v b n ++ (word_at v (b + n) ∷ [])

-- the counter rises, then the card of the n cells from b on is written
abbrev pub card_punched : Machine → ℕ → ℕ → Machine
card_punched m b n =
    let s = numbered m.state in
    sending (with_state m s) (data_card s.counter b (words_from m.cells b n) s.problem)

-- n cells from b on; by at most so many cards
unfoldable pub cards_punched : ℕ → Machine → ℕ → ℕ → Machine
cards_punched zero m b n = m
cards_punched (suc k) m b n =
    elim (eqb n 0) [
      | true ↦ m
      | false ↦ cards_punched k (card_punched m b (five n)) (b + five n) (n - five n)
    ]

-- the bytes of all cards for n cells
abbrev pub punch_size : ℕ → ℕ
punch_size n = 11 * n + 11 * ((n + 4) / 5)

unfoldable pub punched : Inputs → Machine → ℕ → ℕ → Answer
punched i m b n =
    pick (leb (length m.sent + punch_size n) i.room) (done (onward (cards_punched n m b n))) (undone NoRoom m)

-- ---- block moves: n words, from b upward, go to c upward; cell 000 is not touched

-- words go to the cells from c upward
unfoldable pub stored_from : ℕ → List ℕ → List Cell → List Cell
stored_from c [] v = v
stored_from c (w ∷ ws) v = stored_from (c + 1) ws (store v c w)

-- all are read before any is stored
abbrev pub cells_moved : List Cell → ℕ → ℕ → ℕ → List Cell
cells_moved v n b c = stored_from c (words_from v b n) v

abbrev pub block_moved : Machine → ℕ → ℕ → ℕ → Machine
block_moved m n b c = onward (record { cells = cells_moved m.cells n b c; sent = m.sent; state = m.state })

-- ---- READ: its cards are judged to the last before the first is stored

abbrev pub read : Inputs → Machine → Judged → Answer
read i m (Ok end) =
    done
    (onward
    (record {
      cells = cards_stored end (data_from i.deck m.state.reader) m.cells;
      sent = m.sent;
      state = read_to m.state end;
    }))
read i m (Err r) = undone r m

-- ---- tracing: turned on or off in traced mode, else nothing

abbrev pub tracing_to : State → ℕ → State
tracing_to s t = pick (is_traced s) (tracing_set s t) s

-- the word that ST TR ERAS leaves in its own cell: 0 454 000 000
abbrev pub erased : ℕ
erased = 0454000000

abbrev pub retraced : Machine → Tracing → Machine
retraced m StartTr = onward (with_state m (tracing_to m.state 1))
retraced m StopTr = onward (with_state m (tracing_to m.state 0))
retraced m StTrEras = onward (with_state (stored m m.state.location erased) (tracing_to m.state 1))

-- ---- all of them

unfoldable pub performed : Inputs → Machine → Operation → ℕ → ℕ → ℕ → Answer
performed i m (Reckon k) a b c = reckoned_at i m k (word_at m.cells a) (word_at m.cells b) c
performed i m Move a b c = done (onward (result_at m c (word_at m.cells b)))
performed i m (Go g) a b c = gone i m g b c
performed i m (Loop x y z) a b c = done (looped m x y z b c)
performed i m (Change k x) a b c = changed_at i m k x b c
performed i m Read a b c = read i m (judged_from i.deck m.state.reader b c)
performed i m Pch a b c = punched i m b (c + 1 - b)
performed i m (Trace t) a b c = done (retraced m t)
performed i m MoveBlock a b c = done (block_moved m a b c)
performed i m (Compare x) a b c = done (compared_to m x a b c)
