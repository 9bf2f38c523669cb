-- What each enum of an answer means: this paper's number for each case, and the values that go with it. The numbers 00 to 29 stand
-- here and nowhere else. Assumes nothing.
use Rattle.std.specs.Prelude.{ℕ, Bool, true, false, Ok, Err}
use Rattle.rules.specs.Answers.{Deck, Ending, Loading, Making, Outcome, Reckoned}
use Rattle.rules.specs.declared.Refusal.{Refusal}
use Rattle.rules.specs.declared.Refusal.TheVariants.{BadAddress, Unmarked, NoRoom, NotBuilt, NotNumber, ZeroDivisor, NegativeRoot, OutOfRange, Unfit, NoCard}
use Rattle.rules.specs.declared.Stop.{Stop}
use Rattle.rules.specs.declared.Stop.TheVariants.{Unconditional, Conditional, Lost}
use Rattle.rules.specs.declared.Fault.{Fault}
use Rattle.rules.specs.declared.Fault.TheVariants.{UnknownKind, SecondFirst, CutShort, BadByte, BadPlace}
use Rattle.rules.specs.declared.DeckFault.{DeckFault}
use Rattle.rules.specs.declared.DeckFault.TheVariants.{TooLong, At, NoFirst}
use Rattle.rules.specs.declared.Bar.{Bar}
use Rattle.rules.specs.declared.Bar.TheVariants.{BadDrum, BadDeck, BadState}
use Rattle.rules.specs.declared.Done.TheVariants.{GoesOn, Stops}
use Rattle.rules.specs.declared.Unmade.TheVariants.{Full, UnfitDrum, UnfitNumber}

-- why an order is undone
abbrev pub refusal_number : Refusal → ℕ
refusal_number BadAddress = 20
refusal_number Unmarked = 21
refusal_number NoRoom = 22
refusal_number NotBuilt = 23
refusal_number NotNumber = 24
refusal_number ZeroDivisor = 25
refusal_number NegativeRoot = 26
refusal_number OutOfRange = 27
refusal_number Unfit = 28
refusal_number NoCard = 29

-- arithmetic on words from outside: 0 and the word, or the number and 0
abbrev pub reckoned_number : Reckoned → ℕ
reckoned_number (Ok w) = 0
reckoned_number (Err r) = refusal_number r

abbrev pub reckoned_word : Reckoned → ℕ
reckoned_word (Ok w) = w
reckoned_word (Err r) = 0

-- the stops of orders
abbrev pub stop_number : Stop → ℕ
stop_number Unconditional = 0
stop_number Conditional = 1
stop_number Lost = 3

-- An order's outcome. A run that may go on, and has no order left to do, has used its budget.
abbrev pub outcome_number : Outcome → ℕ
outcome_number (Ok (Stops k w)) = stop_number k
outcome_number (Ok GoesOn) = 2
outcome_number (Err r) = refusal_number r

-- the word shown: +0 but for a stop
abbrev pub outcome_shown : Outcome → ℕ
outcome_shown (Ok (Stops k w)) = w
outcome_shown (Ok GoesOn) = 0
outcome_shown (Err r) = 0

-- how many orders were completed: none where it is undone
abbrev pub completed : Outcome → ℕ
completed (Ok (Stops k w)) = 1
completed (Ok GoesOn) = 1
completed (Err r) = 0

-- whether the next order may be begun
abbrev pub may_go_on : Outcome → Bool
may_go_on (Ok (Stops k w)) = false
may_go_on (Ok GoesOn) = true
may_go_on (Err r) = false

-- whether the next run tries the same order again: after the stop 00, and after a refusal
abbrev pub stays : Stop → Bool
stays Unconditional = true
stays Conditional = false
stays Lost = false

abbrev pub tries_again : Outcome → Bool
tries_again (Ok (Stops k w)) = stays k
tries_again (Ok GoesOn) = false
tries_again (Err r) = true

-- what is wrong with a card
abbrev pub fault_number : Fault → ℕ
fault_number UnknownKind = 13
fault_number CutShort = 14
fault_number BadByte = 15
fault_number BadPlace = 16
fault_number SecondFirst = 17

-- A faulty deck: one that is too long, one with a bad card, or one without a first-order card.
abbrev pub deck_number : DeckFault → ℕ
deck_number TooLong = 11
deck_number (At p f b) = fault_number f
deck_number (NoFirst n) = 18

-- Where it is told: at the longest length that a deck may have; at the offending byte, which is the kind byte for 13, 14 and 17, the one that
-- is not due for 15 and the first of the field for 16; at the deck's length.
abbrev pub deck_place : DeckFault → ℕ
deck_place TooLong = 65536
deck_place (At p f b) = b
deck_place (NoFirst n) = n

-- a deck as checked: 0 and 0 where it is good
abbrev pub check_number : Deck → ℕ
check_number (Ok start) = 0
check_number (Err f) = deck_number f

abbrev pub check_place : Deck → ℕ
check_place (Ok start) = 0
check_place (Err f) = deck_place f

-- a call refused at its entry
abbrev pub bar_number : Bar → ℕ
bar_number BadDrum = 10
bar_number (BadDeck f) = deck_number f
bar_number BadState = 12

abbrev pub bar_place : Bar → ℕ
bar_place BadDrum = 0
bar_place (BadDeck f) = deck_place f
bar_place BadState = 0

-- a call of run
abbrev pub ending_number : Ending → ℕ
ending_number (Ok o) = outcome_number o
ending_number (Err b) = bar_number b

abbrev pub ending_place : Ending → ℕ
ending_place (Ok o) = 0
ending_place (Err b) = bar_place b

abbrev pub ending_shown : Ending → ℕ
ending_shown (Ok o) = outcome_shown o
ending_shown (Err b) = 0

-- a call of load: 0 where it is done
abbrev pub loading_number : Loading → ℕ
loading_number (Ok _) = 0
loading_number (Err b) = bar_number b

abbrev pub loading_place : Loading → ℕ
loading_place (Ok _) = 0
loading_place (Err b) = bar_place b

-- a call of make: 0 and the bytes of the deck, or the number and 0
abbrev pub making_number : Making → ℕ
making_number (Ok n) = 0
making_number (Err UnfitDrum) = 10
making_number (Err UnfitNumber) = 12
making_number (Err Full) = 22

abbrev pub making_written : Making → ℕ
making_written (Ok n) = n
making_written (Err UnfitDrum) = 0
making_written (Err UnfitNumber) = 0
making_written (Err Full) = 0
