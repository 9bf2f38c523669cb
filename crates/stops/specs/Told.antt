-- What is told of each kind of answer, by the paper's numbers (rules/specs/Numbers.antt). Assumes nothing.
use Rattle.std.specs.Prelude.{ℕ}
use Rattle.rules.specs.Numbers.{refusal_number, reckoned_number, reckoned_word, deck_number, deck_place, check_number, check_place, bar_number, bar_place, outcome_number, outcome_shown, ending_number, ending_place, ending_shown, loading_number, loading_place, making_number}
use Rattle.rules.specs.Answers.{Reckoned, Deck, Outcome, Ending, Loading, Making}
use Rattle.rules.specs.declared.Refusal.{Refusal}
use Rattle.rules.specs.declared.DeckFault.{DeckFault}
use Rattle.rules.specs.declared.Bar.{Bar}
use Rattle.stops.specs.declared.Told.{Told}

abbrev pub told : ℕ → ℕ → ℕ → Told
told number place shown = record { number = number; place = place; shown = shown }

abbrev pub refusal_told : Refusal → Told
refusal_told x = told (refusal_number x) 0 0

abbrev pub reckoned_told : Reckoned → Told
reckoned_told x = told (reckoned_number x) 0 (reckoned_word x)

abbrev pub fault_told : DeckFault → Told
fault_told x = told (deck_number x) (deck_place x) 0

abbrev pub check_told : Deck → Told
check_told x = told (check_number x) (check_place x) 0

abbrev pub bar_told : Bar → Told
bar_told x = told (bar_number x) (bar_place x) 0

abbrev pub outcome_told : Outcome → Told
outcome_told x = told (outcome_number x) 0 (outcome_shown x)

abbrev pub ending_told : Ending → Told
ending_told x = told (ending_number x) (ending_place x) (ending_shown x)

abbrev pub loading_told : Loading → Told
loading_told x = told (loading_number x) (loading_place x) 0

abbrev pub making_told : Making → Told
making_told x = told (making_number x) 0 0
