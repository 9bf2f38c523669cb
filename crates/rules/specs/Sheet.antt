-- What the program around the library writes: the cards of a run, and behind them the Z card or, where the call was refused at its
-- entry, its number and place. Assumes nothing.
use Rattle.std.specs.Prelude.{ℕ, List, [], ◌++◌, take, Ok, Err}
use Rattle.rules.specs.Numbers.{outcome_number, outcome_shown, bar_number, bar_place, making_number}
use Rattle.rules.specs.Cards.{stop_card, refusal_line}
use Rattle.rules.specs.Running.{RunResult}
use Rattle.rules.specs.Making.{MakeResult}
use Rattle.rules.specs.Answers.{Ending, Loading, Making}
use Rattle.rules.specs.declared.State.{State}
use Rattle.rules.specs.declared.Bar.{Bar}

abbrev pub bar_line : Bar → List ℕ
bar_line b = refusal_line (bar_number b) (bar_place b)

-- the stop number, where the machine stands, the count, and the word shown
abbrev pub closing : Ending → State → ℕ → List ℕ
closing (Ok o) s count = stop_card (outcome_number o) s.location count (outcome_shown o)
closing (Err b) s count = bar_line b

unfoldable pub sheet : RunResult → List ℕ
sheet r = take r.written r.out ++ closing r.ending r.state r.count

-- a load that is done writes nothing
abbrev pub load_line : Loading → List ℕ
load_line (Ok _) = []
load_line (Err b) = bar_line b

-- of a call of make: the bytes of the deck, or the number and 0
abbrev pub make_line : Making → List ℕ → List ℕ
make_line (Ok n) out = take n out
make_line (Err why) out = refusal_line (making_number (Err why)) 0

abbrev pub make_sheet : MakeResult → List ℕ
make_sheet r = make_line r.making r.out
