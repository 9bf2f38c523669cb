-- What a C program is told of a call of load, run or make, and what the drum, the marks, the output and the nine numbers of the state that
-- it lent then hold. Assumes nothing.
use Rattle.std.specs.Prelude.{ℕ, ◌≡◌, List, Bool, eqb, ltb, length, Ok, Err}
use Rattle.rules.specs.Words.{pick}
use Rattle.rules.specs.Numbers.{ending_number, ending_place, ending_shown, loading_number, loading_place, making_number, making_written}
use Rattle.rules.specs.Drum.{view, drum_fits}
use Rattle.rules.specs.Decks.{deck_of}
use Rattle.rules.specs.Loads.{LoadCall, LoadResult, not_loaded, loaded}
use Rattle.rules.specs.Running.{RunCall, RunResult, not_run, ran}
use Rattle.rules.specs.Making.{MakeCall, MakeResult}
use Rattle.rules.specs.States.{state_in, numbers_of}
use Rattle.rules.specs.Answers.{Deck, Ending, Loading, Making}
use Rattle.rules.specs.declared.Bar.{Bar}
use Rattle.rules.specs.declared.Bar.TheVariants.{BadDrum, BadDeck, BadState}
use Rattle.rules.specs.declared.State.{State}
use Rattle.panel.specs.declared.Place.{Place}
use Rattle.panel.specs.declared.Ended.{Ended}
use Rattle.panel.specs.declared.Made.{Made}

-- a switch is on at any number but 0
abbrev pub is_on : ℕ → Bool
is_on n = ltb 0 n

-- A state that is not nine numbers long is refused as a bad state is, after the checks of the drum and of the deck.
abbrev pub is_state : List ℕ → Bool
is_state row = eqb (length row) 9

abbrev pub bar_of : Deck → Bar
bar_of (Err f) = BadDeck f
bar_of (Ok start) = BadState

unfoldable pub barred : List ℕ → List ℕ → List ℕ → Bar
barred drum marks deck = pick (drum_fits (length drum) marks (view drum marks)) (bar_of (deck_of deck)) BadDrum

-- the numbers of a state are replaced where they are nine, and else stay
abbrev pub row_after : List ℕ → State → List ℕ
row_after row s = pick (is_state row) (numbers_of s) row

-- ---- load

-- the rules' call of what a C program lends and gives
abbrev pub load_call : (drum marks deck row : List ℕ) → ℕ → LoadCall
load_call drum marks deck row traced =
    record { drum = drum; marks = marks; deck = deck; state = state_in row; traced = is_on traced }

unfoldable pub load_called : List ℕ → LoadCall → LoadResult
load_called row c = pick (is_state row) (loaded c) (not_loaded c (barred c.drum c.marks c.deck))

abbrev pub loading_told : Loading → Place
loading_told l = record { number = loading_number l; place = loading_place l }

pub record LoadTold (row₀ : List ℕ) (x : LoadResult) (drum marks row : List ℕ) (r : Place) : Type 0 where
  pub told_is : r ≡ loading_told x.loading
  pub drum_is : drum ≡ x.drum
  pub marks_are : marks ≡ x.marks
  pub row_is : row ≡ row_after row₀ x.state

-- ---- run

abbrev pub run_call : (drum marks deck out row : List ℕ) (budget stop : ℕ) → RunCall
run_call drum marks deck out row budget stop =
    record { drum = drum; marks = marks; out = out; deck = deck; state = state_in row; budget = budget; switches = record { stop = is_on stop } }

unfoldable pub run_called : List ℕ → RunCall → RunResult
run_called row c = pick (is_state row) (ran c) (not_run c (barred c.drum c.marks c.deck))

abbrev pub ending_told : Ending → ℕ → ℕ → Ended
ending_told e count written =
    record { number = ending_number e; place = ending_place e; count = count; shown = ending_shown e; written = written }

pub record RunTold (row₀ : List ℕ) (x : RunResult) (drum marks out row : List ℕ) (r : Ended) : Type 0 where
  pub told_is : r ≡ ending_told x.ending x.count x.written
  pub drum_is : drum ≡ x.drum
  pub marks_are : marks ≡ x.marks
  pub out_is : out ≡ x.out
  pub row_is : row ≡ row_after row₀ x.state

-- ---- make

abbrev pub make_call : (drum marks out : List ℕ) (first problem : ℕ) → MakeCall
make_call drum marks out first problem = record { drum = drum; marks = marks; out = out; order = first; problem = problem }

abbrev pub making_told : Making → Made
making_told x = record { number = making_number x; written = making_written x }

pub record MakeTold (x : MakeResult) (out : List ℕ) (r : Made) : Type 0 where
  pub told_is : r ≡ making_told x.making
  pub out_is : out ≡ x.out
