-- Whether the closing of a call can be written, and what writing it leaves in the output. Assumes nothing.
use Rattle.std.specs.Prelude.{ℕ, ◌≡◌, List, Bool, true, length, Ok, Err}
use Rattle.rules.specs.Words.{pick}
use Rattle.rules.specs.Numbers.{outcome_number, outcome_shown}
use Rattle.rules.specs.Answers.{Ending}
use Rattle.rules.specs.declared.State.{State}
use Rattle.card.specs.Written.{stop_may, fits, written}

-- whether each number fits its field
abbrev pub may_close : Ending → State → ℕ → Bool
may_close (Ok o) s count = stop_may (outcome_number o) s.location count (outcome_shown o)
may_close (Err b) s count = true

-- how many bytes were written, and what that leaves in the output
pub record Closed (may : Bool) (answer before : List ℕ) (said : ℕ) (after : List ℕ) : Type 0 where
  pub count_is : said ≡ pick (fits may answer before) (length answer) 0
  pub bytes : after ≡ written may answer before
