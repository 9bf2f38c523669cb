-- What is known of a card whose lines are written, and what writing them leaves. Assumes nothing.
use Rattle.std.specs.Prelude.{ℕ, ◌≡◌, List, []}
use Rattle.rules.specs.Words.{pick}
use Rattle.list.specs.Listing.{is_trace, trace_lines, is_stop, stop_line}
use Rattle.card.specs.Written.{WroteLine}
use Rattle.list.specs.declared.listing.Lines.{Lines}

-- what is shown of a card that stands in no deck, and how long it is
abbrev pub other_lines : List ℕ → List ℕ
other_lines d = pick (is_trace d) (trace_lines d) (pick (is_stop d) (stop_line d) [])

abbrev pub other_size : List ℕ → ℕ
other_size d = pick (is_trace d) 77 (pick (is_stop d) 24 0)

-- what is answered for lines of a card so long, and what is left in the output
pub record WroteLines (lines : List ℕ) (size : ℕ) (before : List ℕ) (said : Lines) (after : List ℕ) : Type 0 where
  pub shown : WroteLine lines before said.written after
  pub taken : said.taken ≡ size
