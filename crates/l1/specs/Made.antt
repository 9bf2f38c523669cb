-- What the program sends for a call of make: what the rules say of it, in any room that holds the longest deck. Assumes nothing.
use Rattle.std.specs.Prelude.{ℕ, ◌≤◌, ◌≡◌, List, length, Err}
use Rattle.rules.specs.Making.{MakeCall, made}
use Rattle.rules.specs.Sheet.{make_sheet}
use Rattle.rules.specs.declared.State.{State}
use Rattle.rules.specs.declared.Unmade.TheVariants.{Full}
use Rattle.promises.specs.Making.{longest_made}
use Rattle.calls.specs.Words.{first_of, problem_of}
use Rattle.calls.specs.declared.options.Options.{Options}

-- the call: the first order is the one that its words give, and the problem number too or else the machine's own
abbrev pub call_in : List ℕ → List ℕ → Options → State → List ℕ → MakeCall
call_in drum marks options state room =
    record { drum = drum; marks = marks; out = room; order = first_of options; problem = problem_of options state.problem }

-- the bytes that are sent: the deck, or the line of 10 or 12; 22 is not met
pub record MadeTold (drum marks : List ℕ) (options : Options) (state : State) (bytes : List ℕ) : Type 0 where
  pub sheet_is : (room : List ℕ) → longest_made ≤ length room → bytes ≡ make_sheet (made (call_in drum marks options state room))
  pub not_full : (room : List ℕ) → longest_made ≤ length room → (made (call_in drum marks options state room)).making ≡ (Err Full) → ⊥
