-- What is answered, as types of the library: a word or nothing, or what came of a call or the reason why not. Assumes nothing.
use Rattle.std.specs.Prelude.{ℕ, Option, Result, Ok}
use Rattle.rules.specs.declared.Refusal.{Refusal}
use Rattle.rules.specs.declared.DeckFault.{DeckFault}
use Rattle.rules.specs.declared.Start.{Start}
use Rattle.rules.specs.declared.Operation.{Operation}
use Rattle.rules.specs.declared.Class.{Class}
use Rattle.rules.specs.declared.Done.{Done}
use Rattle.rules.specs.declared.Bar.{Bar}
use Rattle.rules.specs.declared.Unmade.{Unmade}

-- a cell as the job sees it: its word; nothing where the job does not own it
abbrev pub Cell : Type 0
Cell = Option ℕ

-- arithmetic, or the change of an address: the word to store
abbrev pub Reckoned : Type 0
Reckoned = Result ℕ Refusal

-- a deck as checked: what its first-order card says
abbrev pub Deck : Type 0
Deck = Result Start DeckFault

-- a good deck: the place behind its first-order card, and what is on that card
abbrev pub good : ℕ → ℕ → ℕ → Deck
good behind order problem = Ok (record { behind = behind; order = order; problem = problem })

-- a code as looked up in the table; nothing where it is not built
abbrev pub Built : Type 0
Built = Option (Operation × Class)

-- what the checks that go by the class found
abbrev pub Checked : Type 0
Checked = Result (Unit {0}) Refusal

-- whether the cards for READ fill its block: the place behind the last of them
abbrev pub Judged : Type 0
Judged = Result ℕ Refusal

-- what came of an order, and so of a run: what it did, or why it was refused
abbrev pub Outcome : Type 0
Outcome = Result Done Refusal

-- how a call of run ended
abbrev pub Ending : Type 0
Ending = Result Outcome Bar

-- how a call of load ended
abbrev pub Loading : Type 0
Loading = Result (Unit {0}) Bar

-- how a call of make ended: the bytes of the deck
abbrev pub Making : Type 0
Making = Result ℕ Unmade
