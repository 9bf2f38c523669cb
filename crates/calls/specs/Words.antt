-- What the words of a call mean. Assumes nothing.
use Rattle.std.specs.Prelude.{ℕ, ◌-◌, ◌≤◌, min, ◌≡◌, List, [], ◌∷◌, Bool, true, false, ltb, length, take, drop, bytes_eq, Option, Some, None, IsSome, ok_or, option_map, option_and_then, Result, Ok, Err}
use Rattle.std.specs.Result.{result_ok}
use Rattle.rules.specs.Bytes.{bytes}
use Rattle.rules.specs.Words.{pick, both}
use Rattle.rules.specs.Cards.{is_digit}
use Rattle.octets.specs.Longer.{with_digit}
use Rattle.rules.specs.declared.Switches.{Switches}
use Rattle.calls.specs.declared.words.Command.{Command}
use Rattle.calls.specs.declared.words.Command.TheVariants.{Session, New, Load, Run, Deck, List as ListCards, Cells, Make}
use Rattle.calls.specs.declared.words.Asked.{Asked}
use Rattle.calls.specs.declared.words.Asked.TheVariants.{Traced, Stop, Budget, First, Problem}
use Rattle.calls.specs.declared.words.Trouble.{Trouble}
use Rattle.calls.specs.declared.words.Trouble.TheVariants.{Stray, Twice, NotNumber}
use Rattle.calls.specs.declared.options.Turn.{Turn}
use Rattle.calls.specs.declared.options.Turn.TheVariants.{Never, Open, Due, Given}
use Rattle.calls.specs.declared.options.Options.{Options}

-- whether two words are the same, byte for byte
abbrev pub same_bytes : List ℕ → List ℕ → Bool
same_bytes = bytes_eq

-- whether a word begins with a mark, and the rest of it
abbrev pub begins_with : List ℕ → List ℕ → Bool
begins_with mark w = same_bytes (take (length mark) w) mark

abbrev pub behind_mark : List ℕ → List ℕ → List ℕ
behind_mark mark w = drop (length mark) w

-- ---- the command: session, new, load, run, deck, list, cells, make

abbrev pub session_word : List ℕ
session_word = bytes "session"

abbrev pub new_word : List ℕ
new_word = bytes "new"

abbrev pub load_word : List ℕ
load_word = bytes "load"

abbrev pub run_word : List ℕ
run_word = bytes "run"

abbrev pub deck_word : List ℕ
deck_word = bytes "deck"

abbrev pub list_word : List ℕ
list_word = bytes "list"

abbrev pub cells_word : List ℕ
cells_word = bytes "cells"

abbrev pub make_word : List ℕ
make_word = bytes "make"

-- where it is none of these, there is none
unfoldable pub command_of : List ℕ → Option Command
command_of w =
    pick (same_bytes w session_word) (Some Session)
    (pick (same_bytes w new_word) (Some New)
    (pick (same_bytes w load_word) (Some Load)
    (pick (same_bytes w run_word) (Some Run)
    (pick (same_bytes w deck_word) (Some Deck)
    (pick (same_bytes w list_word) (Some ListCards)
    (pick (same_bytes w cells_word) (Some Cells) (pick (same_bytes w make_word) (Some Make) None)))))))

-- ---- a word behind the names: traced, stop, budget=N, first=N, problem=N

-- whether there are decimal digits and nothing else
unfoldable pub all_digits : List ℕ → Bool
all_digits [] = true
all_digits (b ∷ l) = both (is_digit b) (all_digits l)

abbrev pub is_number : List ℕ → Bool
is_number t = both (ltb 0 (length t)) (all_digits t)

-- the number that the digits of l are behind those of x
unfoldable pub value_from : ℕ → List ℕ → ℕ
value_from x [] = x
value_from x (b ∷ l) = value_from (with_digit x b) l

abbrev pub value_of : List ℕ → ℕ
value_of t = value_from 0 t

-- The number that a text says. Of numbers that no run takes as a budget, all are told as the first; no deck has them either.
abbrev pub too_large : ℕ
too_large = 1000000

unfoldable pub capped_number : List ℕ → Option ℕ
capped_number t = pick (is_number t) (Some (min too_large (value_of t))) None

-- what a word asks for that has such a text behind its mark
abbrev pub with_number : (ℕ → Asked) → List ℕ → Result Asked Trouble
with_number ask t = ok_or (option_map ask (capped_number t)) NotNumber

abbrev pub traced_word : List ℕ
traced_word = bytes "traced"

abbrev pub stop_word : List ℕ
stop_word = bytes "stop"

abbrev pub budget_mark : List ℕ
budget_mark = bytes "budget="

abbrev pub first_mark : List ℕ
first_mark = bytes "first="

abbrev pub problem_mark : List ℕ
problem_mark = bytes "problem="

-- what a word asks for, or what is wrong with it
unfoldable pub asked_by : List ℕ → Result Asked Trouble
asked_by w =
    pick (same_bytes w traced_word) (Ok Traced)
    (pick (same_bytes w stop_word) (Ok Stop)
    (pick (begins_with budget_mark w) (with_number Budget (behind_mark budget_mark w))
    (pick (begins_with first_mark w) (with_number First (behind_mark first_mark w))
    (pick (begins_with problem_mark w) (with_number Problem (behind_mark problem_mark w)) (Err Stray)))))

-- ---- what a command takes

-- of the words behind the names, none may come
abbrev pub takes_none : Options
takes_none = record { traced = Never; stop = Never; budget = Never; first = Never; problem = Never }

-- make must be told a first order, and may be told a problem number; where the word names no command, none of these may come
abbrev pub form_of : Option Command → Options
form_of (Some Session) = record takes_none { traced = Open; stop = Open; budget = Open }
form_of (Some New) = takes_none
form_of (Some Load) = record takes_none { traced = Open }
form_of (Some Run) = record takes_none { stop = Open; budget = Open }
form_of (Some Deck) = takes_none
form_of (Some ListCards) = takes_none
form_of (Some Cells) = takes_none
form_of (Some Make) = record takes_none { first = Due; problem = Open }
form_of None = takes_none

-- the turn of a word that comes with this value: it may come now, or that is wrong
abbrev pub given : {A : Type 0} → Turn A → A → Result (Turn A) Trouble
given Never x = Err Stray
given Open x = Ok (Given x)
given Due x = Ok (Given x)
given (Given y) x = Err Twice

-- what is made of a turn, where the word may come
abbrev pub where_given : {A : Type 0} → (Turn A → Options) → Result (Turn A) Trouble → Result Options Trouble
where_given f (Ok t) = Ok (f t)
where_given f (Err e) = Err e

-- what a call asks for with a word more that asks for this, or what is wrong with that word
abbrev pub with_asked : Options → Asked → Result Options Trouble
with_asked o Traced = where_given (λ t. record o { traced = t }) (given o.traced tt)
with_asked o Stop = where_given (λ t. record o { stop = t }) (given o.stop tt)
with_asked o (Budget n) = where_given (λ t. record o { budget = t }) (given o.budget n)
with_asked o (First n) = where_given (λ t. record o { first = t }) (given o.first n)
with_asked o (Problem n) = where_given (λ t. record o { problem = t }) (given o.problem n)

-- The same of any word. A word that is wrong spoils the call, and so a call that is spoilt takes no word more.
abbrev pub with_next : Option Options → Result Asked Trouble → Result Options Trouble
with_next (Some o) (Ok x) = with_asked o x
with_next (Some o) (Err e) = Err e
with_next None (Ok x) = Err Stray
with_next None (Err e) = Err e

-- the same of a word by its bytes
abbrev pub with_word : Options → List ℕ → Result Options Trouble
with_word o w = with_next (Some o) (asked_by w)

-- whether a word came
abbrev pub is_given : {A : Type 0} → Turn A → Bool
is_given Never = false
is_given Open = false
is_given Due = false
is_given (Given x) = true

-- what came with it, or another value where it did not come
abbrev pub given_or : {A : Type 0} → Turn A → A → A
given_or Never x = x
given_or Open x = x
given_or Due x = x
given_or (Given y) x = y

-- whether a word must come and has not come yet
abbrev pub is_due : {A : Type 0} → Turn A → Bool
is_due Never = false
is_due Open = false
is_due Due = true
is_due (Given x) = false

-- where the words behind the names begin, in a call of so many words: of new, the second name may be left out
abbrev pub behind_new : ℕ → ℕ
behind_new count = pick (ltb 3 count) 4 3

abbrev pub behind_names : Option Command → ℕ → ℕ
behind_names (Some Session) count = 3
behind_names (Some New) count = behind_new count
behind_names (Some Load) count = 4
behind_names (Some Run) count = 4
behind_names (Some Deck) count = 3
behind_names (Some ListCards) count = 3
behind_names (Some Cells) count = 3
behind_names (Some Make) count = 3
behind_names None count = 3

-- ---- what a call asks for

-- in a call of so many words, before the first of them behind the names: not to be obeyed where a name is missing
abbrev pub is_missing : Option Command → ℕ → Bool
is_missing c count = ltb count (behind_names c count)

abbrev pub start_of : Option Command → ℕ → Option Options
start_of c count = pick (is_missing c count) None (Some (form_of c))

-- with words more, one after another, each by its bytes: a word that is wrong spoils the call, and there is nothing that it asks for
unfoldable pub with_all : Option Options → List (List ℕ) → Option Options
with_all o [] = o
with_all o (w ∷ ws) = with_all (option_and_then (λ x. result_ok (with_word x w)) o) ws

-- what a call of so many words asks for: some words were read, and all from the one place to the other unless one of them is wrong
pub record Read (form : Option Options) (from count : ℕ) (r : Option Options) : Type 0 where
  pub words : List (List ℕ)
  pub all_taken : r ≡ with_all form words
  pub no_more : length words ≤ count - from
  pub no_fewer : IsSome r → length words ≡ count - from

-- After the last word: a call that has all but a first order, which is due, lacks that, and is not to be obeyed. One that is spoilt lacks
-- nothing, and stays so.
abbrev pub lacks_first : Option Options → Bool
lacks_first (Some o) = is_due o.first
lacks_first None = false

abbrev pub at_end : Option Options → Option Options
at_end o = pick (lacks_first o) None o

pub record ReadToEnd (c : Command) (count : ℕ) (r : Option Options) : Type 0 where
  pub before : Option Options
  pub read : Read (start_of (Some c) count) (behind_names (Some c) count) count before
  pub ended : r ≡ at_end before

-- whether the load is a traced one, and the console's switches
abbrev pub is_traced : Options → Bool
is_traced o = is_given o.traced

abbrev pub switches_of : Options → Switches
switches_of o = record { stop = is_given o.stop }

-- how many orders a run may do at most: as many as are given, or 999,999
abbrev pub budget_of : Options → ℕ
budget_of o = given_or o.budget 999999

-- the first order of a deck, which a call of make is given; of another call 0
abbrev pub first_of : Options → ℕ
first_of o = given_or o.first 0

-- the problem number for a deck: the one given, or the machine's own
abbrev pub problem_of : Options → ℕ → ℕ
problem_of o own = given_or o.problem own
