-- The form of a card by its kind: what is the same for data cards and first-order cards; and a second first-order card. Assumes nothing.
use Rattle.std.specs.Prelude.{ℕ, ◌-◌, Bool, false, eqb, Option, Some, None, Ok, Err}
use Rattle.rules.specs.Words.{pick}
use Rattle.rules.specs.Cards.{zero_byte, first_kind, is_data_kind, data_size, first_size}
use Rattle.rules.specs.Answers.{Deck}
use Rattle.card.specs.declared.fields.Form.{Form}

-- a card of n words has its location at place 5, and as many cells as words
abbrev pub data_form : ℕ → Form
data_form n = record { words = n; size = data_size n; place = 5; cells = n }

-- a first-order card has no words, and its first order at place 1 is one cell
abbrev pub first_form : Form
first_form = record { words = 0; size = first_size; place = 1; cells = 1 }

-- none of a kind that stands in no deck
unfoldable pub form_of : ℕ → Option Form
form_of k = pick (is_data_kind k) (Some (data_form (k - zero_byte))) (pick (eqb k first_kind) (Some first_form) None)

-- whether a card of the kind k is a second first-order card, in a deck that has been checked so far
abbrev pub is_second : Deck → ℕ → Bool
is_second (Ok start) k = eqb k first_kind
is_second (Err f) k = false
