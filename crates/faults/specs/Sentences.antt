-- What is wrong with a card or a deck, as a sentence that people read: which card from the start, which field or word of it, what is due there
-- and what stands there. Assumes nothing.
use Rattle.std.specs.Prelude.{ℕ, suc, ◌+◌, ◌-◌, ◌/◌, min, List, [], ◌∷◌, ◌++◌, Bool, true, false, eqb, leb, ltb, length, get_or, take, drop}
use Rattle.rules.specs.Words.{pick, both, either}
use Rattle.rules.specs.Bytes.{bytes, line_end}
use Rattle.rules.specs.Cards.{zero_byte, plus_byte, minus_byte, space_byte, first_kind, trace_kind, stop_kind, digits, width, is_digit, is_data_kind, word_place, sign_due}
use Rattle.rules.specs.Decks.{Piece, card_size, cards_from}
use Rattle.rules.specs.declared.Fault.{Fault}
use Rattle.rules.specs.declared.Fault.TheVariants.{UnknownKind, SecondFirst, CutShort, BadByte, BadPlace}
use Rattle.rules.specs.declared.DeckFault.{DeckFault}
use Rattle.rules.specs.declared.DeckFault.TheVariants.{TooLong, At, NoFirst}
use Rattle.faults.specs.declared.layout.Field.{Field}
use Rattle.faults.specs.declared.layout.Field.TheVariants.{Kind, CardNumber, Location, Word, Problem, FirstOrder, StopNumber, Count, Shown}
use Rattle.faults.specs.declared.layout.Due.{Due}
use Rattle.faults.specs.declared.layout.Due.TheVariants.{Digit, Sign, Kinds, DataKinds, TheFirst, Upto}

-- ---- where a byte of a card stands

-- how many words a card of that kind has
abbrev pub words_of : ℕ → ℕ
words_of k = pick (is_data_kind k) (k - zero_byte) (pick (eqb k trace_kind) 6 0)

-- the field of its byte o, for a first-order card, a stop card and any other
abbrev pub first_field : ℕ → Field
first_field o = pick (ltb o 4) FirstOrder Problem

abbrev pub stop_field : ℕ → Field
stop_field o = pick (ltb o 3) StopNumber (pick (ltb o 7) Location (pick (ltb o 13) Count Shown))

abbrev pub data_field : ℕ → ℕ → Field
data_field n o = pick (ltb o 5) CardNumber (pick (ltb o 8) Location (pick (ltb o (word_place n)) (Word ((o - 8) / 11)) Problem))

unfoldable pub field_at : ℕ → ℕ → Field
field_at k o = pick (eqb k first_kind) (first_field o) (pick (eqb k stop_kind) (stop_field o) (data_field (words_of k) o))

-- whether a sign is due there; a digit is due at each other place
unfoldable pub due_at : ℕ → ℕ → Due
due_at k o = pick (pick (eqb k stop_kind) (eqb o 13) (sign_due (words_of k) o)) Sign Digit

-- the highest location of a card, so that its last cell is 999, and the highest first order
abbrev pub highest : ℕ → ℕ
highest k = 1000 - pick (is_data_kind k) (k - zero_byte) 1

-- ---- names

unfoldable pub word_name : ℕ → List ℕ
word_name i =
    pick (eqb i 0) (bytes "first word")
    (pick (eqb i 1) (bytes "second word")
    (pick (eqb i 2) (bytes "third word")
    (pick (eqb i 3) (bytes "fourth word")
    (pick (eqb i 4) (bytes "fifth word") (bytes "sixth word")))))

unfoldable pub field_name : Field → List ℕ
field_name Kind = bytes "kind"
field_name CardNumber = bytes "card number"
field_name Location = bytes "location"
field_name (Word i) = word_name i
field_name Problem = bytes "problem number"
field_name FirstOrder = bytes "first order"
field_name StopNumber = bytes "stop number"
field_name Count = bytes "count"
field_name Shown = bytes "word"

unfoldable pub due_name : Due → List ℕ
due_name Digit = bytes "a digit"
due_name Sign = bytes "a sign"
due_name Kinds = bytes "1 to 5 or T"
due_name DataKinds = bytes "1 to 5"
due_name TheFirst = bytes "T"
due_name (Upto n) = bytes "001 to " ++ digits 3 n

abbrev pub is_letter : ℕ → Bool
is_letter b = either (both (leb 65 b) (leb b 90)) (both (leb 97 b) (leb b 122))

-- a byte that can be seen, and is none of the others
abbrev pub is_mark : ℕ → Bool
is_mark b = both (leb 33 b) (leb b 126)

-- a number in as many digits as it has
abbrev pub numeral : ℕ → List ℕ
numeral x = digits (width 20 x) x

-- a byte that cannot be seen
unfoldable pub blank_name : ℕ → List ℕ
blank_name b =
    pick (eqb b 9) (bytes "a tab")
    (pick (eqb b 10) (bytes "a line end")
    (pick (eqb b 13) (bytes "a carriage return") (pick (eqb b space_byte) (bytes "a space") (bytes "number " ++ numeral b))))

unfoldable pub byte_name : ℕ → List ℕ
byte_name b =
    pick (eqb b plus_byte) (bytes "a plus sign")
    (pick (eqb b minus_byte) (bytes "a minus sign")
    (pick (is_digit b) (bytes "a digit " ++ b ∷ [])
    (pick (is_letter b) (bytes "a letter " ++ b ∷ []) (pick (is_mark b) (bytes "a mark " ++ b ∷ []) (blank_name b)))))

-- ---- sentences

-- A sum of two places. Those of a file are far below the largest number of 64 bits.
abbrev pub place_behind : ℕ → ℕ → ℕ
place_behind p o = min (p + o) 18446744073709551615

-- how each begins that is about a card: which card, which field of it, what is due, and at which byte
unfoldable pub head_of : ℕ → Field → Due → ℕ → List ℕ
head_of k f d p =
    bytes "card " ++ numeral k ++ bytes ", its " ++ field_name f ++ bytes ": " ++ due_name d ++ bytes " is due at byte " ++ numeral p ++ bytes ", and "

-- what stands there
abbrev pub found : ℕ → List ℕ
found b = bytes "the byte there is " ++ byte_name b

-- Of card k, which begins at place p, where the bytes d are, what is wrong at its byte o.
unfoldable pub card_sentence : ℕ → ℕ → Fault → ℕ → List ℕ → List ℕ
card_sentence k p UnknownKind o d = head_of k Kind Kinds p ++ found (get_or d 0 0)
card_sentence k p SecondFirst o d = head_of k Kind DataKinds p ++ bytes "the byte there is a second T"
card_sentence k p CutShort o d =
    head_of k (field_at (get_or d 0 0) (length d)) (due_at (get_or d 0 0) (length d)) (place_behind p (length d))
    ++ bytes "the file ends there; the card begins at byte " ++ numeral p
card_sentence k p BadByte o d =
    head_of k (field_at (get_or d 0 0) o) (due_at (get_or d 0 0) o) (place_behind p o) ++ found (get_or d o 0)
card_sentence k p BadPlace o d =
    head_of k (field_at (get_or d 0 0) o) (Upto (highest (get_or d 0 0))) (place_behind p o) ++ bytes "the digits there are " ++ take 3 (drop o d)

-- a deck, or another file, that is too long for a deck; and one of k - 1 cards, up to the place p, without a first-order card
abbrev pub long_sentence : List ℕ
long_sentence = bytes "at most 65536 bytes are due in a deck, and the file is longer"

unfoldable pub none_sentence : ℕ → ℕ → List ℕ
none_sentence k p = head_of k Kind TheFirst p ++ bytes "the file ends there with no first-order card"

-- each with a line end
unfoldable pub card_line : ℕ → ℕ → Fault → ℕ → List ℕ → List ℕ
card_line k p f o d = card_sentence k p f o d ++ line_end ∷ []

abbrev pub long_line : List ℕ
long_line = long_sentence ++ line_end ∷ []

abbrev pub none_line : ℕ → ℕ → List ℕ
none_line k p = none_sentence k p ++ line_end ∷ []

-- ---- a deck

-- how many of the cards begin before a place, up to one with a fault
unfoldable pub count_before : ℕ → List Piece → ℕ
count_before p [] = 0
count_before p (q ∷ qs) =
    elim (both (ltb q.place p) (ltb 0 (card_size q.card))) [
      | true ↦ suc (count_before p qs)
      | false ↦ 0
    ]

-- which card from the start begins at a place
abbrev pub card_from_start : List ℕ → ℕ → ℕ
card_from_start deck p = place_behind (count_before p (cards_from deck 0)) 1

-- the line for what is wrong with a deck
unfoldable pub deck_line : List ℕ → DeckFault → List ℕ
deck_line deck TooLong = long_line
deck_line deck (At p f b) = card_line (card_from_start deck p) p f (b - p) (drop p deck)
deck_line deck (NoFirst n) = none_line (card_from_start deck n) n
