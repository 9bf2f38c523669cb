-- Cards as lines that people read: a card's first line says what it is, and a line for each of its words shows the word and how it
-- reads as an order. Every line has columns of one width and ends with a line end. Assumes nothing.
use Rattle.std.specs.Prelude.{ℕ, zero, suc, ◌+◌, ◌-◌, List, [], ◌∷◌, ◌++◌, Bool, false, eqb, leb, ltb, length, get_or, take, drop}
use Rattle.rules.specs.Words.{pick, both, either, is_word, first_digit, a_in, b_in, c_in}
use Rattle.rules.specs.Bytes.{bytes, line_end}
use Rattle.rules.specs.Cards.{first_kind, trace_kind, stop_kind, digits, word_bytes, is_sign, word_in, word_place, data_size, first_size, bad_from, card_of}
use Rattle.rules.specs.Codes.{codes, name_in, code_in}
use Rattle.rules.specs.declared.Fault.TheVariants.{SecondFirst, CutShort, BadByte}
use Rattle.rules.specs.declared.Card.{Card}
use Rattle.rules.specs.declared.Card.TheVariants.{Data, First, Bad, End}
use Rattle.faults.specs.Sentences.{place_behind, card_line, long_line, none_line}
use Rattle.list.specs.declared.ends.Seen.{Seen}

-- ---- words

-- the name of a word's code
abbrev pub name_of : ℕ → List ℕ
name_of w = name_in (code_in w) codes

-- the A-address; where O1 is 0 there is none
abbrev pub a_text : ℕ → List ℕ
a_text w = pick (eqb (first_digit w) 0) (bytes "   ") (digits 3 (a_in w))

-- A line with a word: a label, the word, and its name and addresses as an order. Any word has them: whether it is an order is not known.
unfoldable pub order_line : List ℕ → ℕ → List ℕ
order_line label w =
    label ++ word_bytes w ++ bytes "  " ++ name_of w ++ bytes "  " ++ a_text w ++ bytes " " ++ digits 3 (b_in w) ++ bytes " " ++ digits 3 (c_in w) ++ line_end ∷ []

-- the line of one cell, and what is shown of any two numbers
unfoldable pub cell_line : ℕ → ℕ → List ℕ
cell_line address w = order_line (bytes "  " ++ digits 3 address ++ bytes "  ") w

unfoldable pub cell_shown : ℕ → ℕ → List ℕ
cell_shown address w = pick (both (leb address 999) (is_word w)) (cell_line address w) []

-- ---- cards. Their fields are shown as they stand on the card.

abbrev pub field_in : List ℕ → ℕ → ℕ → List ℕ
field_in d a n = take n (drop a d)

-- card number, location and problem number, which stands behind the words
unfoldable pub head_line : List ℕ → List ℕ → ℕ → List ℕ
head_line title d back =
    title ++ field_in d 1 4 ++ bytes "  at " ++ field_in d 5 3 ++ bytes "  problem " ++ field_in d back 3 ++ line_end ∷ []

-- the first n words, in the cells from a location on
unfoldable pub cell_lines : List ℕ → ℕ → ℕ → List ℕ
cell_lines d location zero = []
cell_lines d location (suc i) = cell_lines d location i ++ cell_line (location + i) (word_in d (word_place i))

unfoldable pub data_lines : List ℕ → ℕ → ℕ → List ℕ
data_lines d location n = head_line (bytes "card  ") d (word_place n) ++ cell_lines d location n

unfoldable pub first_line : List ℕ → List ℕ
first_line d = bytes "first order " ++ field_in d 1 3 ++ bytes "     problem " ++ field_in d 4 3 ++ line_end ∷ []

-- a trace card: of its words two are orders, and the third is the loop box
unfoldable pub shown_lines : List ℕ → List ℕ
shown_lines d =
    bytes "  loop box   " ++ field_in d 32 3 ++ bytes " " ++ field_in d 35 3 ++ bytes " " ++ field_in d 38 3 ++ line_end ∷
    bytes "  A's word   " ++ field_in d (word_place 3) 11 ++ line_end ∷
    bytes "  B's word   " ++ field_in d (word_place 4) 11 ++ line_end ∷
    bytes "  cell 000   " ++ field_in d (word_place 5) 11 ++ line_end ∷ []

unfoldable pub trace_lines : List ℕ → List ℕ
trace_lines d =
    head_line (bytes "trace ") d (word_place 6) ++
    order_line (bytes "  as stored  ") (word_in d (word_place 0)) ++
    order_line (bytes "  as done    ") (word_in d (word_place 1)) ++
    shown_lines d

unfoldable pub stop_line : List ℕ → List ℕ
stop_line d =
    bytes "stop  " ++ field_in d 1 2 ++ bytes "    at " ++ field_in d 3 4 ++
    bytes "  orders " ++ field_in d 7 6 ++ bytes "  shows " ++ field_in d 13 11 ++ line_end ∷ []

-- ---- what stands at the start of d

abbrev pub stop_size : ℕ
stop_size = 24

-- a whole trace card, laid out as a data card of six words
unfoldable pub is_trace : List ℕ → Bool
is_trace d =
    both (leb (data_size 6) (length d)) (both (eqb (get_or d 0 0) trace_kind) (eqb (bad_from 6 d 1 (data_size 6 - 1)) (data_size 6)))

-- the first byte of a stop card that is not the one due, which are twelve digits, a sign and ten digits; its size where there is none
unfoldable pub stop_bad : List ℕ → ℕ
stop_bad d =
    pick (ltb (bad_from 0 d 1 12) 13) (bad_from 0 d 1 12) (pick (is_sign (get_or d 13 0)) (13 + bad_from 0 (drop 13 d) 1 10) 13)

-- a whole stop card
unfoldable pub is_stop : List ℕ → Bool
is_stop d = both (leb stop_size (length d)) (both (eqb (get_or d 0 0) stop_kind) (eqb (stop_bad d) stop_size))

-- by the card that a deck may hold, or else a trace or stop card: its lines and how many bytes it takes, or nothing
abbrev pub lines_by : Card → List ℕ → List ℕ
lines_by (Data number location n problem size) d = data_lines d location n
lines_by (First order problem) d = first_line d
lines_by (Bad f b) d = pick (is_trace d) (trace_lines d) (pick (is_stop d) (stop_line d) [])
lines_by End d = []

abbrev pub size_by : Card → List ℕ → ℕ
size_by (Data number location n problem size) d = size
size_by (First order problem) d = first_size
size_by (Bad f b) d = pick (is_trace d) (data_size 6) (pick (is_stop d) stop_size 0)
size_by End d = 0

unfoldable pub lines_of : List ℕ → List ℕ
lines_of d = lines_by (card_of d) d

unfoldable pub size_of : List ℕ → ℕ
size_of d = size_by (card_of d) d

-- ---- how a listing ends

-- what has been listed: how many cards, whether one is a first-order card, and whether one stands in no deck
abbrev pub none_seen : Seen
none_seen = record { cards = 0; first = false; other = false }

-- with the card more that has this kind
abbrev pub with_kind : Seen → ℕ → Seen
with_kind s k =
    record {
      cards = place_behind s.cards 1;
      first = either (eqb k first_kind) s.first;
      other = either (either (eqb k trace_kind) (eqb k stop_kind)) s.other;
    }

-- a second first-order card, at which a listing ends as the check of a deck does
abbrev pub is_second : Seen → List ℕ → Bool
is_second s d = both s.first (eqb (get_or d 0 0) first_kind)

-- how many bytes the next card takes: none where the listing ends
abbrev pub size_met : Seen → List ℕ → ℕ
size_met s d = pick (is_second s d) 0 (size_of d)

-- What is wrong with the bytes where no card begins. A trace card or a stop card is cut short, or a byte of it is not the one due.
unfoldable pub wrong_in : List ℕ → Card
wrong_in d =
    pick (eqb (get_or d 0 0) trace_kind) (pick (ltb (length d) (data_size 6)) (Bad CutShort 0) (Bad BadByte (bad_from 6 d 1 (data_size 6 - 1))))
    (pick (eqb (get_or d 0 0) stop_kind) (pick (ltb (length d) stop_size) (Bad CutShort 0) (Bad BadByte (stop_bad d))) (card_of d))

abbrev pub wrong_met : Seen → List ℕ → Card
wrong_met s d = pick (is_second s d) (Bad SecondFirst 0) (wrong_in d)

-- The line for the end of a file. One with a card that stands in no deck is what a run wrote, and anything may be in it. Any other is a deck, and
-- it is said if it is too long or has no first-order card.
unfoldable pub end_line : Seen → ℕ → List ℕ
end_line s p = pick s.other [] (pick (ltb 65536 p) long_line (pick s.first [] (none_line (place_behind s.cards 1) p)))

-- The last line of a listing that ends at place p, where the rest of the file is d.
abbrev pub last_by : Seen → ℕ → List ℕ → Card → List ℕ
last_by s p d (Bad f o) = card_line (place_behind s.cards 1) p f o d
last_by s p d (Data number location n problem size) = end_line s p
last_by s p d (First order problem) = end_line s p
last_by s p d End = end_line s p

unfoldable pub last_line : Seen → ℕ → List ℕ → List ℕ
last_line s p d = last_by s p d (wrong_met s d)

-- ---- a whole file

-- The lines of what is left of a file from place `at` on, once so many bytes of it are passed: those of its cards, up to the end of the
-- file or to where there is no card, and the last line.
unfoldable pub listed_from : ℕ → ℕ → Seen → List ℕ → List ℕ
listed_from skip at s [] = last_line s at []
listed_from (suc k) at s (b ∷ d) = listed_from k (at + 1) s d
listed_from zero at s (b ∷ d) =
    elim (size_met s (b ∷ d)) [
      | zero ↦ last_line s at (b ∷ d)
      | suc k ↦ lines_of (b ∷ d) ++ listed_from k (at + 1) (with_kind s b) d
    ]

unfoldable pub listing : List ℕ → List ℕ
listing d = listed_from 0 0 none_seen d
