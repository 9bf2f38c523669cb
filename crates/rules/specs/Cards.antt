-- Cards as bytes: how each kind is written, and how one is read from what is left of a deck. Assumes nothing.
use Rattle.std.specs.Prelude.{ℕ, zero, suc, ◌+◌, ◌-◌, ◌*◌, ◌/◌, ◌%◌, ◌^◌, List, [], ◌∷◌, ◌++◌, Bool, true, eqb, leb, ltb, length, get_or}
use Rattle.rules.specs.Words.{pick, both}
use Rattle.rules.specs.declared.Fault.TheVariants.{UnknownKind, CutShort, BadByte, BadPlace}
use Rattle.rules.specs.declared.Card.{Card}
use Rattle.rules.specs.declared.Card.TheVariants.{Data, First, Bad, End}

-- The bytes that stand for a digit 0, a sign and a kind. A data card's kind is the digit of how many words it has.
abbrev pub zero_byte : ℕ
zero_byte = 48

abbrev pub plus_byte : ℕ
plus_byte = 43

abbrev pub minus_byte : ℕ
minus_byte = 45

abbrev pub space_byte : ℕ
space_byte = 32

abbrev pub first_kind : ℕ
first_kind = 84

abbrev pub trace_kind : ℕ
trace_kind = 88

abbrev pub stop_kind : ℕ
stop_kind = 90

-- ---- written

-- the last n decimal digits of x, the highest first
unfoldable pub digits : ℕ → ℕ → List ℕ
digits zero x = []
digits (suc n) x = (zero_byte + x / 10 ^ n % 10) ∷ digits n x

-- a word: its sign and ten digits
abbrev pub sign_byte : ℕ → ℕ
sign_byte w = pick (ltb w 10000000000) plus_byte minus_byte

unfoldable pub word_bytes : ℕ → List ℕ
word_bytes w = sign_byte w ∷ digits 10 w

unfoldable pub words_bytes : List ℕ → List ℕ
words_bytes [] = []
words_bytes (w ∷ ws) = word_bytes w ++ words_bytes ws

-- kinds 1 to 5: card number, location, the words, problem number
unfoldable pub data_card : ℕ → ℕ → List ℕ → ℕ → List ℕ
data_card number location words problem =
    (zero_byte + length words) ∷ digits 4 number ++ digits 3 location ++ words_bytes words ++ digits 3 problem

-- T: first order, problem number
unfoldable pub first_card : ℕ → ℕ → List ℕ
first_card order problem = first_kind ∷ digits 3 order ++ digits 3 problem

-- X: card number, location, six words, problem number
unfoldable pub trace_card : ℕ → ℕ → List ℕ → ℕ → List ℕ
trace_card number location words problem =
    trace_kind ∷ digits 4 number ++ digits 3 location ++ words_bytes words ++ digits 3 problem

-- Z: stop number, location, count, the word shown
unfoldable pub stop_card : ℕ → ℕ → ℕ → ℕ → List ℕ
stop_card number location count shown = stop_kind ∷ digits 2 number ++ digits 4 location ++ digits 6 count ++ word_bytes shown

-- how many digits a number is written with, of at most so many: 1 for 0
unfoldable pub width : ℕ → ℕ → ℕ
width zero x = 1
width (suc n) x = pick (ltb x 10) 1 (suc (width n (x / 10)))

-- what the program writes of a call that is refused at its entry: the number, a space and the place
unfoldable pub refusal_line : ℕ → ℕ → List ℕ
refusal_line number place = digits (width 20 number) number ++ space_byte ∷ digits (width 20 place) place

-- ---- read

abbrev pub is_digit : ℕ → Bool
is_digit b = both (leb zero_byte b) (leb b 57)

abbrev pub is_sign : ℕ → Bool
is_sign b = pick (eqb b plus_byte) true (eqb b minus_byte)

-- the number that n digits from place a on are
unfoldable pub number_in : List ℕ → ℕ → ℕ → ℕ
number_in d a zero = 0
number_in d a (suc n) = 10 * number_in d a n + (get_or d (a + n) 0 - zero_byte)

-- the word at place a
unfoldable pub word_in : List ℕ → ℕ → ℕ
word_in d a = number_in d (a + 1) 10 + pick (eqb (get_or d a 0) minus_byte) 10000000000 0

-- the place of a data card's word i, and how long a card of n words and a first-order card are
abbrev pub word_place : ℕ → ℕ
word_place i = 8 + 11 * i

abbrev pub data_size : ℕ → ℕ
data_size n = 11 + 11 * n

abbrev pub first_size : ℕ
first_size = 7

-- whether a sign is due at place o of a card of n words; a digit is due at each other place behind the kind
abbrev pub sign_due : ℕ → ℕ → Bool
sign_due n o = both (leb 8 o) (both (ltb o (word_place n)) (eqb ((o - 8) % 11) 0))

abbrev pub is_due : ℕ → ℕ → ℕ → Bool
is_due n o b = pick (sign_due n o) (is_sign b) (is_digit b)

-- from place o on, the first of k places whose byte is not the one due; the place behind them if there is none
unfoldable pub bad_from : ℕ → List ℕ → ℕ → ℕ → ℕ
bad_from n d o zero = o
bad_from n d o (suc k) = pick (is_due n o (get_or d o 0)) (bad_from n d (suc o) k) o

-- A card's location, and that of its last word, is 1 to 999; so is the first order.
abbrev pub cells_fit : ℕ → ℕ → Bool
cells_fit location n = both (leb 1 location) (leb (location + n) 1000)

-- a card of that many words and bytes, if it is whole and each byte is the one due; else its fault and the offending byte
abbrev pub whole_card : ℕ → ℕ → List ℕ → Card → Card
whole_card n size d card =
    pick (ltb (length d) size) (Bad CutShort 0)
    (pick (ltb (bad_from n d 1 (size - 1)) size) (Bad BadByte (bad_from n d 1 (size - 1))) card)

unfoldable pub data_of : ℕ → List ℕ → Card
data_of n d =
    whole_card n (data_size n) d
    (pick (cells_fit (number_in d 5 3) n) (Data (number_in d 1 4) (number_in d 5 3) n (number_in d (word_place n) 3) (data_size n)) (Bad BadPlace 5))

unfoldable pub first_of : List ℕ → Card
first_of d = whole_card 0 first_size d (pick (cells_fit (number_in d 1 3) 1) (First (number_in d 1 3) (number_in d 4 3)) (Bad BadPlace 1))

-- the card of a kind: kinds 1 to 5 and T stand in decks
abbrev pub is_data_kind : ℕ → Bool
is_data_kind k = both (leb 49 k) (leb k 53)

unfoldable pub card_of : List ℕ → Card
card_of [] = End
card_of (k ∷ d) =
    pick (is_data_kind k) (data_of (k - zero_byte) (k ∷ d)) (pick (eqb k first_kind) (first_of (k ∷ d)) (Bad UnknownKind 0))
