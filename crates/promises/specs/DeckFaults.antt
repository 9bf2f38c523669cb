-- What each number of a refused deck says, of the deck's bytes: nothing here speaks of how a deck is checked. A card is known by its kind byte;
-- it is as due where it is whole, each byte of it is the digit or sign that its layout has there, and its location or first order is in range.
-- Assumes nothing.
use Rattle.std.specs.Prelude.{ℕ, ◌+◌, ◌*◌, ◌-◌, ◌≤◌, ◌<◌, ◌≡◌, ◌↔◌, ◌⊎◌, List, true, false, eqb, length, get_or, Ok, Err}
use Rattle.rules.specs.Words.{pick}
use Rattle.rules.specs.Drum.{view, drum_fits}
use Rattle.rules.specs.Cards.{zero_byte, first_kind, data_size, first_size, is_data_kind, is_due}
use Rattle.rules.specs.Decks.{deck_of}
use Rattle.rules.specs.Loads.{LoadCall, loaded}
use Rattle.rules.specs.Running.{RunCall, ran}
use Rattle.rules.specs.Numbers.{deck_place, check_number, check_place, loading_number, loading_place, ending_number, ending_place}
use Rattle.rules.specs.Answers.{Deck}
use Rattle.rules.specs.declared.DeckFault.{DeckFault}
use Rattle.rules.specs.declared.DeckFault.TheVariants.{TooLong, At, NoFirst}

-- ---- a card by its kind byte, as the table of cards has it

-- how many words it has, and how many bytes; no bytes where no deck has such a card
abbrev pub words_of : ℕ → ℕ
words_of k = pick (is_data_kind k) (k - zero_byte) 0

abbrev pub bytes_of : ℕ → ℕ
bytes_of k = pick (is_data_kind k) (data_size (k - zero_byte)) (pick (eqb k first_kind) first_size 0)

-- where its location or first order stands, of three digits, and how many cells that names
abbrev pub field_of : ℕ → ℕ
field_of k = pick (is_data_kind k) 5 1

abbrev pub cells_of : ℕ → ℕ
cells_of k = pick (is_data_kind k) (k - zero_byte) 1

-- ---- the card that begins at a place of a deck

abbrev pub byte_at : List ℕ → ℕ → ℕ
byte_at deck p = get_or deck p 0

abbrev pub three_digits : List ℕ → ℕ → ℕ
three_digits deck p = 100 * (byte_at deck p - zero_byte) + 10 * (byte_at deck (p + 1) - zero_byte) + (byte_at deck (p + 2) - zero_byte)

-- its kind is known; all of it is there; its bytes behind the kind are as due up to the byte e
abbrev pub Known : List ℕ → ℕ → Type 0
Known deck p = 1 ≤ bytes_of (byte_at deck p)

abbrev pub Whole : List ℕ → ℕ → Type 0
Whole deck p = p + bytes_of (byte_at deck p) ≤ length deck

abbrev pub DueUpto : List ℕ → ℕ → ℕ → Type 0
DueUpto deck p e = (o : ℕ) → 1 ≤ o → o < e → is_due (words_of (byte_at deck p)) o (byte_at deck (p + o)) ≡ true

-- its first and its last cell are 1 to 999, and so is the first order
abbrev pub InRange : List ℕ → ℕ → Type 0
InRange deck p =
    let first = three_digits deck (p + field_of (byte_at deck p)) in
    (1 ≤ first) × (first + cells_of (byte_at deck p) ≤ 1000)

pub record AsDue (deck : List ℕ) (p : ℕ) : Type 0 where
  pub known : Known deck p
  pub whole : Whole deck p
  pub due : DueUpto deck p (bytes_of (byte_at deck p))
  pub in_range : InRange deck p

-- how many first-order cards it is
abbrev pub firsts : List ℕ → ℕ → ℕ
firsts deck p = pick (eqb (byte_at deck p) first_kind) 1 0

-- From its start up to the place p the deck is cards, each as due and one behind the other, of which t are first-order cards: none or one.
pub data Reached (deck : List ℕ) : ℕ → ℕ → Type 0 where
  from_start : Reached deck 0 0
  one_more : {p t : ℕ} → Reached deck p t → AsDue deck p → t + firsts deck p ≤ 1 → Reached deck (p + bytes_of (byte_at deck p)) (t + firsts deck p)

-- ---- what is wrong

-- A card is looked at: the deck is not too long, all cards before it are as due, it is there, and it is no second first-order card.
pub record Met (deck : List ℕ) (p : ℕ) : Type 0 where
  pub short : length deck ≤ 65536
  pub firsts_before : ℕ
  pub before : Reached deck p firsts_before
  pub here : p < length deck
  pub no_second : firsts_before + firsts deck p ≤ 1

-- 13: its kind is not known.
pub record UnknownKindAt (deck : List ℕ) (place : ℕ) : Type 0 where
  pub met : Met deck place
  pub unknown : bytes_of (byte_at deck place) ≡ 0

-- 14: its kind is known, and the deck ends within it.
pub record CutShortAt (deck : List ℕ) (place : ℕ) : Type 0 where
  pub met : Met deck place
  pub known : Known deck place
  pub cut : length deck < place + bytes_of (byte_at deck place)

-- 15: it is whole, its byte o is not the one due, and all before that byte are as due. That byte is the place.
pub record BadByteAt (deck : List ℕ) (place : ℕ) : Type 0 where
  pub p : ℕ
  pub o : ℕ
  pub met : Met deck p
  pub known : Known deck p
  pub whole : Whole deck p
  pub behind_kind : 1 ≤ o
  pub within : o < bytes_of (byte_at deck p)
  pub due : DueUpto deck p o
  pub not_due : is_due (words_of (byte_at deck p)) o (byte_at deck (p + o)) ≡ false
  pub there : place ≡ p + o

-- 16: it is whole and every byte is as due, and its location, its last cell or its first order is out of range. The place is that field's.
pub record OutOfRangeAt (deck : List ℕ) (place : ℕ) : Type 0 where
  pub p : ℕ
  pub met : Met deck p
  pub known : Known deck p
  pub whole : Whole deck p
  pub due : DueUpto deck p (bytes_of (byte_at deck p))
  pub out : InRange deck p → ⊥
  pub there : place ≡ p + field_of (byte_at deck p)

-- 17: it is a first-order card, whatever its bytes, and there is one before it.
pub record SecondFirstAt (deck : List ℕ) (place : ℕ) : Type 0 where
  pub short : length deck ≤ 65536
  pub before : Reached deck place 1
  pub here : place < length deck
  pub again : byte_at deck place ≡ first_kind

-- 18: all of the deck is cards as due, and none is a first-order card.
pub record NoFirstIn (deck : List ℕ) (place : ℕ) : Type 0 where
  pub short : length deck ≤ 65536
  pub all : Reached deck (length deck) 0
  pub there : place ≡ length deck

-- 11: the deck is too long, whatever its bytes.
pub record TooLongAt (deck : List ℕ) (place : ℕ) : Type 0 where
  pub long : 65536 < length deck
  pub there : place ≡ 65536

-- 0: all of it is cards as due, and just one is a first-order card.
pub record GoodDeck (deck : List ℕ) : Type 0 where
  pub short : length deck ≤ 65536
  pub all : Reached deck (length deck) 1

-- ---- what is told

-- the number and the place that the check of a deck tells
abbrev pub Tells : List ℕ → ℕ → ℕ → Type 0
Tells deck number place = (check_number (deck_of deck) ≡ number) × (check_place (deck_of deck) ≡ place)

-- Each number is told at a place exactly where that is what is wrong, for any bytes; and there is no other number.
pub record NumbersSay : Type 0 where
  pub unknown_kind : (deck : List ℕ) (place : ℕ) → Tells deck 13 place ↔ UnknownKindAt deck place
  pub cut_short : (deck : List ℕ) (place : ℕ) → Tells deck 14 place ↔ CutShortAt deck place
  pub bad_byte : (deck : List ℕ) (place : ℕ) → Tells deck 15 place ↔ BadByteAt deck place
  pub out_of_range : (deck : List ℕ) (place : ℕ) → Tells deck 16 place ↔ OutOfRangeAt deck place
  pub second_first : (deck : List ℕ) (place : ℕ) → Tells deck 17 place ↔ SecondFirstAt deck place
  pub no_first_order : (deck : List ℕ) (place : ℕ) → Tells deck 18 place ↔ NoFirstIn deck place
  pub too_long : (deck : List ℕ) (place : ℕ) → Tells deck 11 place ↔ TooLongAt deck place
  pub good : (deck : List ℕ) → Tells deck 0 0 ↔ GoodDeck deck
  pub no_other : (deck : List ℕ) (place number : ℕ) → Tells deck number place → (number ≡ 0) ⊎ (number ≡ 11) ⊎ ((13 ≤ number) × (number ≤ 18))

-- A load and a run tell of their deck what its check tells: of a drum that fits, for a load always, and for a run where the deck is refused.
pub record CallsTell : Type 0 where
  pub load : (c : LoadCall) → drum_fits (length c.drum) c.marks (view c.drum c.marks) ≡ true
      → Tells c.deck (loading_number (loaded c).loading) (loading_place (loaded c).loading)
  pub run : (c : RunCall) → drum_fits (length c.drum) c.marks (view c.drum c.marks) ≡ true → (check_number (deck_of c.deck) ≡ 0 → ⊥)
      → Tells c.deck (ending_number (ran c).ending) (ending_place (ran c).ending)

-- ---- as before

-- what was told when every fault had the number 11: a bad card at its kind byte
abbrev pub number_before : Deck → ℕ
number_before (Ok start) = 0
number_before (Err f) = 11

abbrev pub place_before : DeckFault → ℕ
place_before TooLong = 65536
place_before (At p f b) = p
place_before (NoFirst n) = n

-- a place at a card's kind byte, or within that card
abbrev pub InCard : List ℕ → ℕ → ℕ → Type 0
InCard deck p place = (place ≡ p) ⊎ ((p < place) × (place < p + bytes_of (byte_at deck p)))

-- the place told now is that one, or lies within the card that begins there
abbrev pub InThatCard : List ℕ → DeckFault → Type 0
InThatCard deck TooLong = deck_place TooLong ≡ place_before TooLong
InThatCard deck (At p f b) = InCard deck (place_before (At p f b)) (deck_place (At p f b))
InThatCard deck (NoFirst n) = deck_place (NoFirst n) ≡ place_before (NoFirst n)

-- A deck is refused now exactly where it was refused before, and its fault is told in the card in which it was told.
pub record RefusedAsBefore : Type 0 where
  pub same_decks : (deck : List ℕ) → (check_number (deck_of deck) ≡ 0) ↔ (number_before (deck_of deck) ≡ 0)
  pub same_card : (deck : List ℕ) (f : DeckFault) → deck_of deck ≡ Err f → InThatCard deck f
