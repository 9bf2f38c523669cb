-- The round trips of cards: what is written is read back, whatever stands behind it, and what is read is written again byte for byte.
-- Assumes nothing.
use Rattle.std.specs.Prelude.{ℕ, zero, suc, ◌+◌, ◌-◌, ◌≤◌, ◌<◌, ◌≡◌, List, [], ◌∷◌, ◌++◌, length, get_or, take}
use Rattle.rules.specs.Cards.{data_card, first_card, word_in, word_place, data_size, first_size, card_of}
use Rattle.rules.specs.declared.Card.TheVariants.{Data, First}

-- what a data card may say: its number and problem number as wide as their fields, one to five words, its cells within 1 to 999
pub record Allowed (number location : ℕ) (words : List ℕ) (problem : ℕ) : Type 0 where
  pub numbered : number ≤ 9999
  pub from : 1 ≤ location
  pub upto : location + length words - 1 ≤ 999
  pub some : 1 ≤ length words
  pub few : length words ≤ 5
  pub signed : (i : ℕ) → i < length words → get_or words i 0 ≤ 19999999999
  pub posed : problem ≤ 999

-- the words of a card, and that these are they
unfoldable pub words_of : List ℕ → ℕ → List ℕ
words_of d zero = []
words_of d (suc n) = words_of d n ++ (word_in d (word_place n) ∷ [])

abbrev pub Shows : List ℕ → List ℕ → Type 0
Shows d words = (i : ℕ) → i < length words → word_in d (word_place i) ≡ get_or words i 0

-- A data card that may be written is read as itself, with its words, whatever follows it.
abbrev pub DataReadBack : Type 0
DataReadBack = (number location : ℕ) (words : List ℕ) (problem : ℕ) (rest : List ℕ) → Allowed number location words problem
    → (card_of (data_card number location words problem ++ rest) ≡ Data number location (length words) problem (data_size (length words)))
    × Shows (data_card number location words problem ++ rest) words

-- Bytes that are read as a data card are that card, written under its own numbers and with its own words.
abbrev pub DataWrittenAgain : Type 0
DataWrittenAgain = (d : List ℕ) (number location n problem size : ℕ) → card_of d ≡ Data number location n problem size
    → data_card number location (words_of d n) problem ≡ take size d

-- A first-order card is read as itself, whatever follows it.
abbrev pub FirstReadBack : Type 0
FirstReadBack = (order problem : ℕ) (rest : List ℕ) → 1 ≤ order → order ≤ 999 → problem ≤ 999
    → card_of (first_card order problem ++ rest) ≡ First order problem

-- Bytes that are read as a first-order card are that card, written under its own numbers.
abbrev pub FirstWrittenAgain : Type 0
FirstWrittenAgain = (d : List ℕ) (order problem : ℕ) → card_of d ≡ First order problem → first_card order problem ≡ take first_size d
