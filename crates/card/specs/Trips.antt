-- The round trips of the code, said of what the contracts of `write_data`, `read_card` and `word_of` say. Assumes nothing.
use Rattle.std.specs.Prelude.{ℕ, ◌≤◌, ◌<◌, ◌≡◌, List, Bool, true, length, get_or, take}
use Rattle.rules.specs.Cards.{data_card, word_in, word_place, data_size, card_of}
use Rattle.rules.specs.Running.{over}
use Rattle.rules.specs.declared.Card.{Card}
use Rattle.rules.specs.declared.Card.TheVariants.{Data}
use Rattle.card.specs.Written.{data_may, Wrote}

-- what `write_data` ensures: the five words and how many of them, the output at entry, the answer and the output at exit
abbrev pub DataWrote : ℕ → ℕ → List ℕ → ℕ → ℕ → List ℕ → Bool → List ℕ → Type 0
DataWrote number location words n problem before said after =
    Wrote (data_may number location words n problem) (data_card number location (take n words) problem) before said after

-- Where `write_data` answers yes, `read_card` then reads the same card there, and `word_of` its words.
abbrev pub WrittenIsRead : Type 0
WrittenIsRead = (number location : ℕ) (words : List ℕ) (n problem : ℕ) (before after : List ℕ) (read : Card) → length words ≡ 5
    → DataWrote number location words n problem before true after
    → read ≡ card_of after
    → (read ≡ Data number location n problem (data_size n)) × ((i : ℕ) → i < n → word_in after (word_place i) ≡ get_or words i 0)

-- A data card that `read_card` read, with the words that `word_of` read, is written by `write_data` byte for byte where there is room.
abbrev pub ReadIsWritten : Type 0
ReadIsWritten = (d : List ℕ) (number location n problem size : ℕ) (words before after : List ℕ) (said : Bool) → length words ≡ 5
    → Data number location n problem size ≡ card_of d
    → ((i : ℕ) → i < n → get_or words i 0 ≡ word_in d (word_place i))
    → size ≤ length before
    → DataWrote number location words n problem before said after
    → (said ≡ true) × (after ≡ over (take size d) before)
