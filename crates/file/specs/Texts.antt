-- The text of cells (house): decimal numbers with gaps between them, and how they are read. Assumes nothing.
use Rattle.std.specs.Prelude.{ℕ, ◌^◌, List, [], ◌∷◌, ◌++◌, Bool, true, false, eqb, ltb, length, Option, None, Some}
use Rattle.rules.specs.Words.{pick, both, either}
use Rattle.rules.specs.Cards.{space_byte, is_digit}
use Rattle.octets.specs.Longer.{with_digit}

-- A gap is spaces and line ends. The byte 13 stands before each line end in a file from a PC.
abbrev pub is_gap : ℕ → Bool
is_gap b = either (eqb b space_byte) (either (eqb b 10) (eqb b 13))

-- whether a number takes one more digit: it is a digit, and the number still below 2 to the power 64
abbrev pub takes : ℕ → ℕ → Bool
takes x b = both (is_digit b) (ltb (with_digit x b) (2 ^ 64))

-- the numbers done, with x behind them if it was begun
abbrev pub ended : List ℕ → Bool → ℕ → List ℕ
ended done begun x = pick begun (done ++ x ∷ []) done

-- The numbers of a text, or None where a byte is neither in a gap nor a digit that its number takes. `done` are the numbers that have
-- ended before; x is what the digits of the number begun are so far, and 0 in a gap.
unfoldable pub numbers_from : List ℕ → Bool → ℕ → List ℕ → Option (List ℕ)
numbers_from done begun x [] = Some (ended done begun x)
numbers_from done begun x (b ∷ text) =
    pick (is_gap b) (numbers_from (ended done begun x) false 0 text)
    (pick (takes x b) (numbers_from done true (with_digit x b) text) None)

unfoldable pub numbers_in : List ℕ → Option (List ℕ)
numbers_in text = numbers_from [] false 0 text

-- whether there are numbers, and just n of them; and which, in place of those before
unfoldable pub is_count : ℕ → Option (List ℕ) → Bool
is_count n None = false
is_count n (Some numbers) = eqb (length numbers) n

unfoldable pub numbers_or : List ℕ → Option (List ℕ) → List ℕ
numbers_or before None = before
numbers_or before (Some numbers) = numbers

-- a text of 1,000 numbers fills a drum of 1,000 cells
unfoldable pub fills : List ℕ → List ℕ → Bool
fills drum text = both (eqb (length drum) 1000) (is_count 1000 (numbers_in text))

unfoldable pub drum_filled : List ℕ → List ℕ → List ℕ
drum_filled drum text = pick (fills drum text) (numbers_or drum (numbers_in text)) drum
