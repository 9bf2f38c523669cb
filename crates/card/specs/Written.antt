-- What writing a card leaves in the output: all of the card over its start, or, where a field is out of range or the room too small,
-- nothing at all. Assumes nothing.
use Rattle.std.specs.Prelude.{ℕ, ◌≡◌, List, [], ◌∷◌, Bool, true, leb, length, take}
use Rattle.rules.specs.Words.{pick, both, is_word}
use Rattle.rules.specs.Cards.{cells_fit}
use Rattle.rules.specs.Running.{over}

-- ---- fields in range

unfoldable pub all_words : List ℕ → Bool
all_words [] = true
all_words (w ∷ ws) = both (is_word w) (all_words ws)

-- a data card of n words: one to five of them, in cells 1 to 999
abbrev pub data_may : ℕ → ℕ → List ℕ → ℕ → ℕ → Bool
data_may number location words n problem =
    both (leb number 9999)
    (both (leb 1 n) (both (leb n 5) (both (cells_fit location n) (both (leb problem 999) (all_words (take n words))))))

-- a first-order card: the first order is one cell
abbrev pub first_may : ℕ → ℕ → Bool
first_may order problem = both (cells_fit order 1) (leb problem 999)

-- a trace card: the location is that of its order
abbrev pub trace_may : ℕ → ℕ → List ℕ → ℕ → Bool
trace_may number location words problem =
    both (leb number 9999) (both (cells_fit location 1) (both (leb problem 999) (all_words words)))

-- a stop card: each number as wide as its field
abbrev pub stop_may : ℕ → ℕ → ℕ → ℕ → Bool
stop_may number location count shown =
    both (leb number 99) (both (leb location 9999) (both (leb count 999999) (is_word shown)))

-- ---- the output

-- a card that may be written is written if there is room for it
abbrev pub fits : Bool → List ℕ → List ℕ → Bool
fits may card out = both may (leb (length card) (length out))

abbrev pub written : Bool → List ℕ → List ℕ → List ℕ
written may card out = pick (fits may card out) (over card out) out

-- what a writer answers, and what it leaves in the output
pub record Wrote (may : Bool) (card before : List ℕ) (said : Bool) (after : List ℕ) : Type 0 where
  pub answer : said ≡ fits may card before
  pub bytes : after ≡ written may card before

-- the same for a line, of which it answers the length, and 0 where it is not written
pub record WroteLine (line before : List ℕ) (said : ℕ) (after : List ℕ) : Type 0 where
  pub answer : said ≡ pick (fits true line before) (length line) 0
  pub bytes : after ≡ written true line before
