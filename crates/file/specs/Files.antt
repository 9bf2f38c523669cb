-- The machine file (house): 9,072 bytes that hold the drum, the marks and the state, how they are written and how they are read back. A
-- number is eight bytes, the lowest first. Nothing of what the file holds is judged: load and run do that. Assumes nothing.
use Rattle.std.specs.Prelude.{ℕ, zero, suc, ◌+◌, ◌*◌, ◌/◌, ◌%◌, ◌<◌, List, [], ◌∷◌, ◌++◌, Bool, eqb, length, get_or, take, drop}
use Rattle.rules.specs.Words.{both}
use Rattle.rules.specs.States.{state_in, numbers_of}
use Rattle.rules.specs.declared.State.{State}

-- a drum and marks that a file can hold
abbrev pub is_whole : List ℕ → List ℕ → Bool
is_whole drum marks = both (eqb (length drum) 1000) (eqb (length marks) 1000)

-- how long a file is: 1,000 numbers, 1,000 marks and nine numbers
abbrev pub file_size : ℕ
file_size = 9072

-- ---- written

-- the n lowest bytes of x, the lowest first
unfoldable pub low_bytes : ℕ → ℕ → List ℕ
low_bytes zero x = []
low_bytes (suc n) x = x % 256 ∷ low_bytes n (x / 256)

-- numbers, each as eight bytes
unfoldable pub row_bytes : List ℕ → List ℕ
row_bytes [] = []
row_bytes (x ∷ row) = low_bytes 8 x ++ row_bytes row

-- the cells, the marks, and the nine numbers of the state
unfoldable pub file_of : List ℕ → List ℕ → State → List ℕ
file_of drum marks s = row_bytes drum ++ marks ++ row_bytes (numbers_of s)

-- ---- read

-- the number that bytes are, the lowest first
unfoldable pub number_of : List ℕ → ℕ
number_of [] = 0
number_of (b ∷ bytes) = b + 256 * number_of bytes

-- the first n numbers in bytes
unfoldable pub row_in : ℕ → List ℕ → List ℕ
row_in zero bytes = []
row_in (suc n) bytes = number_of (take 8 bytes) ∷ row_in n (drop 8 bytes)

unfoldable pub drum_in : List ℕ → List ℕ
drum_in bytes = row_in 1000 bytes

unfoldable pub marks_in : List ℕ → List ℕ
marks_in bytes = take 1000 (drop 8000 bytes)

unfoldable pub state_of : List ℕ → State
state_of bytes = state_in (row_in 9 (drop 9000 bytes))

-- ---- what fits

-- every number of a row is below m: 256 for a byte, 2 to the power 64 for a number
abbrev pub AllBelow : ℕ → List ℕ → Type 0
AllBelow m row = (i : ℕ) → i < length row → get_or row i 0 < m
