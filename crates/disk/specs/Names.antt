-- Names of files as bytes in a room. Assumes nothing.
use Rattle.std.specs.Prelude.{ℕ, ◌+◌, ◌-◌, ◌%◌, ◌≡◌, List, length, take, set, replicate, get_or, slice_index_or}
use Rattle.rules.specs.Bytes.{bytes}
use Rattle.octets.specs.Put.{splice}

-- as much of a part as there is room for from a place on
abbrev pub cut : List ℕ → ℕ → List ℕ → List ℕ
cut room at part = take (length room - at) part

-- the room with it there, and the place behind it
abbrev pub with_part : List ℕ → ℕ → List ℕ → List ℕ
with_part room at part = splice at (cut room at part) room

abbrev pub behind_part : List ℕ → ℕ → List ℕ → ℕ
behind_part room at part = at + length (cut room at part)

-- what stands behind a name in that of a new file beside it; letters are put in place of the last six
abbrev pub new_mark : List ℕ
new_mark = bytes ".new-XXXXXX"

-- the name of a new file beside the one at a path, and its length
abbrev pub beside_room : List ℕ → List ℕ → List ℕ
beside_room room path = with_part (with_part room 0 path) (behind_part room 0 path) new_mark

abbrev pub beside_size : List ℕ → List ℕ → ℕ
beside_size room path = behind_part (with_part room 0 path) (behind_part room 0 path) new_mark

-- a path as C takes it: at most 4,095 bytes of it, and zeros behind them
abbrev pub ended_path : List ℕ → List ℕ
ended_path path = set (with_part (replicate 4096 0) 0 path) 4095 0

-- the last of a path's 4,096 bytes is 0
abbrev pub Ended : List ℕ → Type 0
Ended path = slice_index_or path 4095 1 ≡ 0

-- a name with these bytes at its end, as many of them as it has
abbrev pub with_end : List ℕ → List ℕ → List ℕ
with_end name end = with_part name (length name - length end) end

-- what stands at the end of such a name before letters do
abbrev pub six_marks : List ℕ
six_marks = bytes "XXXXXX"

-- the letter or digit that a byte chooses
abbrev pub letters : List ℕ
letters = bytes "ABCDEFGHIJKLMNOPQRSTUVWXYZabcdefghijklmnopqrstuvwxyz0123456789"

abbrev pub letter_of : ℕ → ℕ
letter_of drawn = get_or letters (drawn % 62) 0
