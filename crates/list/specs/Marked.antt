-- The marked cells of a drum as lines. They are made from the view, in which an unmarked cell has no word, so no line can show one.
-- Assumes nothing.
use Rattle.std.specs.Prelude.{ℕ, zero, suc, List, [], ◌++◌, Some, None}
use Rattle.rules.specs.Drum.{cell_at}
use Rattle.rules.specs.Answers.{Cell}
use Rattle.list.specs.Listing.{cell_shown}

-- the line of the cell at an address: none where it is unmarked
abbrev pub line_of : ℕ → Cell → List ℕ
line_of a None = []
line_of a (Some w) = cell_shown a w

-- the lines of the first n cells
unfoldable pub lines_upto : List Cell → ℕ → List ℕ
lines_upto v zero = []
lines_upto v (suc a) = lines_upto v a ++ line_of a (cell_at v a)

-- those of all cells
abbrev pub marked_lines : List Cell → List ℕ
marked_lines v = lines_upto v 1000
