-- The drum as the job sees it: the view, a list of cells. A cell that the job does not own has no content there, so nothing that is
-- defined over the view can speak of one. How the view is made from the lent drum and marks, how they are had back from it, and check
-- 10. Assumes nothing.
use Rattle.std.specs.Prelude.{ℕ, zero, suc, List, [], ◌∷◌, Bool, true, false, eqb, leb, length, get_or, set, Some, None}
use Rattle.rules.specs.Words.{both, is_word}
use Rattle.rules.specs.Answers.{Cell}

-- of a mark and the number beside it
abbrev pub cell_of : ℕ → ℕ → Cell
cell_of zero w = None
cell_of (suc m) w = Some w

unfoldable pub view : List ℕ → List ℕ → List Cell
view [] ms = []
view (d ∷ ds) [] = []
view (d ∷ ds) (m ∷ ms) = cell_of m d ∷ view ds ms

abbrev pub cell_at : List Cell → ℕ → Cell
cell_at v a = get_or v a None

-- every store marks
abbrev pub store : List Cell → ℕ → ℕ → List Cell
store v a w = set v a (Some w)

abbrev pub is_owned : Cell → Bool
is_owned None = false
is_owned (Some w) = true

-- the word that a cell shows: +0 where it is unmarked
abbrev pub shown : Cell → ℕ
shown None = 0
shown (Some w) = w

abbrev pub word_at : List Cell → ℕ → ℕ
word_at v a = shown (cell_at v a)

-- What the lent marks and drum hold once the cells are v. A foreign cell's number is the one that was there.
abbrev pub mark_of : Cell → ℕ
mark_of None = 0
mark_of (Some w) = 1

unfoldable pub marks_of : List Cell → List ℕ
marks_of [] = []
marks_of (c ∷ v) = mark_of c ∷ marks_of v

abbrev pub number_over : Cell → ℕ → ℕ
number_over None d = d
number_over (Some w) d = w

unfoldable pub overlay : List ℕ → List Cell → List ℕ
overlay [] v = []
overlay (d ∷ ds) [] = d ∷ ds
overlay (d ∷ ds) (c ∷ v) = number_over c d ∷ overlay ds v

-- Check 10: drum and marks are 1,000 long, each mark is 0 or 1, and each marked cell holds a word. An unmarked one is never judged.
unfoldable pub marks_fit : List ℕ → Bool
marks_fit [] = true
marks_fit (m ∷ ms) = both (leb m 1) (marks_fit ms)

abbrev pub word_fits : Cell → Bool
word_fits None = true
word_fits (Some w) = is_word w

unfoldable pub words_fit : List Cell → Bool
words_fit [] = true
words_fit (c ∷ v) = both (word_fits c) (words_fit v)

unfoldable pub drum_fits : ℕ → List ℕ → List Cell → Bool
drum_fits size ms v = both (both (eqb size 1000) (eqb (length ms) 1000)) (both (marks_fit ms) (words_fit v))
