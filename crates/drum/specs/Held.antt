-- That a lent drum and its marks hold cells of the rules: the drum is the cells laid over some old drum, the marks are the cells' marks.
-- Contracts on lent cells are said through it, each for any old drum and any cells, so that they chain. And what a store leaves.
-- Assumes nothing.
use Rattle.std.specs.Prelude.{ℕ, ◌≤◌, ◌≡◌, List, Bool, ltb, length, set}
use Rattle.rules.specs.Words.{pick, both}
use Rattle.rules.specs.Drum.{view, word_at, marks_of, overlay}
use Rattle.rules.specs.Answers.{Cell}

-- each owned cell holds a word
abbrev pub Words : List Cell → Type 0
Words v = (a : ℕ) → word_at v a ≤ 19999999999

-- the same of a lent drum and its marks
abbrev pub Ready : List ℕ → List ℕ → Type 0
Ready drum marks = Words (view drum marks)

-- the drum and the marks, by the cells
pub record Holds (drum₀ drum marks : List ℕ) (v : List Cell) : Type 0 where
  pub drum_is : drum ≡ overlay drum₀ v
  pub marks_are : marks ≡ marks_of v
  pub old_long : length drum₀ ≡ 1000
  pub long : length v ≡ 1000
  pub words : Words v

-- drum and marks hold what f makes of any cells that they held
abbrev pub Keeps : (drum marks drum' marks' : List ℕ) → (List Cell → List Cell) → Type 0
Keeps drum marks drum' marks' f =
    (drum₀ : List ℕ) (v : List Cell) → Holds drum₀ drum marks v → Holds drum₀ drum' marks' (f v)

-- whether an address has a cell
abbrev pub is_cell : List ℕ → List ℕ → ℕ → Bool
is_cell drum marks a = both (ltb a (length drum)) (ltb a (length marks))

-- what a store of w at a leaves: the word and its mark, where the address has a cell
pub record Stored (drum marks : List ℕ) (a w : ℕ) (drum' marks' : List ℕ) : Type 0 where
  pub drum_is : drum' ≡ pick (is_cell drum marks a) (set drum a w) drum
  pub marks_are : marks' ≡ pick (is_cell drum marks a) (set marks a 1) marks
