-- What a call of make answers, and what it leaves in the output; what is known of drum and marks that passed check 10; and the data cards of a
-- lent drum. Assumes nothing.
use Rattle.std.specs.Prelude.{◌≡◌, List, ℕ, ◌-◌, length}
use Rattle.rules.specs.Drum.{view}
use Rattle.rules.specs.Making.{MakeResult, Block, blocks_from, blocks_in, cards_for}
use Rattle.rules.specs.Answers.{Making}
use Rattle.drum.specs.Held.{Words}

-- the answer and the output
pub record MakeRight (x : MakeResult) (out : List ℕ) (r : Making) : Type 0 where
  pub making_is : r ≡ x.making
  pub out_is : out ≡ x.out

-- there are 1,000 cells, and each marked one holds a word
pub record Sound (drum marks : List ℕ) : Type 0 where
  pub long : length (view drum marks) ≡ 1000
  pub words : Words (view drum marks)

abbrev pub cards_of : List ℕ → List ℕ → ℕ → List ℕ
cards_of drum marks problem = cards_for (view drum marks) problem 1 (blocks_in (view drum marks))

-- a block as code has it: its first cell, and how many cells it has
abbrev pub block_of : ℕ × ℕ → Block
block_of p = record { location = p.0; cells = p.1 }

-- the blocks of a drum that are ahead of a cell
abbrev pub blocks_left : List ℕ → List ℕ → ℕ → List Block
blocks_left drum marks a = blocks_from (1000 - a) (view drum marks) a

-- there are 1,000 cells
abbrev pub Long : List ℕ → List ℕ → Type 0
Long drum marks = length (view drum marks) ≡ 1000
