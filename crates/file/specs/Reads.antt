-- What reading a machine file or a text of cells answers, and what it leaves in the drum and the marks: all that was read, or what was
-- there before. Assumes nothing.
use Rattle.std.specs.Prelude.{ℕ, ◌≡◌, List, Bool, true, eqb, length, Option, Some, None}
use Rattle.rules.specs.Words.{pick, both}
use Rattle.rules.specs.declared.State.{State}
use Rattle.file.specs.Files.{is_whole, file_size, drum_in, marks_in, state_of}
use Rattle.file.specs.Texts.{is_count, fills, drum_filled}

-- bytes as many as a file has, and a drum and marks that it can fill
abbrev pub is_file : List ℕ → List ℕ → List ℕ → Bool
is_file drum marks bytes = both (is_whole drum marks) (eqb (length bytes) file_size)

-- what `read_file` ensures: drum, marks and bytes at entry, the state found, drum and marks at exit
pub record FileRead (drum₀ marks₀ bytes : List ℕ) (found : Option State) (drum marks : List ℕ) : Type 0 where
  pub found_is : found ≡ pick (is_file drum₀ marks₀ bytes) (Some (state_of bytes)) None
  pub drum_is : drum ≡ pick (is_file drum₀ marks₀ bytes) (drum_in bytes) drum₀
  pub marks_are : marks ≡ pick (is_file drum₀ marks₀ bytes) (marks_in bytes) marks₀

-- what `read_cells` ensures: drum and text at entry, the answer, the drum at exit
pub record CellsRead (drum₀ text : List ℕ) (said : Bool) (drum : List ℕ) : Type 0 where
  pub answer : said ≡ fills drum₀ text
  pub drum_is : drum ≡ drum_filled drum₀ text

-- whether n numbers were found, and that the cells then hold them
pub record Scanned (n : ℕ) (found : Option (List ℕ)) (said : Bool) (cells : List ℕ) : Type 0 where
  pub answer : said ≡ is_count n found
  pub numbers : said ≡ true → found ≡ Some cells
