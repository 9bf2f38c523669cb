-- A machine that nothing was loaded on, and its file. Assumes nothing.
use Rattle.std.specs.Prelude.{ℕ, List, replicate}
use Rattle.rules.specs.States.{no_state}
use Rattle.file.specs.Files.{file_of}

-- 1,000 cells of 0; and 1,000 marks of 0
abbrev pub zeros : List ℕ
zeros = replicate 1000 0

-- the bytes of a new machine file of these cells: no mark, and nine zeros for a state
abbrev pub new_file : List ℕ → List ℕ
new_file drum = file_of drum zeros no_state
