-- The table of built codes by the number of its row. Assumes nothing.
use Rattle.std.specs.Prelude.{ℕ, suc, List, [], ◌∷◌, map, eqb, get_or, Some, None}
use Rattle.rules.specs.Words.{pick}
use Rattle.rules.specs.Bytes.{bytes}
use Rattle.rules.specs.Codes.{Row}
use Rattle.rules.specs.Answers.{Built}

-- the first row with a code, counted from 0; behind the last where no row has it
unfoldable pub row_in : ℕ → List Row → ℕ
row_in k [] = 0
row_in k (r ∷ rs) = pick (eqb k r.code) 0 (suc (row_in k rs))

-- what stands in a row; behind the last there is no operation and a dash for a name, and any code will do
abbrev pub row_built : ℕ → List Row → Built
row_built n rs = get_or (map (λ (r : Row). Some (r.operation, r.class)) rs) n None

abbrev pub name_at : ℕ → List Row → List ℕ
name_at n rs = get_or (map (λ (r : Row). r.name) rs) n (bytes "-         ")

abbrev pub code_at : ℕ → List Row → ℕ
code_at n rs = get_or (map (λ (r : Row). r.code) rs) n 0
