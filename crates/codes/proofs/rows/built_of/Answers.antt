-- `codes::rows::built_of` meets its contract: the row with the number, or nothing behind the last. Assumes nothing.
use native.Mathlib.Omega.{arith}
use Rattle.codes.proofs.Found.{no_row}
use Rattle.codes.proofs.rows.built_of.Goals as goal

pub returns-then-i-gt39 : goal.returns-then-i-gt39
returns-then-i-gt39 c = no_row _ (omega arith)

pub returns : goal.returns
returns c = c.row_at-row.ensures.1
