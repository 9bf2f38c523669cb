-- `codes::rows::row_of` meets its contract: at each row what is left of the table has the answer of the whole. Assumes nothing.
use Rattle.codes.proofs.Found.{Searched}
use Rattle.codes.proofs.rows.row_of.Given as goal

abbrev pub invariant-loop-i : goal.invariant-loop-i
invariant-loop-i l = Searched l.code l.i
