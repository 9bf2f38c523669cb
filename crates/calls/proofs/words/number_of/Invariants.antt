-- `calls::number_of` meets its contract: what is left of the digits, behind the number of those passed, is the whole number. Assumes nothing.
use Rattle.calls.proofs.Letters.{Left}
use Rattle.calls.proofs.words.number_of.Given as goal

abbrev pub invariant-loop-b : goal.invariant-loop-b
invariant-loop-b l = Left l.text l.x l.b-index
