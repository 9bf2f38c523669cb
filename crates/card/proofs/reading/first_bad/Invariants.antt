-- `card::first_bad` meets its contract: at each place what is left to look at has the answer of the whole. Assumes nothing.
use Rattle.card.proofs.Looks.{Looked}
use Rattle.card.proofs.reading.first_bad.Given as goal

abbrev pub invariant-loop-o : goal.invariant-loop-o
invariant-loop-o l = Looked l.n l.rest l.size l.o
