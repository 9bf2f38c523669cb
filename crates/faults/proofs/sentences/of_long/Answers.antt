-- `faults::sentences::of_long` meets its contract. Assumes nothing.
use native.Mathlib.Omega.{arith}
use mathlib.Core.List.{[]}
use Rattle.rules.specs.Bytes.{bytes}
use Rattle.faults.specs.Sentences.{long_line}
use Rattle.faults.proofs.Says.{none_said, then_said, said_whole}
use Rattle.faults.proofs.sentences.of_long.Goals as goal

pub returns : goal.returns
unfolding bytes
returns c = said_whole long_line (omega arith) (then_said [] _ (none_said c.empty.ensures) c.with.ensures)
