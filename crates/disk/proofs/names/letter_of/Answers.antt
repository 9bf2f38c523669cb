-- `disk::names::letter_of` meets its contract: its table is the definition's. Assumes nothing.
use Rattle.std.proofs.Common.{refl}
use Rattle.rules.specs.Bytes.{bytes}
use Rattle.disk.proofs.names.letter_of.Goals as goal

pub returns : goal.returns
unfolding bytes
returns c = refl
