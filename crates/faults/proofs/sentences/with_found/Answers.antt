-- `faults::sentences::with_found` meets its contract: text behind text. Assumes nothing.
use Rattle.rules.specs.Bytes.{bytes}
use Rattle.faults.proofs.Says.{adds_two}
use Rattle.faults.proofs.sentences.with_found.Goals as goal

pub returns : goal.returns
unfolding bytes
returns c = adds_two c.args.line (bytes "the byte there is ") _ c.with.ensures c.with_byte.ensures
