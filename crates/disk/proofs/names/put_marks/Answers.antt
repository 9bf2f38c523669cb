-- `disk::names::put_marks` meets its contract: its marks are the definition's. Assumes nothing.
use Rattle.rules.specs.Bytes.{bytes}
use Rattle.disk.proofs.names.put_marks.Goals as goal

pub returns : goal.returns
unfolding bytes
returns c = c.put_end.ensures
