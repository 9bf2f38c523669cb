-- `file::state_at` meets its contract: the nine numbers are those at the end of the file. Assumes nothing.
use mathlib.Core.Path.{ap, ◌∙◌}
use Rattle.file.specs.Files.{state_of}
use Rattle.rules.specs.States.{state_in}
use Rattle.file.proofs.reading.state_at.Goals as goal

pub returns : goal.returns
unfolding state_of
returns c = c.from.ensures ∙ ap state_in c.fill_row.ensures
