-- `says::write_refused` meets its contract: the writer of a line says it. Assumes nothing.
use Rattle.says.proofs.Answers.{line_closed, closed_counts}
use Rattle.says.proofs.closing.write_refused.Goals as goal

pub returns : goal.returns
returns c =
    let w = line_closed _ _ _ _ c.write_line.ensures in
    record { closed = w; within = closed_counts _ _ _ _ _ w }
