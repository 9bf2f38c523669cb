-- `with_number` of `faults::Line` meets its contract: the digits stand at the start of their room. Assumes nothing.
use native.Mathlib.Omega.{arith}
use Rattle.faults.proofs.Says.{adds_as, field_taken}
use Rattle.faults.proofs.lines.Line.with_number.Goals as goal

pub returns : goal.returns
returns c =
    adds_as c.args.self (field_taken c.width_of-n.result c.args.x _ c.put_field.ensures (omega (arith, c.width_of-n.ensures.1)) c.width_of-n.ensures.0) c.with.ensures
