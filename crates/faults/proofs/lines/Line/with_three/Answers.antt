-- `with_three` of `faults::Line` meets its contract: the digits fill their room. Assumes nothing.
use mathlib.Core.Path.{◌∙◌}
use Rattle.rules.proofs.Digits.{length_digits}
use Rattle.octets.proofs.Joins.{put_all}
use Rattle.faults.proofs.Says.{adds_as}
use Rattle.faults.proofs.lines.Line.with_three.Goals as goal

pub returns : goal.returns
returns c = adds_as c.args.self (c.put_field.ensures ∙ put_all _ _ (length_digits 3 c.args.x)) c.with.ensures
