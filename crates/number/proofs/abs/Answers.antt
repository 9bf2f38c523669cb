-- `number::abs` meets its contract: the digits with plus. Assumes nothing.
use Rattle.rules.specs.Arithmetic.{abs_of}
use Rattle.number.proofs.Taken.{no_number, of_one}
use Rattle.number.proofs.abs.Goals as goal

pub returns-in_err-operand : goal.returns-in_err-operand
unfolding abs_of
returns-in_err-operand c = no_number c.args.b _ c.from_residual.result c.from_residual.ensures.1 c.in_err-operand.ensures

pub returns : goal.returns
unfolding abs_of
returns c = of_one c.args.b _ c.in_ok-operand.ensures.0
