-- `number::difference` meets its contract: the sign of the second number is turned. Assumes nothing.
use mathlib.Core.Path.{ap, ◌∙◌}
use Rattle.rules.specs.Rounding.{Value, single, sum_of, difference_of}
use Rattle.rules.specs.Arithmetic.{word_of, sub_of}
use Rattle.number.specs.Operands.{value_of}
use Rattle.number.proofs.Taken.{no_first, no_second, of_two, of_values}
use Rattle.number.proofs.sums.difference.Goals as goal

pub returns-in_err-operand : goal.returns-in_err-operand
unfolding sub_of
returns-in_err-operand c = no_first c.args.a _ c.args.b c.from_residual.result c.from_residual.ensures.1 c.in_err-operand.ensures

pub returns-in_err-operand-2 : goal.returns-in_err-operand-2
unfolding sub_of
returns-in_err-operand-2 c =
    no_second c.args.a _ c.args.b c.from_residual-in_err-operand-2.result c.from_residual-in_err-operand-2.ensures.1 c.in_ok-operand.ensures.0 c.in_err-operand-2.ensures

pub returns : goal.returns
unfolding sub_of sum_of difference_of
returns c =
    let x = c.in_ok-operand.ensures in
    let y = c.in_ok-operand-2.ensures in
    c.plus.ensures
    ∙ ap (λ (v : Value). word_of (sum_of single (value_of c.in_ok-operand.field-0) v)) c.negated.ensures
    ∙ of_values _ _ _ _ x.1 y.1 (λ (u v : Value). word_of (difference_of single u v))
    ∙ of_two c.args.a _ c.args.b x.0 y.0
