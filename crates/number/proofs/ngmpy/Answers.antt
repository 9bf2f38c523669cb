-- `number::ngmpy` meets its contract: minus where one of the two has it, turned. Assumes nothing.
use mathlib.Core.Path.{ap, ◌∙◌}
use Prim.Native.Nat.{ℕ, ◌-◌}
use Rattle.rules.specs.Rounding.{Value, single, product_of}
use Rattle.rules.specs.Arithmetic.{word_of, ngmpy_of}
use Rattle.number.specs.Operands.{value_of}
use Rattle.number.proofs.Taken.{no_first, no_second, of_two, of_signs, other_sign}
use Rattle.number.proofs.ngmpy.Goals as goal

pub returns-in_err-x : goal.returns-in_err-x
unfolding ngmpy_of
returns-in_err-x c = no_first c.args.a _ c.args.b c.from_residual.result c.from_residual.ensures.1 c.in_err-x.ensures

pub returns-in_err-y : goal.returns-in_err-y
unfolding ngmpy_of
returns-in_err-y c =
    no_second c.args.a _ c.args.b c.from_residual-in_err-y.result c.from_residual-in_err-y.ensures.1 c.in_ok-x.ensures.0 c.in_err-y.ensures

pub returns : goal.returns
unfolding ngmpy_of
returns c =
    let x = c.in_ok-x.ensures in
    let y = c.in_ok-y.ensures in
    c.times.ensures
    ∙ ap (λ (s : ℕ). word_of (product_of single s (value_of c.in_ok-x.x) (value_of c.in_ok-y.y))) (other_sign c.crossed.result)
    ∙ of_signs _ _ _ _ x.1 y.1 (λ (s : ℕ) (u v : Value). word_of (product_of single (1 - s) u v)) _ c.crossed.ensures
    ∙ of_two c.args.a _ c.args.b x.0 y.0
