-- `number::mpy` meets its contract: minus where one of the two has it. Assumes nothing.
use mathlib.Core.Path.{◌∙◌}
use Prim.Native.Nat.{ℕ}
use Rattle.rules.specs.Rounding.{Value, single, product_of}
use Rattle.rules.specs.Arithmetic.{word_of, mpy_of}
use Rattle.number.proofs.Taken.{no_first, no_second, of_two, of_signs}
use Rattle.number.proofs.mpy.Goals as goal

pub returns-in_err-x : goal.returns-in_err-x
unfolding mpy_of
returns-in_err-x c = no_first c.args.a _ c.args.b c.from_residual.result c.from_residual.ensures.1 c.in_err-x.ensures

pub returns-in_err-y : goal.returns-in_err-y
unfolding mpy_of
returns-in_err-y c =
    no_second c.args.a _ c.args.b c.from_residual-in_err-y.result c.from_residual-in_err-y.ensures.1 c.in_ok-x.ensures.0 c.in_err-y.ensures

pub returns : goal.returns
unfolding mpy_of
returns c =
    let x = c.in_ok-x.ensures in
    let y = c.in_ok-y.ensures in
    c.times.ensures
    ∙ of_signs _ _ _ _ x.1 y.1 (λ (s : ℕ) (u v : Value). word_of (product_of single s u v)) _ c.crossed.ensures
    ∙ of_two c.args.a _ c.args.b x.0 y.0
