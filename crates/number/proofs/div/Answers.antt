-- `number::div` meets its contract: a divisor that is a number is judged before it is divided by. Assumes nothing.
use mathlib.Core.Path.{ap, ◌∙◌}
use Prim.Native.Nat.{ℕ}
use native.Mathlib.Omega.{arith}
use borrow.Author.Tests.{eq-eqb, ne_eqb}
use Rattle.rules.specs.Rounding.{Value, single, quotient_of}
use Rattle.rules.specs.Arithmetic.{word_of, div_of}
use Rattle.rules.proofs.Words.{number_full}
use Rattle.number.proofs.Taken.{no_first, no_second, of_two, of_signs}
use Rattle.number.proofs.div.Goals as goal

pub returns-in_err-x : goal.returns-in_err-x
unfolding div_of
returns-in_err-x c = no_first c.args.a _ c.args.b c.from_residual.result c.from_residual.ensures.1 c.in_err-x.ensures

pub returns-in_err-y : goal.returns-in_err-y
unfolding div_of
returns-in_err-y c =
    no_second c.args.a _ c.args.b c.from_residual-in_err-y.result c.from_residual-in_err-y.ensures.1 c.in_ok-x.ensures.0 c.in_err-y.ensures

pub returns-then-b-eq0 : goal.returns-then-b-eq0
unfolding div_of
returns-then-b-eq0 c =
    rw (eq-eqb c.args.b 0 c.if-b-eq0.true) (of_two c.args.a _ c.args.b c.in_ok-x.ensures.0 c.in_ok-y.ensures.0)

pub over-requires : goal.over-requires
over-requires c =
    let y = c.in_ok-y.ensures in
    omega (arith, ap (λ (v : Value). v.leading) y.1, (number_full c.args.b y.0 c.if-b-eq0.false).leading)

pub returns : goal.returns
unfolding div_of
returns c =
    let x = c.in_ok-x.ensures in
    let y = c.in_ok-y.ensures in
    rw (ne_eqb c.args.b 0 c.if-b-eq0.false)
    (c.over.ensures
    ∙ of_signs _ _ _ _ x.1 y.1 (λ (s : ℕ) (u v : Value). word_of (quotient_of single s u v)) _ c.crossed.ensures
    ∙ of_two c.args.a _ c.args.b x.0 y.0)
