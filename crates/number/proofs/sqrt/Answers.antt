-- `number::sqrt` meets its contract: a number of 10,000,000,000 and more has the sign 1. Assumes nothing.
use mathlib.Core.Path.{◌≡◌, sym, ap, ◌∙◌}
use native.Mathlib.Omega.{arith}
use borrow.Author.Tests.{eq-eqb, ne_eqb}
use Rattle.std.specs.Int.{from_bool}
use Rattle.rules.specs.Words.{sign_in}
use Rattle.rules.specs.Rounding.{Value}
use Rattle.rules.specs.Arithmetic.{sqrt_of}
use Rattle.number.proofs.Taken.{no_number, of_one}
use Rattle.number.proofs.sqrt.Goals as goal

pub returns-in_err-x : goal.returns-in_err-x
unfolding sqrt_of
returns-in_err-x c = no_number c.args.b _ c.from_residual.result c.from_residual.ensures.1 c.in_err-x.ensures

pub returns-then-x : goal.returns-then-x
unfolding sqrt_of
returns-then-x c =
    let x = c.in_ok-x.ensures in
    let below : sign_in c.args.b ≡ 1 = sym (ap (λ (v : Value). v.sign) x.1) ∙ ap from_bool c.if-x.true in
    rw (eq-eqb (sign_in c.args.b) 1 below) (of_one c.args.b _ x.0)

pub returns : goal.returns
unfolding sqrt_of
returns c =
    let x = c.in_ok-x.ensures in
    let plus : sign_in c.args.b ≡ 0 = sym (ap (λ (v : Value). v.sign) x.1) ∙ ap from_bool c.if-x.false in
    rw (ne_eqb (sign_in c.args.b) 1 (λ z. omega (arith, z, plus))) (c.root.ensures ∙ of_one c.args.b _ x.0)
