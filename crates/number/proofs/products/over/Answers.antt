-- `number::products::over` meets its contract: a quotient cut at its ninth digit or below has the halves that rounding asks for.
-- Assumes nothing.
use Prim.Native.Nat.{ℕ, ◌+◌, ◌*◌, ◌^◌, ◌≤◌, ◌<◌}
use mathlib.Core.Path.{refl, sym, ap, ◌∙◌}
use native.Mathlib.Nat.{zero-mul}
use native.Mathlib.Omega.{arith}
use Rattle.std.specs.Int.{from_bool}
use Rattle.rules.specs.Rounding.{single, quotient_of}
use Rattle.rules.specs.Arithmetic.{word_of}
use Rattle.rules.proofs.Fractions.{none_halves}
use Rattle.rules.proofs.Rounding.{settled_none}
use Rattle.number.specs.declared.operands.Operand.{Operand}
use Rattle.number.proofs.Sizes.{quotient_least, quotient_most, quotient_is}
use Rattle.number.proofs.products.over.Goals as goal

full : (x : Operand) → 0 < x.digits → 10000000 ≤ x.digits
full x some = x.least (omega (arith, some))

pub returns-then-x-eq0 : goal.returns-then-x-eq0
unfolding quotient_of
returns-then-x-eq0 c =
    let a = c.args in
    sym (ap word_of (settled_none single (from_bool a.minus) _ (none_halves _ _ (ap (λ (t : ℕ). t * 10 ^ (a.x.exponent + 57 + 100)) c.if-x-eq0.true ∙ zero-mul _))))

pub settle-requires : goal.settle-requires
settle-requires c =
    let x = c.args.x in
    let y = c.args.y in
    let f : 10000000 ≤ x.digits = full x (omega (arith, c.if-x-eq0.false)) in
    let d : 10000000 ≤ y.digits = full y c.requires in
    record {
      unit = refl;
      start = omega arith;
      place = omega (arith, x.top);
      full = omega (arith, quotient_least x.digits y.digits f d (omega (arith, y.most)));
      few = omega (arith, quotient_most x.digits y.digits (omega (arith, x.most)) d);
    }

pub returns : goal.returns
unfolding quotient_of
returns c =
    let x = c.args.x in
    let y = c.args.y in
    c.settle.ensures _ (quotient_is x.digits y.digits x.exponent y.exponent (omega (arith, y.top)))
