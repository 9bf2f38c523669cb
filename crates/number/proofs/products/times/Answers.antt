-- `number::products::times` meets its contract: the product of two times eight digits is exact in 64 bits. Assumes nothing.
use Prim.Native.Nat.{◌+◌, ◌*◌, ◌≤◌}
use mathlib.Core.Path.{refl, sym}
use native.Mathlib.Omega.{arith}
use Rattle.std.specs.Int.{from_bool}
use Rattle.rules.specs.Rounding.{product_of}
use Rattle.rules.proofs.Fractions.{whole_halves}
use Rattle.number.proofs.Sizes.{product_most, product_least}
use Rattle.number.proofs.Aligning.{none}
use Rattle.number.proofs.products.times.Goals as goal

pub overflow_mul-p : goal.overflow_mul-p
overflow_mul-p c = let a = c.args in omega (arith, product_most a.x.digits a.y.digits a.x.most a.y.most)

pub returns-then-p-eq0 : goal.returns-then-p-eq0
unfolding product_of
returns-then-p-eq0 c =
    let a = c.args in
    sym (none (from_bool a.minus) (a.x.digits * a.y.digits) (a.x.exponent + a.y.exponent + 43) c.if-p-eq0.true)

pub overflow_mul-p-2 : goal.overflow_mul-p-2
overflow_mul-p-2 c = let a = c.args in omega (arith, product_most a.x.digits a.y.digits a.x.most a.y.most)

pub settle-requires : goal.settle-requires
settle-requires c =
    let x = c.args.x in
    let y = c.args.y in
    let l : 100000000000000 ≤ x.digits * y.digits =
    product_least x.digits y.digits c.if-p-eq0.false (λ some. x.least (omega (arith, some))) (λ some. y.least (omega (arith, some))) in
    record {
      unit = refl;
      start = omega arith;
      place = omega (arith, x.top, y.top);
      full = omega arith;
      few = omega (arith, product_most x.digits y.digits x.most y.most);
    }

pub returns : goal.returns
unfolding product_of
returns c =
    let a = c.args in
    c.settle.ensures _ (whole_halves (a.x.digits * a.y.digits) (a.x.exponent + a.y.exponent + 43))
