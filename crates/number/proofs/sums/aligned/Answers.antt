-- `number::sums::aligned` meets its contract: ten places apart the first number is the answer, and nearer the whole sum fits 64 bits.
-- Assumes nothing.
use Prim.Native.Nat.{ℕ, ◌*◌, ◌≤◌}
use mathlib.Core.Path.{ap, ◌∙◌}
use native.Mathlib.Omega.{arith}
use lib.Dec.{eqb, leb}
use Rattle.std.specs.Int.{from_bool}
use Rattle.rules.specs.Rounding.{sum_of}
use Rattle.rules.specs.Arithmetic.{word_of}
use Rattle.number.specs.declared.operands.Operand.{Operand}
use Rattle.number.proofs.Aligning.{Aligned, far, few, near_sum, joined_most}
use Rattle.number.proofs.sums.aligned.Goals as goal

taken : (x y : Operand) → y.exponent ≤ x.exponent → Aligned x.digits x.exponent y.digits y.exponent
taken x y order =
    record { least = λ some. x.least (omega (arith, some)); most = x.most; other = y.most; top = x.top; order = order }

pub returns-then-apart-ge10 : goal.returns-then-apart-ge10
unfolding sum_of
returns-then-apart-ge10 c =
    let x = c.args.x in
    let y = c.args.y in
    c.judged.ensures
    ∙ ap word_of
    (far (from_bool x.minus) x.digits x.exponent (from_bool y.minus) y.digits y.exponent (taken x y c.requires) (omega (arith, c.if-apart-ge10.true)))

pub overflow_mul-p : goal.overflow_mul-p
overflow_mul-p c =
    let x = c.args.x in
    let y = c.args.y in
    omega (arith, few (from_bool x.minus) x.digits x.exponent (from_bool y.minus) y.digits y.exponent (taken x y c.requires) c.power.result (omega arith) c.power.ensures)

pub total-requires : goal.total-requires
total-requires c =
    let x = c.args.x in
    let y = c.args.y in
    let p : ℕ = x.digits * c.power.result in
    let most : p ≤ 99999999000000000 = few (from_bool x.minus) x.digits x.exponent (from_bool y.minus) y.digits y.exponent (taken x y c.requires) c.power.result (omega arith) c.power.ensures in (
      omega (arith, c.joined.ensures, joined_most (eqb (from_bool x.minus) (from_bool y.minus)) (leb y.digits p) p y.digits, most, y.most),
      omega arith,
      omega (arith, x.top, c.requires),
    )

pub returns : goal.returns
unfolding sum_of
returns c =
    let x = c.args.x in
    let y = c.args.y in
    let r = c.power in
    c.total.ensures
    ∙ ap word_of
    (near_sum (from_bool x.minus) x.digits x.exponent (from_bool y.minus) y.digits y.exponent (taken x y c.requires) r.result (omega arith) r.ensures (from_bool c.kept.result) c.joined.result c.kept.ensures c.joined.ensures)
