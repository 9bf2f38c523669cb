-- `number::roots::inverse` meets its contract: what is squared is below 10 ^ 8. Assumes nothing.
use Prim.Native.Nat.{◌-◌, ◌*◌, ◌≤◌}
use native.Mathlib.Omega.{arith}
use Rattle.number.proofs.Guesses.{square}
use Rattle.number.proofs.roots.inverse.Goals as goal
use Rattle.number.proofs.roots.inverse.Goals.{Then-m-lt32000000, Else-m-lt32000000}

low : (c : Then-m-lt32000000) → (139863600 - 4 * c.args.m) * (139863600 - 4 * c.args.m) ≤ 10000000000000000
low c = square (139863600 - 4 * c.args.m) 100000000 (omega arith)

high : (c : Else-m-lt32000000) → (105760000 - c.args.m) * (105760000 - c.args.m) ≤ 10000000000000000
high c = square (105760000 - c.args.m) 100000000 (omega arith)

pub overflow_mul-result : goal.overflow_mul-result
overflow_mul-result c = omega (arith, low c)

pub overflow_add-result : goal.overflow_add-result
overflow_add-result c = omega (arith, low c)

pub returns-then-m-lt32000000 : goal.returns-then-m-lt32000000
returns-then-m-lt32000000 c = omega (arith, low c)

pub overflow_mul-result-2 : goal.overflow_mul-result-2
overflow_mul-result-2 c = omega (arith, high c)

pub overflow_add-result-2 : goal.overflow_add-result-2
overflow_add-result-2 c = omega (arith, high c)

pub returns : goal.returns
returns c = omega (arith, high c)
