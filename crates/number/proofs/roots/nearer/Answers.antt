-- `number::roots::nearer` meets its contract: what is squared is at most the numeral. Assumes nothing.
use Prim.Native.Nat.{◌*◌, ◌≤◌}
use native.Mathlib.Omega.{arith}
use Rattle.number.proofs.Guesses.{square, times_once, times_twice}
use Rattle.number.proofs.roots.nearer.Goals as goal
use Rattle.number.proofs.roots.nearer.Goals.{After-saturating_sub-t}

squared : (c : After-saturating_sub-t) → c.saturating_sub-t.result * c.saturating_sub-t.result ≤ 12344000000000000
squared c = omega (arith, square c.saturating_sub-t.result 111100997 (omega (arith, c.saturating_sub-t.ensures)))

pub overflow_mul-m : goal.overflow_mul-m
overflow_mul-m c = omega (arith, times_once c.args.m c.args.y c.requires.0 c.requires.1)

pub overflow_mul-m-2 : goal.overflow_mul-m-2
overflow_mul-m-2 c = omega (arith, times_twice c.args.m c.args.y c.requires.0 c.requires.1)

pub overflow_mul-result : goal.overflow_mul-result
overflow_mul-result c = omega (arith, squared c)

pub overflow_add-result : goal.overflow_add-result
overflow_add-result c = omega (arith, squared c)

pub returns : goal.returns
returns c = omega (arith, squared c)
