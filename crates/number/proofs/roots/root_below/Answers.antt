-- `number::roots::root_below` meets its contract: from any guess down as far as its square is too large, and then up as far as the next
-- square is not. Assumes nothing.
use Prim.Native.Nat.{ℕ, ◌+◌, ◌*◌, ◌^◌, ◌≤◌, ◌<◌}
use native.Mathlib.Omega.{arith}
use Rattle.rules.proofs.Roots.{no_larger}
use Rattle.number.proofs.Guesses.{square, above_zero}
use Rattle.number.proofs.roots.root_below.Goals as goal
use Rattle.number.proofs.roots.root_below.Goals.{At-loop-r-2}

-- a number whose square is no more than n
low : (n r : ℕ) → n < 4 * 10 ^ 16 → r * r ≤ n → r ≤ 199999999
low n r few l = no_larger n r 199999999 l (omega arith)

pub overflow_mul-r : goal.overflow_mul-r
overflow_mul-r c = omega (arith, square c.loop-r.r 4000000000 c.loop-r.invariant)

pub overflow_sub-r : goal.overflow_sub-r
overflow_sub-r c = above_zero c.args.n c.loop-r.r c.loop-r-test.true

-- the root of n is small, so its next number's square fits
here : (c : At-loop-r-2) → c.loop-r-2.r ≤ 199999999
here c = low c.args.n c.loop-r-2.r c.requires.0 c.loop-r-2.invariant

pub overflow_mul-r-in-loop-r-2 : goal.overflow_mul-r-in-loop-r-2
overflow_mul-r-in-loop-r-2 c = omega (arith, square (c.loop-r-2.r + 1) 200000000 (omega (arith, here c)))

pub loop-r-2-smaller : goal.loop-r-2-smaller
loop-r-2-smaller c = omega (arith, here (goal.at.loop-r-2-smaller c).At-loop-r-2)
