-- `number::steps::nearest_root` meets its contract: from any guess down while the square of half a unit less is too large, and then up
-- while that of half a unit more is too small. Assumes nothing.
use Prim.Native.Nat.{ℕ, ◌+◌, ◌-◌, ◌*◌, ◌≤◌}
use mathlib.Core.Path.{◌≡◌, ap}
use native.Mathlib.Omega.{arith}
use Rattle.number.proofs.steps.nearest_root.Goals as goal
use Rattle.number.proofs.steps.nearest_root.Goals.{At-loop-r-2, In-loop-r, In-loop-r-2}

-- the square of twice a number less 1
less_half : (r : ℕ) → 1 ≤ r → (2 * r - 1) * (2 * r - 1) + 4 * r ≡ 4 * (r * r) + 1
less_half r some =
    let is : 2 * r - 1 + 1 ≡ 2 * r = omega arith in
    omega (arith, ap (λ (t : ℕ). t * t) is)

pub loop-r-2-init : goal.loop-r-2-init
loop-r-2-init c = (c.loop-r.invariant.0, omega (arith, c.loop-r-test.false, less_half c.loop-r.r c.loop-r.invariant.0))
