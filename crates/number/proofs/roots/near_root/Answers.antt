-- `number::roots::near_root` meets its contract: the guess and every product on the way to it fit. Assumes nothing.
use Prim.Native.Nat.{ℕ, ◌*◌, ◌/◌, ◌≤◌}
use native.Mathlib.Omega.{arith}
use Rattle.number.proofs.Guesses.{square, first, second, third, fourth, fifth, sixth}
use Rattle.number.proofs.roots.near_root.Goals as goal
use Rattle.number.proofs.roots.near_root.Goals.{After-nearer-f, After-saturating_sub}

-- the first guess, before it is cut
abbrev guess : After-nearer-f → ℕ
guess c = c.args.m * c.args.c / 2097152 * c.inverse-y.result / 16384 * c.nearer-f.result

guess_fits : (c : After-nearer-f) → guess c ≤ 3281250000000000000
guess_fits c = third c.args.m c.args.c c.requires.2 c.requires.3 c.inverse-y.result c.inverse-y.ensures c.nearer-f.result c.nearer-f.ensures

-- what is added to it, before it is cut
abbrev more : After-saturating_sub → ℕ
more c = c.saturating_sub.result / 1048576 * (c.inverse-y.result * c.nearer-f.result / 1048576 * c.args.d / 1048576)

more_fits : (c : After-saturating_sub) → more c ≤ 153000000000000000
more_fits c = sixth c.inverse-y.result c.nearer-f.result c.inverse-y.ensures c.nearer-f.ensures c.args.d c.requires.4 c.saturating_sub.result (omega (arith, c.saturating_sub.ensures, c.requires.0))

pub overflow_mul-g : goal.overflow_mul-g
overflow_mul-g c = omega (arith, first c.args.m c.args.c c.requires.2 c.requires.3)

pub overflow_mul-g-2 : goal.overflow_mul-g-2
overflow_mul-g-2 c = omega (arith, second c.args.m c.args.c c.requires.2 c.requires.3 c.inverse-y.result c.inverse-y.ensures)

pub overflow_mul-g-3 : goal.overflow_mul-g-3
overflow_mul-g-3 c = omega (arith, guess_fits c)

pub overflow_mul-g-4 : goal.overflow_mul-g-4
overflow_mul-g-4 c = omega (arith, square (guess c / 2147483648) 1600000000 (omega (arith, guess_fits c)))

pub overflow_mul-result : goal.overflow_mul-result
overflow_mul-result c = omega (arith, fourth c.inverse-y.result c.nearer-f.result c.inverse-y.ensures c.nearer-f.ensures)

pub overflow_mul-result-2 : goal.overflow_mul-result-2
overflow_mul-result-2 c = omega (arith, fifth c.inverse-y.result c.nearer-f.result c.inverse-y.ensures c.nearer-f.ensures c.args.d c.requires.4)

pub overflow_mul-result-3 : goal.overflow_mul-result-3
overflow_mul-result-3 c = omega (arith, more_fits c)

pub overflow_add-result : goal.overflow_add-result
overflow_add-result c = omega (arith, guess_fits (goal.at.overflow_add-result c).After-nearer-f, more_fits c)

pub returns : goal.returns
returns c = omega (arith, guess_fits (goal.at.returns c).After-nearer-f, more_fits c)
