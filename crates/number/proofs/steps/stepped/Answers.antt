-- `number::steps::stepped` meets its contract: it makes the three steps, nothing on the way is too large for 64 bits, and they arrive.
-- Assumes nothing.
use Prim.Native.Nat.{ℕ, ◌+◌, ◌*◌, ◌/◌, ◌^◌, ◌≤◌, ◌<◌}
use mathlib.Core.Path.{◌≡◌, sym, subst}
use native.Mathlib.Nat.{mul-le-mul, div-le_self}
use native.Mathlib.Omega.{arith}
use Rattle.number.specs.Steps.{doubled, scaled, guess, above, beneath, second, OneMore}
use Rattle.number.proofs.Arriving.{guess_most, scaled_most, above_most, n_some, second_few, thrice}
use Rattle.number.proofs.steps.stepped.Goals as goal
use Rattle.number.proofs.steps.stepped.Goals.{Start}

module _ (c : Start) where
  abbrev b : ℕ
  b = c.args.b

  few : b ≤ 10 ^ 10
  few = omega (arith, c.requires.1)

  most : guess b ≤ 27742
  most = guess_most b c.requires.0 few

  square_most : guess b * guess b ≤ 769618564
  square_most = omega (arith, mul-le-mul most most)

  p_most : above b ≤ 1521266513
  p_most = above_most b c.requires.0 few

  q_most : beneath b * beneath b ≤ 3078474256
  q_most = omega (arith, square_most)

  -- the two parts of what is divided
  first_part : above b * above b ≤ 2400000000000000000
  first_part = omega (arith, mul-le-mul p_most p_most)

  second_part : scaled b * (beneath b * beneath b) ≤ 2400000000000000000
  second_part = omega (arith, mul-le-mul (scaled_most b c.requires.0 few) q_most)

  -- what comes of it
  bounds : (0 < second b c.args.scale) × (second b c.args.scale ≤ 100010000)
  bounds = second_few b c.requires.0 few c.args.n c.args.scale c.requires.2

  n_most : c.args.n ≤ 10 ^ 16
  n_most = (n_some b c.requires.0 few c.args.n c.args.scale c.requires.2).1

pub overflow_mul-x : goal.overflow_mul-x
overflow_mul-x c = omega (arith, first_part c)

pub overflow_add-x : goal.overflow_add-x
overflow_add-x c = omega (arith, first_part c, second_part c)

pub nonzero_div-result : goal.nonzero_div-result
nonzero_div-result c = (bounds c).0

pub overflow_add-result : goal.overflow_add-result
overflow_add-result c = omega (arith, (bounds c).1)

pub overflow_add-result-2 : goal.overflow_add-result-2
overflow_add-result-2 c = omega (arith, (bounds c).1, n_most c, div-le_self c.args.n (second (b c) c.args.scale))

pub returns : goal.returns
returns c =
    let x : ℕ = second (b c) c.args.scale in
    let sum : c.args.n / x + (x + 1) ≡ doubled c.args.n x + 1 = omega arith in
    subst (λ (t : ℕ). OneMore c.args.n (t / 2)) (sym sum) (thrice (b c) c.requires.0 (few c) c.args.n c.args.scale c.requires.2)
