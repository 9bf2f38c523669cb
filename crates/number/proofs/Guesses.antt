-- The guess for a root in 64 bits: how large each product on the way to it is at most. How near it is matters to no proof. Assumes nothing.
use Prim.Native.Nat.{ℕ, zero, suc, ◌*◌, ◌/◌, ◌^◌, ◌≤◌, ◌<◌}
use native.Mathlib.Nat.{mul-le-mul}
use native.Mathlib.Omega.{arith}

pub square : (t l : ℕ) → t ≤ l → t * t ≤ l * l
square t l h = mul-le-mul h h

pub above_zero : (n r : ℕ) → n < r * r → 0 < r
above_zero n zero l = omega arith
above_zero n (suc r) l = omega arith

module _ (m y : ℕ) (digits : m < 10 ^ 8) (small : y ≤ 12000) where
  pub times_once : m * y ≤ 1200000000000
  times_once =
      let i : m ≤ 100000000 = omega arith in
      omega (arith, mul-le-mul i small)

  pub times_twice : m * y * y ≤ 14400000000000000
  times_twice = omega (arith, mul-le-mul times_once small)

-- the root that c makes of the inverse y of m and of its correction f
module _ (m c : ℕ) (digits : m < 10 ^ 8) (scale : c < 2 ^ 26) where
  pub first : m * c ≤ 6710886400000000
  first =
      let i : m ≤ 100000000 = omega arith in
      let j : c ≤ 67108864 = omega arith in
      omega (arith, mul-le-mul i j)

  module _ (y : ℕ) (small : y ≤ 12000) where
    pub second : m * c / 2097152 * y ≤ 38400000000000
    second =
        let i : m * c / 2097152 ≤ 3200000000 = omega (arith, first) in
        omega (arith, mul-le-mul i small)

    pub third : (f : ℕ) → f ≤ 1400000000 → m * c / 2097152 * y / 16384 * f ≤ 3281250000000000000
    third f most =
        let i : m * c / 2097152 * y / 16384 ≤ 2343750000 = omega (arith, second) in
        omega (arith, mul-le-mul i most)

-- what d makes of them, and of l that is left of n
module _ (y f : ℕ) (small : y ≤ 12000) (most : f ≤ 1400000000) where
  pub fourth : y * f ≤ 16800000000000
  fourth = omega (arith, mul-le-mul small most)

  module _ (d : ℕ) (scale : d < 2 ^ 18) where
    pub fifth : y * f / 1048576 * d ≤ 4200000000000
    fifth =
        let i : y * f / 1048576 ≤ 16021728 = omega (arith, fourth) in
        let j : d ≤ 262144 = omega arith in
        omega (arith, mul-le-mul i j)

    pub sixth : (l : ℕ) → l < 4 * 10 ^ 16 → l / 1048576 * (y * f / 1048576 * d / 1048576) ≤ 153000000000000000
    sixth l few =
        let i : l / 1048576 ≤ 38146972656 = omega arith in
        let j : y * f / 1048576 * d / 1048576 ≤ 4005432 = omega (arith, fifth) in
        omega (arith, mul-le-mul i j)
