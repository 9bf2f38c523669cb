-- Products, quotients and roots of numbers in 64 bits: how large they are, and that nothing of the exact value is lost that rounding
-- asks for. Assumes nothing.
use Prim.Native.Nat.{ℕ, zero, suc, ◌+◌, ◌-◌, ◌*◌, ◌/◌, ◌^◌, ◌≤◌, ◌<◌}
use mathlib.Core.Path.{◌≡◌, sym, ap, ◌∙◌}
use native.Mathlib.Nat.{mul-le-mul, mul_assoc, zero-mul, mul-zero, le-div_iff_mul-le, div-lt_iff_lt-mul, lt_of_not-le}
use native.Mathlib.Decide.{dec_le}
use native.Mathlib.Omega.{arith}
use lib.Dec.{lit<}
use lib.Pow.{pow-add}
use Rattle.rules.specs.Rounding.{single, fraction, root_halves}
use Rattle.rules.specs.Rounded.{RootCut}
use Rattle.rules.proofs.Fractions.{quotient_halves}
use Rattle.rules.proofs.Roots.{no_larger, root_of_shifted}
use Rattle.rules.proofs.Words.{root_room}
use Rattle.number.specs.Steps.{NearestRoot}

-- two times eight digits
pub product_most : (m n : ℕ) → m < 10 ^ 8 → n < 10 ^ 8 → m * n ≤ 9999999800000001
product_most m n l g =
    let i : m ≤ 99999999 = omega arith in
    let j : n ≤ 99999999 = omega arith in
    omega (arith, mul-le-mul i j)

pub product_least : (m n : ℕ) → (m * n ≡ 0 → ⊥) → ((m ≡ 0 → ⊥) → 10000000 ≤ m) → ((n ≡ 0 → ⊥) → 10000000 ≤ n) → 100000000000000 ≤ m * n
product_least m n some first second =
    omega (arith, mul-le-mul (first (λ z. some (ap (λ (t : ℕ). t * n) z ∙ zero-mul n))) (second (λ z. some (ap (λ (t : ℕ). m * t) z ∙ mul-zero m))))

-- a quotient of two times eight digits has eight at least
pub quotient_least : (m n : ℕ) → 10000000 ≤ m → 10000000 ≤ n → n ≤ 99999999 → 20000000 ≤ 2 * (m * 100000000) / n
quotient_least m n l g k = (le-div_iff_mul-le {k = n} {x = 20000000} {y = 2 * (m * 100000000)} (omega arith)).1 (omega arith)

pub quotient_most : (m n : ℕ) → m ≤ 99999999 → 10000000 ≤ n → 2 * (m * 100000000) / n ≤ 1999999980
quotient_most m n l g =
    let w : 2 * (m * 100000000) < 1999999981 * n = omega arith in
    omega (arith, (div-lt_iff_lt-mul {k = n} {x = 2 * (m * 100000000)} {y = 1999999981} (omega arith)).1 w)

pub quotient_is : (m n x y : ℕ) → y ≤ 99 → fraction (m * 10 ^ (x + 57 + 100)) (n * 10 ^ y) / 10 ^ (x + 149 - y) ≡ 2 * (m * 100000000) / n
quotient_is m n x y l =
    ap (λ (i : ℕ). fraction (m * 10 ^ i) (n * 10 ^ y) / 10 ^ (x + 149 - y)) (omega arith)
    ∙ quotient_halves m n 8 y (x + 149 - y)

-- the root h of four times n, where n has fifteen or sixteen digits
module _ (n h : ℕ) (some : 10 ^ 14 ≤ n) (few : n ≤ 9999999900000000) (p : RootCut (4 * n) h) where
  pub root_least : 20000000 ≤ h
  root_least = no_larger 400000000000000 20000000 h (omega arith) (omega (arith, p.not_passed))

  pub root_most : h ≤ 199999998
  root_most = no_larger 39999999600000000 h 199999998 (omega (arith, p.reached)) (lit< tt)

  pub root_is : (j : ℕ) → j ≤ 174 → root_halves single (n * 10 ^ (j + j)) / 10 ^ j ≡ h
  root_is j low = root_of_shifted 700 n j h (root_room n (j + j) (omega arith) (omega arith)) p

-- The number nearest a root is half of the root of four times as much, rounded up.
pub record Halves (n r : ℕ) : Type 0 where
  pub root : ℕ
  pub cut : RootCut (4 * n) root
  pub half : (root + 1) / 2 ≡ r

pub halves : (n r : ℕ) → NearestRoot n r → Halves n r
halves n r p = either r p (dec_le (r * r) n)
  where
    either : (r : ℕ) → NearestRoot n r → Dec (r * r ≤ n) → Halves n r
    either r p (yes l) = record { root = 2 * r; cut = record { reached = omega arith; not_passed = omega (arith, p.under) }; half = omega arith }
    either zero p (no g) = absurd (g (omega arith))
    either (suc k) p (no g) =
        record {
          root = 2 * k + 1;
          cut = record { reached = omega (arith, p.over); not_passed = omega (arith, lt_of_not-le g) };
          half = omega arith;
        }

-- digits moved up by i places
pub moved : (m x i j : ℕ) → x + 57 + 200 ≡ i + (j + j) → m * 10 ^ i * 10 ^ (j + j) ≡ m * 10 ^ (x + 57 + 200)
moved m x i j even = mul_assoc m (10 ^ i) (10 ^ (j + j)) ∙ ap (λ (v : ℕ). m * v) (sym (pow-add 10 i (j + j)) ∙ ap (λ (v : ℕ). 10 ^ v) (sym even))
