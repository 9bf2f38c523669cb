-- The newsletter's step toward a root, from a fraction p over q: it does not come below the root, and from d over q off the root it comes to no
-- more above it than half the square of that, over the fraction. Assumes nothing.
use Prim.Native.Nat.{ℕ, zero, suc, ◌+◌, ◌-◌, ◌*◌, ◌/◌, ◌≤◌, ◌<◌}
use mathlib.Core.Path.{◌≡◌, refl, sym, ap, subst, ◌∙◌}
use native.Mathlib.Nat.{mul-le-mul, mul-le-mul_left, mul-pos, le_of_mul-le-mul_right, lt_of_mul-lt-mul_right, div-mul-le_self, lt-div-mul-add, lt_of_not-le, add-mul-div_right}
use native.Mathlib.Decide.{dec_le}
use native.Mathlib.Omega.{arith}
use Rattle.rules.proofs.Roots.{no_larger}
use Rattle.number.specs.Steps.{doubled, third, Within, OneMore}

-- x is so near the root of n that one step more is one off at most.
pub record Near (n x : ℕ) : Type 0 where
  pub off : ℕ
  pub least : off ≤ x
  pub small : off * off ≤ 2 * x
  pub within : Within off n x

-- four times a product is no more than the square of the sum
ordered : (a b : ℕ) → a ≤ b → 4 * (a * b) ≤ (a + b) * (a + b)
ordered a b l =
    let k : ℕ = b - a in
    let is : a + k ≡ b = omega arith in
    subst (λ (t : ℕ). 4 * (a * t) ≤ (a + t) * (a + t)) is (omega arith)

pub four_times : (a b : ℕ) → 4 * (a * b) ≤ (a + b) * (a + b)
four_times a b = either (dec_le a b)
  where
    either : Dec (a ≤ b) → 4 * (a * b) ≤ (a + b) * (a + b)
    either (yes l) = ordered a b l
    either (no g) = omega (arith, ordered b a (omega (arith, lt_of_not-le g)))

-- where n is the square of y and a more, and x is y + d
apart : (y d a g : ℕ) → a ≤ 4 * ((y + d) * d) → g ≤ 2 * ((y + d) * y) + a → g * g ≤ 4 * ((y * y + a) * ((y + d) * (y + d)))
apart y d a g most l = omega (arith, mul-le-mul l l, mul-le-mul_left a most)

-- the sum of x squared and n, less d squared, is no more than twice x and the root of n multiplied
pub squared : (d n x : ℕ) → d ≤ x → Within d n x → (g : ℕ) → g + d * d ≤ n + x * x → g * g ≤ 4 * (n * (x * x))
squared d n x least w g l =
    let y : ℕ = x - d in
    let a : ℕ = n - y * y in
    let start : y + d ≡ x = omega arith in
    let whole : y * y + a ≡ n = omega (arith, w.low) in
    let high : n ≤ (x + d) * (x + d) = w.high in
    let of-start : (y + d) * (y + d) ≡ x * x = ap (λ (t : ℕ). t * t) start in
    let of-off : (y + d) * d ≡ x * d = ap (λ (t : ℕ). t * d) start in
    subst (λ (t : ℕ). g * g ≤ 4 * (n * (t * t))) start
    (subst (λ (t : ℕ). g * g ≤ 4 * (t * ((y + d) * (y + d)))) whole
    (apart y d a g (omega arith) (omega arith)))

-- The first step, left a fraction, from x that is d off.
pub first_step : (d n x : ℕ) → d ≤ x → Within d n x → Within (d * d) (n * (2 * x * (2 * x))) (x * x + n)
first_step d n x least w =
    let l : d * d ≤ x * x = mul-le-mul least least in
    let more : x * x + n ≤ x * x + n + d * d = omega arith in
    record {
      low = omega (arith, squared d n x least w (x * x + n - d * d) (omega arith));
      high = omega (arith, four_times (x * x) n, mul-le-mul more more);
    }

-- A step from the fraction p over q, doubled and cut, in a unit of which t is p times q.
module _ (n p q t : ℕ) (some : 0 < t) where
  abbrev sum : ℕ
  sum = p * p + n * (q * q)

  -- It is not below the root: two factors of n have no smaller sum than twice the root.
  pub never_low : 4 * (n * (p * q * (p * q))) < (sum / t + 1) * t * ((sum / t + 1) * t)
  never_low =
      let next : sum + 1 ≤ (sum / t + 1) * t = omega (arith, lt-div-mul-add {a = sum} {b = t} some) in
      omega (arith, four_times (p * p) (n * (q * q)), mul-le-mul next next)

  module _ (d : ℕ) (least : d ≤ p) (w : Within d (n * (q * q)) p) where
    -- From d over q off the root it is at most e above it.
    pub how_high : (e : ℕ) → d * d ≤ e * t → (sum / t - e) * t * ((sum / t - e) * t) ≤ 4 * (n * (p * q * (p * q)))
    how_high e l =
        omega (arith, squared d (n * (q * q)) p least w ((sum / t - e) * t) (either (sum / t) (div-mul-le_self sum t) (dec_le e (sum / t))))
      where
        either : (z : ℕ) → z * t ≤ sum → Dec (e ≤ z) → (z - e) * t + d * d ≤ n * (q * q) + p * p
        either z k (yes g) =
            let is : z - e + e ≡ z = omega arith in
            omega (arith, ap (λ (v : ℕ). v * t) is)
        either z k (no g) =
            let none : z - e ≡ 0 = omega (arith, lt_of_not-le g) in
            omega (arith, ap (λ (v : ℕ). v * t) none, mul-le-mul least least)

-- Where t is about c * v / 2 ^ 33, bounds by t are bounds by the scale c.
module _ (n c t v : ℕ) where
  pub scaled_low : (z : ℕ) → 0 < v → 8589934592 * t ≤ c * v → 4 * (n * (v * v)) < (z + 1) * t * ((z + 1) * t) → 4 * (n * (8589934592 * 8589934592)) < (z + 1) * c * ((z + 1) * c)
  scaled_low z some cut l =
      lt_of_mul-lt-mul_right (v * v)
      (omega (arith, mul-le-mul_left ((z + 1) * (z + 1)) (mul-le-mul cut cut), l))

  pub scaled_high : (y : ℕ) → 25165824 ≤ t → c * v ≤ 8589934592 * (t + 24) → y * t * (y * t) ≤ 4 * (n * (v * v)) → c * y * (c * y) ≤ 4 * (n * (8589942784 * 8589942784))
  scaled_high y large cut l =
      let most : c * v ≤ 8589942784 * t = omega arith in
      le_of_mul-le-mul_right {k = t * t}
      (omega (arith, mul-le-mul_left (4 * n) (mul-le-mul most most), mul-le-mul_left (c * c) l))
      (mul-pos {m = t} (omega arith) (omega arith))

-- A step from a whole number that is near the root.
module _ (n x : ℕ) (some : 0 < x) (p : Near n x) where
  whole : doubled n x ≡ (x * x + n * (1 * 1)) / x
  whole =
      let top : n + x * x ≡ x * x + n * (1 * 1) = omega arith in
      sym (add-mul-div_right n x some) ∙ ap (λ (v : ℕ). v / x) top

  low : 4 * n < (doubled n x + 1) * (doubled n x + 1)
  low =
      lt_of_mul-lt-mul_right (x * x)
      (omega (arith, subst (λ (z : ℕ). 4 * (n * (x * 1 * (x * 1))) < (z + 1) * x * ((z + 1) * x)) (sym whole) (never_low n x 1 x some)))

  high : (doubled n x - 2) * (doubled n x - 2) ≤ 4 * n
  high =
      let w : Within p.off (n * (1 * 1)) x = subst (λ (v : ℕ). Within p.off v x) (omega arith) p.within in
      le_of_mul-le-mul_right
      (omega (arith, subst (λ (z : ℕ). (z - 2) * x * ((z - 2) * x) ≤ 4 * (n * (x * 1 * (x * 1)))) (sym whole) (how_high n x 1 x some p.off p.least w 2 p.small)))
      (mul-pos some some)

  last_least : 0 < n → 1 ≤ doubled n x
  last_least above = no_larger (4 * n) 1 (doubled n x) (omega arith) low

  -- Rounded up, it is the nearest number or one more.
  pub rounded : 0 < n → OneMore n (third n x)
  rounded above = halved (third n x) refl
    where
      halved : (r : ℕ) → r ≡ third n x → OneMore n r
      halved zero is = absurd (omega (arith, last_least above))
      halved (suc zero) is =
          let top : doubled n x + 1 ≤ 3 = omega arith in
          record { some = omega arith; under = omega (arith, low, mul-le-mul top top); over = omega arith }
      halved (suc (suc k)) is =
          let top : doubled n x + 1 ≤ 2 * k + 5 = omega arith in
          let bottom : 2 * k + 1 ≤ doubled n x - 2 = omega arith in
          record { some = omega arith; under = omega (arith, low, mul-le-mul top top); over = omega (arith, high, mul-le-mul bottom bottom) }
