-- What is known of magnitudes that are rounded, for any number of digits d: they are the nearest, at the right place, and the other way
-- round; and digits below a place do not matter. Assumes nothing.
use Prim.Native.Nat.{ℕ, suc, ◌+◌, ◌*◌, ◌/◌, ◌^◌, ◌≤◌, ◌<◌}
use mathlib.Core.Path.{◌≡◌, refl, sym, subst}
use native.Mathlib.Nat.{lt_of_not-le, lt_of_mul-lt-mul_right, mul-le-mul_right, div-mul-le_self, lt-div-mul-add, pow-suc}
use native.Mathlib.Decide.{dec_le}
use native.Mathlib.Omega.{arith}
use Rattle.rules.specs.Rounding.{nearest}
use Rattle.rules.specs.Rounded.{Rounded}
use Rattle.rules.proofs.Nearest.{ten_above, nearest_reached, nearest_not_passed, nearest_is, Right}

-- d digits are filled by units of the place k where they are by tenths of the next unit
pub tenth_filled : (d h k : ℕ) → 2 * (10 ^ d * 10 ^ suc k) ≤ 10 * h + 10 ^ suc k → 2 * (10 ^ d * 10 ^ k) ≤ h + 10 ^ k
tenth_filled d h k l =
    let w : 2 * (10 ^ d * (10 ^ k * 10)) ≤ 10 * h + 10 ^ k * 10 = subst (λ (u : ℕ). 2 * (10 ^ d * u) ≤ 10 * h + u) (pow-suc 10 k) l in
    omega arith

pub filled : (d h k : ℕ) → 2 * (10 ^ d * 10 ^ k) ≤ h + 10 ^ k → 10 ^ d ≤ nearest h k
filled d h k l =
    let g : 10 ^ d * 10 ^ k < suc (nearest h k) * 10 ^ k = omega (arith, nearest_not_passed h k) in
    let w : 10 ^ d < suc (nearest h k) = lt_of_mul-lt-mul_right (10 ^ k) g in
    omega arith

module _ (d h e m : ℕ) (r : Rounded d h (10 ^ e) m) where
  pub rounded_nearest : nearest h e ≡ m
  rounded_nearest = nearest_is h e m r.reached r.not_passed

  pub rounded_right : Right d h e
  rounded_right =
      record {
        enough = omega (arith, rounded_nearest, r.fits);
        not_below = λ k i. filled d h k (tenth_filled d h k (subst (λ (x : ℕ). 2 * (10 ^ d * 10 ^ x) ≤ 10 * h + 10 ^ x) i r.full));
      }

  pub rounded_some : 0 < h
  rounded_some = omega (arith, r.full, ten_above e, mul-le-mul_right (10 ^ e) (ten_above d))

-- what is nearest at the right place, above the lowest, is rounded
pub right_rounded : (d h k : ℕ) → Right d h (suc k) → Rounded d h (10 ^ suc k) (nearest h (suc k))
right_rounded d h k r =
    let l : 2 * (10 ^ d * (10 ^ k * 10)) ≤ 10 * h + 10 ^ k * 10 = omega (arith, nearest_reached h k, mul-le-mul_right (10 ^ k) (r.not_below k refl)) in
    record {
      reached = nearest_reached h (suc k);
      not_passed = nearest_not_passed h (suc k);
      fits = r.enough;
      full = subst (λ (u : ℕ). 2 * (10 ^ d * u) ≤ 10 * h + u) (sym (pow-suc 10 k)) l;
    }

-- the first of the digits is not 0
pub rounded_first : (c h u m : ℕ) → 0 < u → Rounded (suc c) h u m → 10 ^ c ≤ m
rounded_first c h u m some r = either (dec_le (10 ^ c) m)
  where
    either : Dec (10 ^ c ≤ m) → 10 ^ c ≤ m
    either (yes l) = l
    either (no g) =
        let few : suc m ≤ 10 ^ c = lt_of_not-le g in
        let full : 2 * (10 ^ c * 10 * u) ≤ 10 * h + u = subst (λ (t : ℕ). 2 * (t * u) ≤ 10 * h + u) (pow-suc 10 c) r.full in
        absurd (omega (arith, mul-le-mul_right u few, r.not_passed))

-- a unit of which there are fewer than 10 ^ d, rounded, and of whose tenth there are not
pub unit_rounded : (d h e : ℕ) → 2 * (10 ^ d * 10 ^ e) ≤ 10 * h + 10 ^ e → h + 10 ^ e < 2 * (10 ^ d * 10 ^ e) → Rounded d h (10 ^ e) (nearest h e)
unit_rounded d h e full few =
    let l : nearest h e * 10 ^ e < 10 ^ d * 10 ^ e = omega (arith, nearest_reached h e) in
    record { reached = nearest_reached h e; not_passed = nearest_not_passed h e; fits = lt_of_mul-lt-mul_right (10 ^ e) l; full = full }

-- Digits below a place do not matter, if those above it are enough.
pub lift : (d h c u m : ℕ) → 0 < c → Rounded d (h / c) u m → Rounded d h (u * c) m
lift d h c u m pos r =
    record {
      reached = omega (arith, mul-le-mul_right c r.reached, div-mul-le_self h c);
      not_passed = omega (arith, mul-le-mul_right c r.not_passed, lt-div-mul-add {a = h} {b = c} pos);
      fits = r.fits;
      full = omega (arith, mul-le-mul_right c r.full, div-mul-le_self h c);
    }
