-- The facts on roots: the definition's root is the root cut to a whole number, there is one such number, and a square factor comes out of
-- it. Nothing here depends on how many digits are asked for. Assumes nothing.
use Prim.Native.Nat.{ℕ, zero, suc, ◌+◌, ◌*◌, ◌/◌, ◌^◌, ◌≤◌, ◌<◌}
use mathlib.Core.Path.{◌≡◌, refl, ap, subst, ◌∙◌}
use mathlib.Core.Bool.{Bool, true, false}
use native.Mathlib.Nat.{le_antisymm, lt_of_not-le, lt_of_mul-lt-mul_right, le_of_mul-le-mul_right, mul-le-mul, div-mul-le_self, lt-div-mul-add, pow-suc}
use native.Mathlib.Decide.{dec_le}
use native.Mathlib.Omega.{arith}
use lib.Dec.{leb}
use lib.Pow.{pow-add}
use borrow.Author.Tests.{leb-true, leb-false}
use Rattle.rules.specs.Words.{pick}
use Rattle.rules.specs.Rounding.{grown, root_below}
use Rattle.rules.specs.Rounded.{RootCut}
use Rattle.rules.proofs.Nearest.{ten_above}

-- a number whose square is reached is no larger than one whose next square is not
pub no_larger : (n r s : ℕ) → r * r ≤ n → n < (s + 1) * (s + 1) → r ≤ s
no_larger n r s low high = either (dec_le r s)
  where
    either : Dec (r ≤ s) → r ≤ s
    either (yes l) = l
    either (no g) =
        let l : s + 1 ≤ r = omega (arith, lt_of_not-le g) in
        absurd (omega (arith, mul-le-mul l l))

one_root : (n r s : ℕ) → RootCut n r → RootCut n s → r ≡ s
one_root n r s p q = le_antisymm (no_larger n r s p.reached q.not_passed) (no_larger n s r q.reached p.not_passed)

-- one binary digit more
by_digit : (n r : ℕ) (b : Bool) → leb ((2 * r + 1) * (2 * r + 1)) n ≡ b → RootCut (n / 4) r → RootCut n (pick b (2 * r + 1) (2 * r))
by_digit n r true t p =
    let l : (2 * r + 1) * (2 * r + 1) ≤ n = leb-true ((2 * r + 1) * (2 * r + 1)) n t in
    let g : n / 4 < (r + 1) * (r + 1) = p.not_passed in
    record { reached = l; not_passed = omega arith }
by_digit n r false t p =
    let l : n < (2 * r + 1) * (2 * r + 1) = leb-false ((2 * r + 1) * (2 * r + 1)) n t in
    let g : r * r ≤ n / 4 = p.reached in
    record { reached = omega arith; not_passed = l }

pub root_below_lem : (k n : ℕ) → n < 4 ^ k → RootCut n (root_below k n)
unfolding root_below grown
root_below_lem zero n l = record { reached = omega arith; not_passed = omega arith }
root_below_lem (suc k) n l =
    let g : n / 4 < 4 ^ k = omega (arith, pow-suc 4 k) in
    let r : ℕ = root_below k (n / 4) in
    by_digit n r (leb ((2 * r + 1) * (2 * r + 1)) n) refl (root_below_lem k (n / 4) g)

-- the root of n times a square, cut, and then divided and cut again, is the root of n cut
pub root_of_factor : (n c r : ℕ) → 0 < c → RootCut (n * (c * c)) r → RootCut n (r / c)
root_of_factor n c r pos p =
    let g : ℕ = r / c in
    let some : 0 < c * c = omega (arith, mul-le-mul pos pos) in
    let low : g * c ≤ r = div-mul-le_self r c in
    let high : r + 1 ≤ (g + 1) * c = omega (arith, lt-div-mul-add {a = r} {b = c} pos) in
    let low-square : g * g * (c * c) ≤ n * (c * c) = omega (arith, mul-le-mul low low, p.reached) in
    let high-square : n * (c * c) < (g + 1) * (g + 1) * (c * c) = omega (arith, mul-le-mul high high, p.not_passed) in
    record { reached = le_of_mul-le-mul_right low-square some; not_passed = lt_of_mul-lt-mul_right (c * c) high-square }

-- So the halves of a root may be found without the even power of ten below it.
pub root_of_shifted : (k n j h : ℕ) → 4 * (n * 10 ^ (j + j)) < 4 ^ k → RootCut (4 * n) h → root_below k (4 * (n * 10 ^ (j + j))) / 10 ^ j ≡ h
root_of_shifted k n j h room p =
    let c : ℕ = 10 ^ j in
    let whole : ℕ = 4 * (n * 10 ^ (j + j)) in
    let is : whole ≡ 4 * n * (c * c) = ap (λ (t : ℕ). 4 * (n * t)) (pow-add 10 j j) ∙ omega arith in
    let r : RootCut (4 * n * (c * c)) (root_below k whole) = subst (λ (t : ℕ). RootCut t (root_below k whole)) is (root_below_lem k whole room) in
    one_root (4 * n) (root_below k whole / c) h (root_of_factor (4 * n) c (root_below k whole) (ten_above j) r) p
