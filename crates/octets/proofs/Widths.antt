-- How many digits a number is written with: one more than the power of ten that it reaches. Assumes nothing.
use mathlib.Core.Path.{◌≡◌, refl, ap, ◌∙◌}
use mathlib.Core.Bool.{Bool}
use Prim.Native.Nat.{ℕ, zero, suc, ◌*◌, ◌/◌, ◌^◌, ◌≤◌, ◌<◌}
use native.Mathlib.Nat.{pow-suc}
use native.Mathlib.Omega.{arith}
use borrow.Author.Tests.{le-ltb, lt-ltb}
use Rattle.rules.specs.Words.{pick}
use Rattle.rules.specs.Cards.{width}

pub width_is : (m k x : ℕ) → 10 ^ k ≤ x → x < 10 * 10 ^ k → k < m → width m x ≡ suc k
unfolding width
width_is zero k x h l q = absurd (let z : ⊥ = omega arith in z)
width_is (suc m) zero x h l q = simp (lt-ltb x 10 (omega arith))
width_is (suc m) (suc k) x h l q =
    let e : 10 ^ suc k ≡ 10 ^ k * 10 = pow-suc 10 k in
    let p : 1 ≤ 10 ^ k = omega arith in
    ap (λ (t : Bool). pick t 1 (suc (width m (x / 10)))) (le-ltb x 10 (omega arith))
    ∙ ap suc (width_is m k (x / 10) (omega arith) (omega arith) (omega arith))

pub width_of_zero : width 20 0 ≡ 1
unfolding width
width_of_zero = refl
