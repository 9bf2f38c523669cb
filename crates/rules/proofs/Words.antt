-- What is known of a word that is a number. Assumes nothing.
use Prim.Native.Nat.{ℕ, ◌*◌, ◌^◌, ◌≤◌, ◌<◌}
use mathlib.Core.Path.{◌≡◌, refl}
use mathlib.Core.Bool.{Bool, true, false}
use native.Mathlib.Nat.{lt_of_le_of_lt, mul-le-mul, mul-le-mul_left}
use native.Mathlib.Omega.{arith}
use lib.Dec.{eqb, leb, lit<}
use borrow.Author.Tests.{eqb-true, eqb-false, leb-true, ne_eqb}
use Rattle.rules.specs.Words.{both, is_word, is_number, leading_in}
use Rattle.rules.proofs.Tests.{both_first, both_second}
use Rattle.rules.proofs.Nearest.{ten_rises}

-- one that is not +0 has eight digits of which the first is not 0
pub record Full (w : ℕ) : Type 0 where
  pub word : w ≤ 19999999999
  pub leading : 10000000 ≤ leading_in w

pub number_full : (w : ℕ) → is_number w ≡ true → (w ≡ 0 → ⊥) → Full w
unfolding is_number
number_full w h z =
    let b : both (is_word w) (leb 10000000 (leading_in w)) ≡ true = rw (ne_eqb w 0 z) at h in
    record {
      word = leb-true w 19999999999 (both_first (is_word w) (leb 10000000 (leading_in w)) b);
      leading = leb-true 10000000 (leading_in w) (both_second (is_word w) (leb 10000000 (leading_in w)) b);
    }

pub number_word : (w : ℕ) → is_number w ≡ true → w ≤ 19999999999
number_word w h = by_zero (eqb w 0) refl
  where
    by_zero : (b : Bool) → eqb w 0 ≡ b → w ≤ 19999999999
    by_zero true t = let z : w ≡ 0 = eqb-true w 0 t in omega arith
    by_zero false t = (number_full w h (eqb-false w 0 t)).word

-- its first eight digits are all 0, or the first of them is not
pub number_leading : (w : ℕ) → is_number w ≡ true → (leading_in w ≡ 0 → ⊥) → 10000000 ≤ leading_in w
number_leading w h some = (number_full w h (λ z. some (omega arith))).leading

-- the definition of a root has the room for every number's
pub root_room : (n i : ℕ) → n ≤ 10 ^ 16 → i ≤ 356 → 4 * (n * 10 ^ i) < 4 ^ 700
root_room n i few low = lt_of_le_of_lt (mul-le-mul_left 4 (mul-le-mul few (ten_rises low))) (lit< tt)
