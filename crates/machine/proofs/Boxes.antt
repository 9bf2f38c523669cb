-- An order whose sums fit is done as a word. Assumes nothing.
use Prim.Native.Nat.{ℕ, ◌+◌, ◌*◌, ◌/◌, ◌%◌, ◌≤◌}
use mathlib.Core.Path.{◌≡◌}
use mathlib.Core.Bool.{Bool, true, false}
use native.Mathlib.Omega.{arith}
use lib.Dec.{leb}
use borrow.Author.Tests.{leb-true}
use Rattle.rules.specs.Words.{pick, both, a_in, b_in, c_in}
use Rattle.rules.specs.Machine.{count_a, count_b, count_c}
use Rattle.rules.specs.Running.{is_minus, sums_fit, order_fits, box_word, as_done}
use Rattle.rules.specs.declared.State.{State}
use Rattle.rules.proofs.Tests.{both_first, both_second}

joined : {w : ℕ} (s x y z p q r : ℕ) → s ≤ 1 → w ≡ s * 10000000000 + x → x + r ≤ y * 1000 + 999 → y + q ≤ z * 1000 + 999 → z + p ≤ 9999
    → w + (p * 1000000 + q * 1000 + r * 1) ≤ 19999999999
joined s x y z p q r k e f g h = omega arith

small_sum : (w p q r : ℕ) → w ≤ 19999999999 → a_in w + p ≤ 999 → b_in w + q ≤ 999 → c_in w + r ≤ 999
    → w + (p * 1000000 + q * 1000 + r * 1) ≤ 19999999999
small_sum w p q r l a b c = by_digits (w % 10000000000) (omega arith) a b c (omega arith)
  where
    by_digits : (x : ℕ) → x ≤ 9999999999 → x / 1000000 % 1000 + p ≤ 999 → x / 1000 % 1000 + q ≤ 999 → x / 1 % 1000 + r ≤ 999
        → w ≡ w / 10000000000 * 10000000000 + x → w + (p * 1000000 + q * 1000 + r * 1) ≤ 19999999999
    by_digits x k a b c e =
        let y : ℕ = x / 1000 in
        let z : ℕ = x / 1000000 in
        let f : x + r ≤ y * 1000 + 999 = omega arith in
        let g : y + q ≤ z * 1000 + 999 = omega arith in
        let h : z + p ≤ 9999 = omega arith in
        joined (w / 10000000000) x y z p q r (omega arith) e f g h

pub done_word : (s : State) (w : ℕ) → w ≤ 19999999999 → order_fits s w ≡ true → as_done s w ≤ 19999999999
done_word s w l f = by_sign (is_minus w) f
  where
    by_sign : (t : Bool) → pick t (sums_fit s w) true ≡ true → pick t (w + box_word s) w ≤ 19999999999
    by_sign false g = l
    by_sign true g =
        let x : Bool = leb (a_in w + count_a s) 999 in
        let y : Bool = leb (b_in w + count_b s) 999 in
        let z : Bool = leb (c_in w + count_c s) 999 in
        small_sum w (count_a s) (count_b s) (count_c s) l (leb-true (a_in w + count_a s) 999 (both_first x (both y z) g))
        (leb-true (b_in w + count_b s) 999 (both_first y z (both_second x (both y z) g)))
        (leb-true (c_in w + count_c s) 999 (both_second y z (both_second x (both y z) g)))
