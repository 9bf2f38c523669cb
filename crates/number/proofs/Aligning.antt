-- Sums in 64 bits: two numbers less than ten places apart, counted in units of the smaller exponent. Assumes nothing.
use Rattle.std.proofs.Common.{Ok}
use Prim.Native.Nat.{ℕ, ◌+◌, ◌-◌, ◌*◌, ◌/◌, ◌^◌, ◌≤◌, ◌<◌}
use mathlib.Core.Path.{◌≡◌, refl, sym, ap, ◌∙◌}
use mathlib.Core.Bool.{Bool, true, false}
use native.Mathlib.Nat.{lt_of_not-le, mul-le-mul, mul-le-mul_right, mul_assoc, zero-mul, pow-suc}
use native.Mathlib.Numerals.{add-one}
use native.Mathlib.Decide.{dec_le}
use native.Mathlib.Omega.{arith}
use lib.Dec.{eqb, leb}
use lib.Pow.{pow-add}
use borrow.Author.Tests.{eqb-true, eqb-false, leb-true, leb-false}
use Rattle.rules.specs.Words.{pick}
use Rattle.rules.specs.Rounding.{single, placed, settled, fraction}
use Rattle.rules.specs.Arithmetic.{word_of}
use Rattle.rules.proofs.Nearest.{ten_rises}
use Rattle.rules.proofs.Fractions.{none_halves, whole_halves}
use Rattle.rules.proofs.Rounding.{settled_none}
use Rattle.rules.proofs.Sums.{sum_at, same_at, first_at, second_at, far_at}
use Rattle.powers.specs.Powers.{power_of}
use Rattle.powers.proofs.Powers.{in_table}

-- Two numbers taken apart, the one of the larger exponent first. It is +0 only where both exponents are 00.
pub record Aligned (m x n y : ℕ) : Type 0 where
  pub least : 0 < x → 10 ^ 7 ≤ m
  pub most : m < 10 ^ 8
  pub other : n < 10 ^ 8
  pub top : x ≤ 99
  pub order : y ≤ x

pub none : (s v j : ℕ) → v ≡ 0 → word_of (settled single s (fraction (v * 10 ^ j) 1)) ≡ Ok 0
none s v j z = ap word_of (settled_none single s (fraction (v * 10 ^ j) 1) (none_halves (v * 10 ^ j) 1 (ap (λ (t : ℕ). t * 10 ^ j) z ∙ zero-mul (10 ^ j))))

-- v units told in w units that are smaller by i places, of which there are no more than eight digits
pub record Finer (v w i : ℕ) : Type 0 where
  pub made : w ≡ v * 10 ^ i
  pub some : 0 < w
  pub few : w < 10 ^ 8

pub finer_more : (v w i : ℕ) → Finer v w i → w < 10000000 → Finer v (w * 10) (i + 1)
finer_more v w i f l =
    record {
      made =
          ap (λ (t : ℕ). t * 10) f.made
          ∙ mul_assoc v (10 ^ i) 10
          ∙ ap (λ (t : ℕ). v * t) (sym (pow-suc 10 i) ∙ ap (λ (t : ℕ). 10 ^ t) (sym (add-one i)));
      some = omega (arith, f.some);
      few = omega arith;
    }

pub finer_low : (v w i : ℕ) → 0 < v → Finer v w i → i ≤ 7
finer_low v w i some f = either (dec_le i 7)
  where
    either : Dec (i ≤ 7) → i ≤ 7
    either (yes l) = l
    either (no g) =
        let l : 10 ^ 8 ≤ 10 ^ i = ten_rises (lt_of_not-le g) in
        absurd (omega (arith, f.made, f.few, mul-le-mul_right (10 ^ i) some))

pub finer_is : (v w i j : ℕ) → Finer v w i → i ≤ j → fraction (v * 10 ^ j) 1 / 10 ^ (j - i) ≡ 2 * w
finer_is v w i j f l =
    let k : ℕ = j - i in
    let whole : v * 10 ^ j ≡ w * 10 ^ k =
    ap (λ (t : ℕ). v * t) (ap (λ (t : ℕ). 10 ^ t) (omega arith) ∙ pow-add 10 i k) ∙ sym (mul_assoc v (10 ^ i) (10 ^ k)) ∙ ap (λ (t : ℕ). t * 10 ^ k) (sym f.made) in
    ap (λ (t : ℕ). fraction t 1 / 10 ^ k) whole ∙ whole_halves w k

-- what two magnitudes come to is no more than their sum
pub joined_most : (same less : Bool) (p n : ℕ) → pick same (p + n) (pick less (p - n) (n - p)) ≤ p + n
joined_most true less p n = omega arith
joined_most false true p n = omega arith
joined_most false false p n = omega arith

-- what one leaves of the other
pub left_over : (p n : ℕ) → p - n + (n - p) ≡ pick (leb n p) (p - n) (n - p)
left_over p n = by_test (leb n p) refl
  where
    by_test : (b : Bool) → leb n p ≡ b → p - n + (n - p) ≡ pick b (p - n) (n - p)
    by_test true l = omega (arith, leb-true n p l)
    by_test false l = omega (arith, leb-false n p l)

module _ (s m x t n y : ℕ) (al : Aligned m x n y) where
  pub far : 10 ≤ x - y → placed single s m (x + 100) ≡ sum_at single s m x t n y
  far l =
      let some : 0 < x = omega (arith, l) in
      sym (far_at single s m x t n y al.order (omega (arith, al.least some)) al.most (omega (arith, al.other, ten_rises l)))

  -- the digits of the first, moved up by r
  module _ (r : ℕ) (near : x - y < 10) (is : r ≡ power_of (x - y)) where
    raised : r ≡ 10 ^ (x - y)
    raised = is ∙ in_table (x - y) (omega arith)

    pub few : m * r ≤ 99999999000000000
    few =
        let g : x - y ≤ 9 = omega arith in
        let l : r ≤ 1000000000 = omega (arith, raised, ten_rises g) in
        let k : m ≤ 99999999 = omega (arith, al.most) in
        omega (arith, mul-le-mul k l)

    same : s ≡ t → settled single s (fraction ((m * r + n) * 10 ^ (y + 100)) 1) ≡ sum_at single s m x t n y
    same i = ap (λ (v : ℕ). settled single s (fraction ((m * v + n) * 10 ^ (y + 100)) 1)) raised ∙ sym (same_at single s m x t n y al.order i)

    first : (s ≡ t → ⊥) → n ≤ m * r → settled single s (fraction ((m * r - n) * 10 ^ (y + 100)) 1) ≡ sum_at single s m x t n y
    first i l =
        ap (λ (v : ℕ). settled single s (fraction ((m * v - n) * 10 ^ (y + 100)) 1)) raised
        ∙ sym (first_at single s m x t n y al.order i (rw raised at l))

    second : (s ≡ t → ⊥) → m * r < n → settled single t (fraction ((n - m * r) * 10 ^ (y + 100)) 1) ≡ sum_at single s m x t n y
    second i l =
        ap (λ (v : ℕ). settled single t (fraction ((n - m * v) * 10 ^ (y + 100)) 1)) raised
        ∙ sym (second_at single s m x t n y al.order i (rw raised at l))

    -- z and v are the sign and the magnitude that the code finds
    pub near_sum : (z v : ℕ) → z ≡ pick (leb n (m * r)) s t → v ≡ pick (eqb s t) (m * r + n) (pick (leb n (m * r)) (m * r - n) (n - m * r)) → settled single z (fraction (v * 10 ^ (y + 100)) 1) ≡ sum_at single s m x t n y
    near_sum z v sign magnitude =
        ap (λ (a : ℕ). settled single a (fraction (v * 10 ^ (y + 100)) 1)) sign
        ∙ ap (λ (a : ℕ). settled single (pick (leb n (m * r)) s t) (fraction (a * 10 ^ (y + 100)) 1)) magnitude
        ∙ by_tests (eqb s t) (leb n (m * r)) refl refl
      where
        by_tests : (b c : Bool) → eqb s t ≡ b → leb n (m * r) ≡ c → settled single (pick c s t) (fraction (pick b (m * r + n) (pick c (m * r - n) (n - m * r)) * 10 ^ (y + 100)) 1) ≡ sum_at single s m x t n y
        by_tests true true i l = same (eqb-true s t i)
        by_tests true false i l =
            ap (λ (z : ℕ). settled single z (fraction ((m * r + n) * 10 ^ (y + 100)) 1)) (sym (eqb-true s t i)) ∙ same (eqb-true s t i)
        by_tests false true i l = first (eqb-false s t i) (leb-true n (m * r) l)
        by_tests false false i l = second (eqb-false s t i) (leb-false n (m * r) l)
