-- The seven arithmetic orders answer what is due: each rounds its exact value once, and no such value but zero is too small for eight
-- digits. Assumes nothing.
use Rattle.std.proofs.Common.{Err, Ok}
use Prim.Native.Nat.{ℕ, zero, suc, ◌+◌, ◌-◌, ◌*◌, ◌%◌, ◌^◌, ◌≤◌, ◌<◌}
use mathlib.Core.Path.{◌≡◌, refl, sym, ap, subst, ◌∙◌}
use mathlib.Core.Logic.{inl, inr}
use mathlib.Core.Bool.{Bool, true, false}
use native.Mathlib.Nat.{le_trans, lt_of_not-le, mul-le-mul, mul-le-mul_right, mul-le-mul_left, mul-pos, mul_assoc, zero-mul}
use native.Mathlib.Decide.{dec_le}
use native.Mathlib.Omega.{arith}
use lib.Dec.{eqb, ltb, lit≤}
use lib.Pow.{pow-add}
use borrow.Author.Tests.{eqb-true, eqb-false, lt-ltb, le-ltb}
use Rattle.rules.specs.Words.{pick, is_number, sign_in, digits_in, leading_in, exponent_in}
use Rattle.rules.specs.Rounding.{Settled, single, settled, fraction, sum, sum_of, difference_of, product_of, quotient_of, root_of, root_halves}
use Rattle.rules.specs.Arithmetic.{word_of, add_of, sub_of, mpy_of, div_of, ngmpy_of, sqrt_of, abs_of}
use Rattle.rules.specs.Answers.{Reckoned}
use Rattle.rules.specs.declared.Refusal.TheVariants.{ZeroDivisor, NegativeRoot}
use Rattle.rules.proofs.Nearest.{ten_above, ten_rises}
use Rattle.rules.proofs.Rounding.{settled_none}
use Rattle.rules.proofs.Sums.{sum_same, sum_first, sum_second}
use Rattle.rules.proofs.Words.{number_full, number_leading, number_word, root_room}
use Rattle.promises.specs.Rounding.{of_fraction, of_root, RoundedTo, Rounds}
use Rattle.promises.specs.Reckoning.{WordDue, Taken, Answers, Numbers, worth, above, below, sign_left, left, up, down, summing, product, AllReckoned, adding, subtracting, multiplying, multiplying_negatively, dividing, taking_root, taking_magnitude}
use Rattle.promises.proofs.Rounding.{fraction_rounds, root_rounds}
use Rattle.promises.proofs.Due.{Sized, answers, word_due, refuses_zero, refuses_negative, of_two, of_one}

-- ---- sums

-- A sum by its signs: of one sign the magnitudes are added, of two the smaller is taken from the larger.
abbrev Exact : ℕ → ℕ → ℕ → ℕ → ℕ → ℕ → Type 0
Exact s x t y r p = above r p + (below s x + below t y) ≡ below r p + (above s x + above t y)

record SumRounded (s x t y : ℕ) : Type 0 where
  r : ℕ
  p : ℕ
  bit : r ≤ 1
  exact : Exact s x t y r p
  rounded : sum single s x t y ≡ settled single r (fraction p 1)

one_sign : (s x y : ℕ) → s ≤ 1 → Exact s x s y s (x + y) → SumRounded s x s y
one_sign s x y l i = record { r = s; p = x + y; bit = l; exact = i; rounded = sum_same single s x s y refl }

two_signs : (s x t y : ℕ) → s ≤ 1 → t ≤ 1 → (s ≡ t → ⊥) → (y ≤ x → Exact s x t y s (x - y)) → (x < y → Exact s x t y t (y - x)) → SumRounded s x t y
two_signs s x t y p q differ i j = either (dec_le y x)
  where
    either : Dec (y ≤ x) → SumRounded s x t y
    either (yes l) = record { r = s; p = x - y; bit = p; exact = i l; rounded = sum_first single s x t y differ l }
    either (no g) =
        let l : x < y = lt_of_not-le g in
        record { r = t; p = y - x; bit = q; exact = j l; rounded = sum_second single s x t y differ l }

sum_rounded : (s x t y : ℕ) → s ≤ 1 → t ≤ 1 → SumRounded s x t y
sum_rounded zero x zero y l g = one_sign 0 x y l (omega arith)
sum_rounded (suc zero) x (suc zero) y l g = one_sign 1 x y l (omega arith)
sum_rounded zero x (suc zero) y l g = two_signs 0 x 1 y l g (λ i. omega arith) (λ i. omega arith) (λ i. omega arith)
sum_rounded (suc zero) x zero y l g = two_signs 1 x 0 y l g (λ i. omega arith) (λ i. omega arith) (λ i. omega arith)
sum_rounded (suc (suc s)) x t y l g = absurd (omega arith)
sum_rounded zero x (suc (suc t)) y l g = absurd (omega arith)
sum_rounded (suc zero) x (suc (suc t)) y l g = absurd (omega arith)

-- so it is what is left of both, with its sign; zero has none
left_over : (r p u v : ℕ) → r ≤ 1 → above r p + v ≡ below r p + u → settled single r (fraction p 1) ≡ settled single (sign_left u v) (fraction (left u v) 1)
left_over zero p u v l i =
    let w : v ≤ u = omega arith in
    rw (le-ltb u v w) (ap (λ (k : ℕ). settled single 0 (fraction k 1)) (omega arith))
left_over (suc zero) p u v l i = either (dec_le v u)
  where
    either : Dec (v ≤ u) → settled single 1 (fraction p 1) ≡ settled single (sign_left u v) (fraction (left u v) 1)
    either (yes w) = settled_none single 1 (fraction p 1) (omega arith) ∙ sym (settled_none single (sign_left u v) (fraction (left u v) 1) (omega arith))
    either (no g) =
        let w : u < v = lt_of_not-le g in
        rw (lt-ltb u v w) (ap (λ (k : ℕ). settled single 1 (fraction k 1)) (omega arith))
left_over (suc (suc r)) p u v l i = absurd (omega arith)

-- what is left of multiples of some unit is none, or one or more of them
left_of : (c d : Bool) (a b : ℕ) → let u : ℕ = pick c (a * 10000000) 0 + pick d (b * 10000000) 0 in let v : ℕ = pick c 0 (a * 10000000) + pick d 0 (b * 10000000) in 0 < left u v → 10000000 ≤ left u v
left_of true true a b l = omega arith
left_of true false a b l = omega arith
left_of false true a b l = omega arith
left_of false false a b l = omega arith

-- ---- no exact value of numbers but zero is too small for eight digits

fraction_sized : (p q : ℕ) → 0 < q → (0 < p → 10000000 * q ≤ p) → Sized (of_fraction p q)
fraction_sized zero q pos l = inl (λ k g. omega arith)
fraction_sized (suc p) q pos l = inr (omega (arith, l (omega arith)), omega (arith, l (omega arith)))

root_sized : (n : ℕ) → (0 < n → 10000000000000000 ≤ n) → Sized (of_root n)
root_sized zero l = inl (λ k g. omega arith)
root_sized (suc n) l = inr (omega arith, omega (arith, l (omega arith)))

-- digits m scaled by at least i places
scaled_least : (m i k : ℕ) → i ≤ k → 0 < m * 10 ^ k → 10 ^ i ≤ m * 10 ^ k
scaled_least m i k l some =
    let n : m ≡ 0 → ⊥ = λ z. omega (arith, zero-mul (10 ^ k), subst (λ (t : ℕ). 0 < t * 10 ^ k) z some) in
    let one : 1 ≤ m = omega arith in
    omega (arith, mul-le-mul one (ten_rises l))

worth_sevens : (w : ℕ) → worth w ≡ leading_in w * 10 ^ (exponent_in w + 93) * 10000000
worth_sevens w =
    ap (λ (k : ℕ). leading_in w * 10 ^ k) (omega arith)
    ∙ ap (λ (k : ℕ). leading_in w * k) (pow-add 10 (exponent_in w + 93) 7)
    ∙ sym (mul_assoc (leading_in w) (10 ^ (exponent_in w + 93)) 10000000)

sum_large : (a b t : ℕ) → 0 < left (up a b t) (down a b t) → 10000000 ≤ left (up a b t) (down a b t)
sum_large a b t =
    rw (worth_sevens a, worth_sevens b)
    (left_of (eqb (sign_in a) 0) (eqb t 0) (leading_in a * 10 ^ (exponent_in a + 93)) (leading_in b * 10 ^ (exponent_in b + 93)))

sum_sized : (a b t : ℕ) → Sized (summing a b t).exact
sum_sized a b t = fraction_sized (left (up a b t) (down a b t)) 1 (omega arith) (λ l. omega (arith, sum_large a b t l))

-- ---- the seven orders

one_bit : (c : Bool) → pick c 1 0 ≤ 1
one_bit true = omega arith
one_bit false = omega arith

module _ (a b : ℕ) where
  sums : (t : ℕ) → t ≤ 1 → (n : Numbers a b) → Answers (summing a b t) (word_of (sum single (sign_in a) (worth a) t (worth b)))
  sums t l n =
      let z : SumRounded (sign_in a) (worth a) t (worth b) = sum_rounded (sign_in a) (worth a) t (worth b) (omega (arith, number_word a n.0)) l in
      let i : settled single (sign_left (up a b t) (down a b t)) (fraction (left (up a b t) (down a b t)) 1) ≡ sum single (sign_in a) (worth a) t (worth b) =
      sym (left_over z.r z.p (up a b t) (down a b t) z.bit z.exact) ∙ sym z.rounded in
      subst (λ (k : Settled). Answers (summing a b t) (word_of k)) i
      (answers (summing a b t) (fraction (left (up a b t) (down a b t)) 1)
      (fraction_rounds single (omega arith) (left (up a b t) (down a b t)) 1 (omega arith)) (n, (λ d. d), (λ d. d)) (one_bit (ltb (up a b t) (down a b t))) (sum_sized a b t))

  add_answers : Answers (adding a b) (add_of a b)
  unfolding add_of sum_of
  add_answers =
      of_two (adding a b) a b (word_of (sum single (sign_in a) (worth a) (sign_in b) (worth b))) (λ n. n)
      (λ n. sums (sign_in b) (omega (arith, number_word b n.1)) n)

  sub_answers : Answers (subtracting a b) (sub_of a b)
  unfolding sub_of difference_of
  sub_answers =
      of_two (subtracting a b) a b (word_of (sum single (sign_in a) (worth a) (1 - sign_in b) (worth b))) (λ n. n)
      (λ n. sums (1 - sign_in b) (omega arith) n)

  products : (s : ℕ) → s ≤ 1 → (n : Numbers a b) → Answers (product s a b) (word_of (settled single s (fraction (leading_in a * leading_in b * 10 ^ (exponent_in a + exponent_in b + 43)) 1)))
  products s l n =
      let p : ℕ = leading_in a * leading_in b * 10 ^ (exponent_in a + exponent_in b + 43) in
      let large : 0 < p → 10000000 * 1 ≤ p = λ g. scaled_least (leading_in a * leading_in b) 7 (exponent_in a + exponent_in b + 43) (omega arith) g in
      answers (product s a b) (fraction p 1) (fraction_rounds single (omega arith) p 1 (omega arith)) (n, (λ d. d), (λ d. d)) l
      (fraction_sized p 1 (omega arith) large)

  mpy_answers : Answers (multiplying a b) (mpy_of a b)
  unfolding mpy_of product_of
  mpy_answers = of_two (multiplying a b) a b _ (λ n. n) (λ n. products ((sign_in a + sign_in b) % 2) (omega arith) n)

  ngmpy_answers : Answers (multiplying_negatively a b) (ngmpy_of a b)
  unfolding ngmpy_of product_of
  ngmpy_answers = of_two (multiplying_negatively a b) a b _ (λ n. n) (λ n. products (1 - (sign_in a + sign_in b) % 2) (omega arith) n)

  -- the smallest quotient of numbers is far above the fine unit
  quotient_large : Numbers a b → 0 < leading_in a * 10 ^ (exponent_in a + 157) → 10000000 * (leading_in b * 10 ^ exponent_in b) ≤ leading_in a * 10 ^ (exponent_in a + 157)
  quotient_large n l =
      let i : leading_in a ≡ 0 → ⊥ = λ z. omega (arith, zero-mul (10 ^ (exponent_in a + 157)), subst (λ (m : ℕ). 0 < m * 10 ^ (exponent_in a + 157)) z l) in
      let most : leading_in b ≤ 99999999 = omega arith in
      let top : exponent_in b ≤ 99 = omega arith in
      let low : 157 ≤ exponent_in a + 157 = omega arith in
      le_trans (mul-le-mul_left 10000000 (mul-le-mul most (ten_rises top)))
      (le_trans (lit≤ tt) (mul-le-mul (number_leading a n.0 i) (ten_rises low)))

  quotients : (n : Numbers a b) → (b ≡ 0 → ⊥) → Answers (dividing a b) (word_of (settled single ((sign_in a + sign_in b) % 2) (fraction (leading_in a * 10 ^ (exponent_in a + 157)) (leading_in b * 10 ^ exponent_in b))))
  quotients n z =
      let p : ℕ = leading_in a * 10 ^ (exponent_in a + 157) in
      let q : ℕ = leading_in b * 10 ^ exponent_in b in
      let some : 0 < q = mul-pos (omega (arith, (number_full b n.1 z).leading)) (ten_above (exponent_in b)) in
      answers (dividing a b) (fraction p q) (fraction_rounds single (omega arith) p q some) (n, z, (λ d. d)) (omega arith)
      (fraction_sized p q some (quotient_large n))

  div_answers : Answers (dividing a b) (div_of a b)
  unfolding div_of quotient_of
  div_answers = of_two (dividing a b) a b _ (λ n. n) (by_test (eqb b 0) refl)
    where
      shifted : exponent_in a + 157 ≡ exponent_in a + 57 + 100
      shifted = omega arith

      exact : ℕ → Reckoned
      exact k = word_of (settled single ((sign_in a + sign_in b) % 2) (fraction (leading_in a * 10 ^ k) (leading_in b * 10 ^ exponent_in b)))

      by_test : (c : Bool) → eqb b 0 ≡ c → Numbers a b → Answers (dividing a b) (pick c (Err ZeroDivisor) (exact (exponent_in a + 57 + 100)))
      by_test true i n = refuses_zero (dividing a b) n (eqb-true b 0 i) (λ d. d)
      by_test false i n = subst (λ (k : ℕ). Answers (dividing a b) (exact k)) shifted (quotients n (eqb-false b 0 i))

-- the root of a number, and its magnitude
module _ (b : ℕ) where
  roots : (n : is_number b ≡ true) → (sign_in b ≡ 1 → ⊥) → Answers (taking_root b) (word_of (settled single 0 (root_halves single (leading_in b * 10 ^ (exponent_in b + 257)))))
  roots n z =
      let m : ℕ = leading_in b * 10 ^ (exponent_in b + 257) in
      let room : 4 * m < 4 ^ 700 = root_room (leading_in b) (exponent_in b + 257) (omega arith) (omega arith) in
      answers (taking_root b) (root_halves single m) (root_rounds single (omega arith) m room) (n, (λ d. d), z) (omega arith)
      (root_sized m (scaled_least (leading_in b) 16 (exponent_in b + 257) (omega arith)))

  sqrt_answers : Answers (taking_root b) (sqrt_of b)
  unfolding sqrt_of root_of
  sqrt_answers = of_one (taking_root b) b _ (λ n. n) (by_test (eqb (sign_in b) 1) refl)
    where
      shifted : exponent_in b + 257 ≡ exponent_in b + 57 + 200
      shifted = omega arith

      exact : ℕ → Reckoned
      exact k = word_of (settled single 0 (root_halves single (leading_in b * 10 ^ k)))

      by_test : (c : Bool) → eqb (sign_in b) 1 ≡ c → is_number b ≡ true → Answers (taking_root b) (pick c (Err NegativeRoot) (exact (exponent_in b + 57 + 200)))
      by_test true i n = refuses_negative (taking_root b) n (λ d. d) (eqb-true (sign_in b) 1 i)
      by_test false i n = subst (λ (k : ℕ). Answers (taking_root b) (exact k)) shifted (roots n (eqb-false (sign_in b) 1 i))

  -- the digits of a number with plus are its magnitude, rounded
  own_digits : (n : is_number b ≡ true) → WordDue 0 (of_fraction (worth b) 1) (digits_in b)
  own_digits n = by_digits (digits_in b) refl
    where
      by_digits : (w : ℕ) → digits_in b ≡ w → WordDue 0 (of_fraction (worth b) 1) w
      by_digits zero i =
          λ k l.
          let z : leading_in b ≡ 0 = omega arith in
          omega (arith, zero-mul (10 ^ (exponent_in b + 100)), subst (λ (t : ℕ). 1 * 1 ≤ k * (2 * (t * 10 ^ (exponent_in b + 100)))) z l)
      by_digits (suc w) i =
          let least : 10000000 ≤ leading_in b = (number_full b n (λ z. omega arith)).leading in
          let same : leading_in (suc w) ≡ leading_in b = omega arith in
          let place : exponent_in (suc w) ≡ exponent_in b = omega arith in
          let u : ℕ = 10 ^ (exponent_in b + 100) in
          let few : suc (leading_in b) ≤ 100000000 = omega arith in
          let whole : RoundedTo 8 (of_fraction (worth b) 1) u (leading_in b) =
          record { at_least = omega arith; below = λ l. omega (arith, ten_above (exponent_in b + 100)); fits = omega arith; full = omega (arith, mul-le-mul_right u least) } in
          record {
            sign = omega arith;
            first = omega arith;
            rounded =
                subst (λ (k : ℕ). RoundedTo 8 (of_fraction (worth b) 1) (10 ^ (exponent_in (suc w) + 100)) k) (sym same)
                (subst (λ (k : ℕ). RoundedTo 8 (of_fraction (worth b) 1) (10 ^ (k + 100)) (leading_in b)) (sym place) whole);
          }

  magnitudes : (n : is_number b ≡ true) → Answers (taking_magnitude b) (Ok (digits_in b))
  magnitudes n =
      let r : Rounds single (of_fraction (worth b) 1) (fraction (worth b) 1) = fraction_rounds single (omega arith) (worth b) 1 (omega arith) in
      let t : Taken (taking_magnitude b) = (n, (λ d. d), (λ d. d)) in
      let large : 0 < worth b → 10000000 * 1 ≤ worth b = scaled_least (leading_in b) 7 (exponent_in b + 100) (omega arith) in
      subst (Answers (taking_magnitude b)) (word_due (taking_magnitude b) (fraction (worth b) 1) r t (digits_in b) (own_digits n))
      (answers (taking_magnitude b) (fraction (worth b) 1) r t (omega arith) (fraction_sized (worth b) 1 (omega arith) large))

  abs_answers : Answers (taking_magnitude b) (abs_of b)
  unfolding abs_of
  abs_answers = of_one (taking_magnitude b) b (Ok (digits_in b)) (λ n. n) magnitudes

  abs_digits : is_number b ≡ true → abs_of b ≡ Ok (digits_in b)
  unfolding abs_of
  abs_digits n = rw n

pub all_reckoned : AllReckoned
all_reckoned a b =
    record {
      add = add_answers a b;
      sub = sub_answers a b;
      mpy = mpy_answers a b;
      div = div_answers a b;
      ngmpy = ngmpy_answers a b;
      sqrt = sqrt_answers b;
      abs = abs_answers b;
      digits = abs_digits b;
    }
