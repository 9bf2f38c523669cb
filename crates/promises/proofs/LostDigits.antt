-- What the loss of a sum says of its numbers. One of the two operands has the larger exponent, and the law for any form is told from that
-- one; where there is no zero, words have the digits and exponents of such numbers. Assumes nothing.
use Rattle.std.proofs.Common.{Err, Ok}
use Prim.Native.Nat.{ℕ, suc, ◌+◌, ◌-◌, ◌*◌, ◌^◌, max, ◌≤◌, ◌<◌}
use mathlib.Core.Path.{◌≡◌, refl, sym, ap, subst, ◌∙◌}
use mathlib.Core.Logic.{◌⊎◌, inl, inr, ⊎_elim}
use mathlib.Core.Bool.{Bool, true, false}
use native.Mathlib.Nat.{lt_of_not-le, lt_of_lt_of_le, le-max_left, max-eq_left, max-eq_right}
use native.Mathlib.Decide.{dec_le}
use native.Mathlib.Omega.{arith}
use lib.Dec.{eqb}
use borrow.Author.Tests.{eqb-true, eqb-false, ne_eqb}
use Rattle.rules.specs.Words.{pick, both, either, is_number, sign_in, leading_in, exponent_in}
use Rattle.rules.specs.Rounding.{Form, Value, Settled, nought, value, outside, single, scaled, sum, sum_of, difference_of}
use Rattle.rules.specs.Arithmetic.{value_in, word_of, of_numbers, add_of, sub_of, is_zero, loss_of, loss_in}
use Rattle.rules.specs.Answers.{Reckoned}
use Rattle.rules.specs.declared.Refusal.TheVariants.{NotNumber}
use Rattle.rules.proofs.Nearest.{ten_above}
use Rattle.rules.proofs.Words.{number_leading}
use Rattle.rules.proofs.Sums.{sum_swaps}
use Rattle.rules.proofs.Losses.{Rounds, sum_rounds, Lost, lost}
use Rattle.promises.specs.Reckoning.{Numbers, worth, left}
use Rattle.promises.specs.LostDigits.{Full, Says, LossSays, WordSays, SumSays, DifferenceSays, upper}

-- ---- for any form

-- the loss of numbers that are not zero
loss_is : (x y z : Value) → 0 < x.leading → 0 < y.leading → 0 < z.leading → loss_of x y z ≡ upper x y - z.exponent
loss_is x y z p q r = rw (ne_eqb z.leading 0 (λ i. omega arith), ne_eqb x.leading 0 (λ i. omega arith), ne_eqb y.leading 0 (λ i. omega arith))

module _ (f : Form) (x y z : Value) (t : ℕ) (p : Full f x) (q : Full f y) where
  -- told from u, the one of the two that has the larger exponent, and v, the other
  says_from : (u v : Value) → Lost f u v z → upper x y ≡ u.exponent → (x.sign ≡ t → u.sign ≡ v.sign)
      → max (scaled f u) (scaled f v) ≡ max (scaled f x) (scaled f y) → left (scaled f u) (scaled f v) ≡ left (scaled f x) (scaled f y) → Says f x y t z
  says_from u v g up like most same =
      let one : 0 < 10 ^ (f.digits - 1) = ten_above (f.digits - 1) in
      let loss : u.exponent - z.exponent ≡ loss_of x y z =
      sym (loss_is x y z (omega (arith, p.first)) (omega (arith, q.first)) g.some ∙ ap (λ (e : ℕ). e - z.exponent) up) in
      record {
        carries = λ i. subst (λ (e : ℕ). (z.exponent ≡ e) ⊎ (z.exponent ≡ suc e)) (sym up) (g.carries (like i));
        none = λ i. sym loss ∙ ⊎_elim (λ j. omega arith) (λ j. omega arith) (g.carries (like i));
        smaller =
            subst (λ (n : ℕ). 1 ≤ n → scaled f z * 10 ^ (n - 1) < max (scaled f x) (scaled f y)) loss
            (λ l. lt_of_lt_of_le (g.smaller l) (subst (λ (n : ℕ). scaled f u ≤ n) most (le-max_left (scaled f u) (scaled f v))));
        within =
            subst (λ (n : ℕ). max (scaled f x) (scaled f y) < scaled f z * 10 ^ (n + 1)) loss
            (subst (λ (k : ℕ). k < scaled f z * 10 ^ (u.exponent - z.exponent + 1)) most g.within);
        exact = subst (λ (n : ℕ). 2 ≤ n → scaled f z ≡ left (scaled f x) (scaled f y)) loss (λ l. g.exact l ∙ same);
        zeros = subst (λ (n : ℕ). 2 ≤ n → (k : ℕ) × (z.leading ≡ k * 10 ^ (n - 1))) loss g.zeros;
      }

pub loss_says : LossSays
loss_says f has x y p q t s m a i = by_order (dec_le y.exponent x.exponent)
  where
    -- y with the sign t
    w : Value
    w = record { sign = t; leading = y.leading; exponent = y.exponent }

    z : Value
    z = record { sign = s; leading = m; exponent = a }

    by_order : Dec (y.exponent ≤ x.exponent) → Says f x y t z
    by_order (yes l) =
        says_from f x y z t p q x w (lost f has x w z l p.first p.fits q.fits i) (max-eq_left l) (λ j. j) refl refl
    by_order (no g) =
        let l : x.exponent ≤ y.exponent = omega (arith, lt_of_not-le g) in
        says_from f x y z t p q w x (lost f has w x z l q.first q.fits p.fits (sum_swaps f t (scaled f y) x.sign (scaled f x) ∙ i)) (max-eq_right l) sym
        (omega arith) (omega arith)

-- ---- for words

-- there is no zero in it, or the loss is none
abbrev NoZero : Value → Value → Value → Type 0
NoZero x y z = (0 < x.leading) × (0 < y.leading) × (0 < z.leading)

loss_some : (x y z : Value) → ((loss_of x y z ≡ 0) × (NoZero x y z → ⊥)) ⊎ NoZero x y z
loss_some x y z = by_tests (is_zero z) (is_zero x) (is_zero y) refl refl refl
  where
    above : (n : ℕ) → eqb n 0 ≡ false → 0 < n
    above n i = lt_of_not-le (λ l. eqb-false n 0 i (omega arith))

    by_tests : (a b c : Bool) → is_zero z ≡ a → is_zero x ≡ b → is_zero y ≡ c
        → ((pick (either a (either b c)) 0 (upper x y - z.exponent) ≡ 0) × (NoZero x y z → ⊥)) ⊎ NoZero x y z
    by_tests true b c i j k = inl (refl, λ n. omega (arith, eqb-true z.leading 0 i, n.2))
    by_tests false true c i j k = inl (refl, λ n. omega (arith, eqb-true x.leading 0 j, n.0))
    by_tests false false true i j k = inl (refl, λ n. omega (arith, eqb-true y.leading 0 k, n.1))
    by_tests false false false i j k = inr (above x.leading j, above y.leading k, above z.leading i)

-- what is answered with a word was of numbers
of_result : (a b w : ℕ) (r : Reckoned) → of_numbers a b r ≡ Ok w → Numbers a b × (r ≡ Ok w)
of_result a b w r = by_tests (is_number a) refl (is_number b) refl
  where
    by_tests : (p : Bool) → is_number a ≡ p → (q : Bool) → is_number b ≡ q
        → pick (both p q) r (Err NotNumber) ≡ Ok w → Numbers a b × (r ≡ Ok w)
    by_tests true i true j k = ((i, j), k)
    by_tests true i false j k = let z : ◌≡◌ {A = ℕ} 0 1 = cc in absurd (omega arith)
    by_tests false i q j k = let z : ◌≡◌ {A = ℕ} 0 1 = cc in absurd (omega arith)

-- a number that is not zero
full : (a : ℕ) → is_number a ≡ true → 0 < leading_in a → Full single (value_in a)
full a n some = record { first = number_leading a n (λ i. omega arith); fits = omega arith }

module _ (a b t w : ℕ) where
  nothing_lost : (n : ℕ) → n ≡ 0 → (NoZero (value_in a) (value_in b) (value_in w) → ⊥) → WordSays a b t w n
  nothing_lost n i z =
      record {
        none = λ j. i;
        smaller = λ l. absurd (omega arith);
        within = λ p q r. absurd (z (p, q, r));
        exact = λ l. absurd (omega arith);
        zeros = λ l. absurd (omega arith);
      }

  settled_says : Full single (value_in a) → Full single (value_in b) → 0 < leading_in w
      → (v : Settled) → sum single (sign_in a) (worth a) t (worth b) ≡ v → word_of v ≡ Ok w
      → Says single (value_in a) (value_in b) t (value_in w)
  settled_says p q some nought i j = let z : 0 ≡ w = cc in absurd (omega arith)
  settled_says p q some outside i j = let z : ◌≡◌ {A = ℕ} 0 1 = cc in absurd (omega arith)
  settled_says p q some (value s m e) i j =
      let g : Rounds single _ m e = (sum_rounds single (sign_in a) (worth a) t (worth b) s m e i).1 in
      let few : m < 100000000 = g.rounded.fits in
      let low : e < 100 = g.range in
      let word : s * 10000000000 + m * 100 + e ≡ w = cc in
      let sign : sign_in w ≡ s = omega arith in
      let digits : leading_in w ≡ m = omega arith in
      let exponent : exponent_in w ≡ e = omega arith in
      subst (Says single (value_in a) (value_in b) t) (cc) (loss_says single (omega arith) (value_in a) (value_in b) p q t s m e i)

  word_says : of_numbers a b (word_of (sum single (sign_in a) (worth a) t (worth b))) ≡ Ok w → WordSays a b t w (loss_in a b (Ok w))
  word_says i =
      let r : Numbers a b × (word_of (sum single (sign_in a) (worth a) t (worth b)) ≡ Ok w) = of_result a b w _ i in
      ⊎_elim (λ none. nothing_lost (loss_in a b (Ok w)) none.0 none.1)
      (λ some.
      let g : Says single (value_in a) (value_in b) t (value_in w) =
      settled_says (full a r.0.0 some.0) (full b r.0.1 some.1) some.2 (sum single (sign_in a) (worth a) t (worth b)) refl r.1 in
      record { none = g.none; smaller = g.smaller; within = λ p q s. g.within; exact = g.exact; zeros = g.zeros }) (loss_some (value_in a) (value_in b) (value_in w))

pub sum_says : SumSays
unfolding add_of sum_of
sum_says a b w i = word_says a b (sign_in b) w i

pub difference_says : DifferenceSays
unfolding sub_of difference_of
difference_says a b w i = word_says a b (1 - sign_in b) w i
