-- What arithmetic answers is a word: its digits are fewer than 10^8 where its exponent is in range, since rounding looks for the place at
-- which they are. Assumes nothing.
use Rattle.std.proofs.Common.{Err, Ok}
use Prim.Native.Nat.{ℕ, zero, suc, ◌+◌, ◌-◌, ◌*◌, ◌/◌, ◌^◌, ◌≤◌, ◌<◌}
use mathlib.Core.Path.{◌≡◌, refl, subst}
use mathlib.Core.Bool.{Bool, true, false}
use native.Mathlib.Omega.{arith}
use lib.Dec.{eqb, leb, ltb}
use borrow.Author.Tests.{ltb-true, leb-true, ltb-false, eqb-true}
use Rattle.rules.specs.Words.{pick, both, either, is_word, sign_in, leading_in, is_number}
use Rattle.rules.specs.Rounding.{single, nought, value, outside, nearest, place, place_in, placed, settled, turned, signs, sum, sum_of, difference_of, product_of, quotient_of, root_of}
use Rattle.rules.specs.Arithmetic.{value_in, word_of, of_numbers, of_number, add_of, sub_of, mpy_of, div_of, ngmpy_of, sqrt_of, abs_of}
use Rattle.rules.specs.Orders.{reckoned_by}
use Rattle.rules.specs.Answers.{Reckoned}
use Rattle.rules.specs.declared.Refusal.TheVariants.{NotNumber, ZeroDivisor, NegativeRoot}
use Rattle.rules.specs.declared.Reckoning.{Reckoning}
use Rattle.rules.specs.declared.Reckoning.TheVariants.{Add, Sub, Mpy, Div, Ngmpy, Sqrt, Abs}
use Rattle.rules.proofs.Tests.{both_first}

-- ---- the place that is found

-- below the top, the digits at the place found are few enough
few : (d h top : ℕ) → place d h top < top → nearest h (place d h top) < 10 ^ d
unfolding place
few d h zero = λ l. let z : ⊥ = omega arith in absurd z
few d h (suc e) = by_test (ltb (nearest h e) (10 ^ d)) refl (few d h e)
  where
    at_top : (p : ℕ) → nearest h e < 10 ^ d → (p < e → nearest h p < 10 ^ d) → p < suc e → nearest h p < 10 ^ d
    at_top p l k q = by_place (ltb p e) refl
      where
        by_place : (t : Bool) → ltb p e ≡ t → nearest h p < 10 ^ d
        by_place true f = k (ltb-true p e f)
        by_place false f =
            let g : e ≤ p = ltb-false p e f in
            subst (λ (x : ℕ). nearest h x < 10 ^ d) (omega arith) l

    by_test : (t : Bool) → ltb (nearest h e) (10 ^ d) ≡ t → (place d h e < e → nearest h (place d h e) < 10 ^ d)
        → pick t (place d h e) (suc e) < suc e → nearest h (pick t (place d h e) (suc e)) < 10 ^ d
    by_test true f k q = at_top (place d h e) (ltb-true (nearest h e) (10 ^ d) f) k q
    by_test false f k q = let z : ⊥ = omega arith in absurd z

-- ---- words

-- a result, where there is one, is a word
abbrev pub Fits : Reckoned → Type 0
Fits (Ok w) = w ≤ 19999999999
Fits (Err r) = Unit {0}

pick_fits : (t : Bool) (x y : Reckoned) → Fits x → Fits y → Fits (pick t x y)
pick_fits true x y p q = p
pick_fits false x y p q = q

placed_fits : (s m e : ℕ) → s ≤ 1 → (e < 200 → m < 100000000) → Fits (word_of (placed single s m e))
unfolding placed
placed_fits s m e k l = by_low (leb 100 e) refl (ltb e 200) refl
  where
    by_low : (t : Bool) → leb 100 e ≡ t → (u : Bool) → ltb e 200 ≡ u
        → Fits (word_of (pick t (pick u (value s m (e - 100)) outside) outside))
    by_low true f true g =
        let a : 100 ≤ e = leb-true 100 e f in
        let b : e < 200 = ltb-true e 200 g in
        let c : m < 100000000 = l b in
        omega arith
    by_low true f false g = tt
    by_low false f u g = tt

settled_fits : (s h : ℕ) → s ≤ 1 → Fits (word_of (settled single s h))
unfolding settled
settled_fits s h k = by_zero (eqb h 0)
  where
    by_zero : (t : Bool) → Fits (word_of (pick t nought (placed single s (nearest h (place_in single h)) (place_in single h))))
    by_zero true = omega arith
    by_zero false = placed_fits s (nearest h (place_in single h)) (place_in single h) k (λ l. few 8 h 400 (omega arith))

sum_fits : (s x t y : ℕ) → s ≤ 1 → t ≤ 1 → Fits (word_of (sum single s x t y))
unfolding sum
sum_fits s x t y k l = by_sign (eqb s t) (leb y x)
  where
    by_sign : (u v : Bool)
        → Fits (word_of (pick u (settled single s (2 * (x + y) / 1)) (pick v (settled single s (2 * (x - y) / 1)) (settled single t (2 * (y - x) / 1)))))
    by_sign true v = settled_fits s _ k
    by_sign false true = settled_fits s _ k
    by_sign false false = settled_fits t _ l

-- a number's sign
pub number_word : (w : ℕ) → is_number w ≡ true → w ≤ 19999999999
unfolding is_number
number_word w e = by_zero (eqb w 0) refl e
  where
    by_zero : (t : Bool) → eqb w 0 ≡ t → either t (both (is_word w) (leb 10000000 (leading_in w))) ≡ true → w ≤ 19999999999
    by_zero true f g = let z : w ≡ 0 = eqb-true w 0 f in omega arith
    by_zero false f g = leb-true w 19999999999 (both_first (is_word w) (leb 10000000 (leading_in w)) g)

sign_small : (w : ℕ) → is_number w ≡ true → sign_in w ≤ 1
sign_small w e = let l : w ≤ 19999999999 = number_word w e in omega arith

numbers_fit : (a b : ℕ) (r : Reckoned) → (is_number a ≡ true → is_number b ≡ true → Fits r) → Fits (of_numbers a b r)
numbers_fit a b r f = by_test (is_number a) refl (is_number b) refl
  where
    by_test : (t : Bool) → is_number a ≡ t → (u : Bool) → is_number b ≡ u → Fits (pick (both t u) r (Err NotNumber))
    by_test true p true q = f p q
    by_test true p false q = tt
    by_test false p u q = tt

number_fits : (b : ℕ) (r : Reckoned) → (is_number b ≡ true → Fits r) → Fits (of_number b r)
number_fits b r f = by_test (is_number b) refl
  where
    by_test : (u : Bool) → is_number b ≡ u → Fits (pick u r (Err NotNumber))
    by_test true q = f q
    by_test false q = tt

pub reckoned_fits : (r : Reckoning) (x y : ℕ) → Fits (reckoned_by r x y)
unfolding add_of sub_of mpy_of div_of ngmpy_of sqrt_of abs_of sum_of difference_of product_of quotient_of root_of
reckoned_fits Add x y = numbers_fit x y _ (λ p q. sum_fits (sign_in x) _ (sign_in y) _ (sign_small x p) (sign_small y q))
reckoned_fits Sub x y = numbers_fit x y _ (λ p q. sum_fits (sign_in x) _ (turned (sign_in y)) _ (sign_small x p) (omega arith))
reckoned_fits Mpy x y = numbers_fit x y _ (λ p q. settled_fits (signs (value_in x) (value_in y)) _ (omega arith))
reckoned_fits Div x y =
    numbers_fit x y _ (λ p q. pick_fits (eqb y 0) (Err ZeroDivisor) _ tt (settled_fits (signs (value_in x) (value_in y)) _ (omega arith)))
reckoned_fits Ngmpy x y = numbers_fit x y _ (λ p q. settled_fits (turned (signs (value_in x) (value_in y))) _ (omega arith))
reckoned_fits Sqrt x y =
    number_fits y _ (λ q. pick_fits (eqb (sign_in y) 1) (Err NegativeRoot) _ tt (settled_fits 0 _ (omega arith)))
reckoned_fits Abs x y = number_fits y _ (λ q. omega arith)
