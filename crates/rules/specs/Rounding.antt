-- Rounding to any number of decimal digits, halves away from zero, and the four results that are rounded: a sum, a product, a
-- quotient and a root. Nothing here depends on eight digits or on two-digit exponents: those are a form, and another form may be put
-- for it. Assumes nothing.
use Rattle.std.specs.Prelude.{ℕ, zero, suc, ◌+◌, ◌-◌, ◌*◌, ◌/◌, ◌%◌, ◌^◌, eqb, leb, ltb}
use Rattle.rules.specs.Words.{pick}

-- A form of numbers: how many digits M has, the exponent a at which M is worth just itself, and how many exponents there are, from 0
-- up. So M and a are worth M times 10 to the power a - point.
pub record Form : Type 0 where
  pub digits : ℕ
  pub point : ℕ
  pub exponents : ℕ

-- the newsletter's numbers: eight digits, exponents 00 to 99, worth M times 10 to the power a - 57
abbrev pub single : Form
single = record { digits = 8; point = 57; exponents = 100 }

-- A number taken apart: sign (1 for minus), M and a. Zero has M 0.
pub record Value : Type 0 where
  pub sign : ℕ
  pub leading : ℕ
  pub exponent : ℕ

-- A rounded result: zero, a number of the form, or one whose exponent the form does not have.
pub data Settled : Type 0 where
  nought : Settled
  value : ℕ → ℕ → ℕ → Settled
  outside : Settled

-- A magnitude is counted in a unit so fine that no exact result but zero is too small for its digits there: the unit of an exponent as far
-- below 0 as there are exponents. It is given by its halves: twice the magnitude, cut to a whole number. Rounding needs to know no more
-- than that, be the magnitude whole, a fraction or a root: it reaches k and a half units just where its halves reach 2 k + 1 units, a
-- whole number.
--
-- P3 worked, 1/3 in the form `single`: 1 is 10 ^ 157 fine units, so the halves are 2 * 10 ^ 157 / 3 cut, 157 sixes. At the place 149
-- eight of them are left, and the nearest is (66666666 + 1) / 2 = 33333333, of eight digits; at 148 it is 333333333, of nine. So the place
-- is 149, the exponent 149 - 100 = 49, and the word +3333333349.

-- the whole number of units of 10 ^ e that is nearest, a half going up
unfoldable pub nearest : ℕ → ℕ → ℕ
nearest h e = (h / 10 ^ e + 1) / 2

-- the place of the last of d digits: the lowest at which the nearest whole number has at most d digits, looked for from a place
-- above it down
unfoldable pub place : ℕ → ℕ → ℕ → ℕ
place d h zero = zero
place d h (suc e) = pick (ltb (nearest h e) (10 ^ d)) (place d h e) (suc e)

-- A place above it: four times as many as there are exponents. In `single` that is 400, and no sum reaches 2 * 10 ^ 207 fine units, no
-- product or quotient 10 ^ 257, no root 10 ^ 182, so that eight digits are enough at the place 250 already. Were the place above 400, then
-- 400 would be found for it, and both are outside.
abbrev pub place_in : Form → ℕ → ℕ
place_in f h = place f.digits h (4 * f.exponents)

-- the number of sign s with the digits m at the place e; its exponent is judged here, after rounding
unfoldable pub placed : Form → ℕ → ℕ → ℕ → Settled
placed f s m e =
    pick (leb f.exponents e) (pick (ltb e (2 * f.exponents)) (value s m (e - f.exponents)) outside) outside

-- the number of sign s and halves h: the exact magnitude rounded once
unfoldable pub settled : Form → ℕ → ℕ → Settled
settled f s h = pick (eqb h 0) nought (placed f s (nearest h (place_in f h)) (place_in f h))

-- the halves of the magnitude p / q
abbrev pub fraction : ℕ → ℕ → ℕ
fraction p q = 2 * p / q

-- the largest whole number whose square is at most n, for n below 4 ^ k: one binary digit of it for each step
unfoldable pub grown : ℕ → ℕ → ℕ
grown n r = pick (leb ((2 * r + 1) * (2 * r + 1)) n) (2 * r + 1) (2 * r)

unfoldable pub root_below : ℕ → ℕ → ℕ
root_below zero n = 0
root_below (suc k) n = grown n (root_below k (n / 4))

-- The halves of the root of n. The steps are enough: in `single` n is below 10 ^ 8 * 10 ^ (99 + 257) = 10 ^ 364, so 4 n is below 4 ^ 700,
-- which has 422 digits.
abbrev pub root_halves : Form → ℕ → ℕ
root_halves f n = root_below (7 * f.exponents) (4 * n)

-- a number's magnitude in the fine unit
abbrev pub scaled : Form → Value → ℕ
scaled f x = x.leading * 10 ^ (x.exponent + f.exponents)

-- The exact sum, rounded once. Of two signs the larger magnitude's holds; no operand is rounded before.
unfoldable pub sum : Form → ℕ → ℕ → ℕ → ℕ → Settled
sum f s x t y =
    pick (eqb s t) (settled f s (fraction (x + y) 1))
    (pick (leb y x) (settled f s (fraction (x - y) 1)) (settled f t (fraction (y - x) 1)))

abbrev pub turned : ℕ → ℕ
turned s = 1 - s

unfoldable pub sum_of : Form → Value → Value → Settled
sum_of f x y = sum f x.sign (scaled f x) y.sign (scaled f y)

unfoldable pub difference_of : Form → Value → Value → Settled
difference_of f x y = sum f x.sign (scaled f x) (turned y.sign) (scaled f y)

-- minus where one of the two is
abbrev pub signs : Value → Value → ℕ
signs x y = (x.sign + y.sign) % 2

-- The exact product and quotient with the sign s, and the exact root, each rounded once.
unfoldable pub product_of : Form → ℕ → Value → Value → Settled
product_of f s x y =
    settled f s (fraction (x.leading * y.leading * 10 ^ (x.exponent + y.exponent + (f.exponents - f.point))) 1)

unfoldable pub quotient_of : Form → ℕ → Value → Value → Settled
quotient_of f s x y =
    settled f s (fraction (x.leading * 10 ^ (x.exponent + f.point + f.exponents)) (y.leading * 10 ^ y.exponent))

unfoldable pub root_of : Form → Value → Settled
root_of f x = settled f 0 (root_halves f (x.leading * 10 ^ (x.exponent + f.point + 2 * f.exponents)))
