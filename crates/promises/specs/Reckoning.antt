-- What each of the seven arithmetic orders answers to any two words at all: the exact value that it rounds, and that each answer is given
-- exactly where its line in `Due` holds. Magnitudes are counted in the fine unit, that of the exponent 100 below 00, worth 10 to the power
-- -157: so a number's digits are scaled by its exponent and 100, a product's by 43, a quotient's by 157, and what a root is taken of by
-- 257. Assumes nothing.
use Rattle.std.specs.Prelude.{ℕ, zero, suc, ◌+◌, ◌-◌, ◌*◌, ◌%◌, ◌^◌, ◌≤◌, ◌<◌, ◌≡◌, ◌↔◌, true, eqb, ltb, Ok, Err}
use Rattle.rules.specs.Words.{pick, is_number, sign_in, digits_in, leading_in, exponent_in}
use Rattle.rules.specs.Arithmetic.{add_of, sub_of, mpy_of, div_of, ngmpy_of, sqrt_of, abs_of}
use Rattle.rules.specs.Answers.{Reckoned}
use Rattle.rules.specs.declared.Refusal.TheVariants.{BadAddress, Unmarked, NoRoom, NotBuilt, NotNumber, ZeroDivisor, NegativeRoot, OutOfRange, Unfit, NoCard}
use Rattle.promises.specs.Rounding.{Magnitude, of_fraction, of_root, RoundedTo}

-- x is zero: no multiple of it is above zero
abbrev pub Zero : Magnitude → Type 0
Zero x = (k : ℕ) → x k 1 → ⊥

-- The word w is the value of sign s and magnitude x, rounded once: its sign is s, and its eight digits, of which the first is not 0, are
-- x rounded at the place of its exponent.
pub record IsRounded (s : ℕ) (x : Magnitude) (w : ℕ) : Type 0 where
  pub sign : sign_in w ≡ s
  pub first : 10000000 ≤ leading_in w
  pub rounded : RoundedTo 8 x (10 ^ (exponent_in w + 100)) (leading_in w)

-- +0 is the word of zero, and of nothing else
abbrev pub WordDue : ℕ → Magnitude → ℕ → Type 0
WordDue s x zero = Zero x
WordDue s x (suc w) = IsRounded s x (suc w)

-- x rounded to eight digits has them at a place that no exponent from 00 to 99 has.
pub record Beyond (x : Magnitude) : Type 0 where
  pub place : ℕ
  pub digits : ℕ
  pub rounded : RoundedTo 8 x (10 ^ place) digits
  pub outside : 100 ≤ place → place < 200 → ⊥

-- An order on some words: that its operands are numbers, that it divides by zero, that it takes the root of a negative number, and the
-- sign (1 for minus) and magnitude of its exact value.
pub record Order : Type 1 where
  pub numbers : Type 0
  pub zero_divisor : Type 0
  pub negative_root : Type 0
  pub sign : ℕ
  pub exact : Magnitude

-- it is none of 24, 25 and 26
abbrev pub Taken : Order → Type 0
Taken o = o.numbers × (o.zero_divisor → ⊥) × (o.negative_root → ⊥)

-- When an answer is due: 24, 25, 26 and 27; a word; and no other refusal ever.
abbrev pub Due : Order → Reckoned → Type 0
Due o (Err NotNumber) = o.numbers → ⊥
Due o (Err ZeroDivisor) = o.numbers × o.zero_divisor
Due o (Err NegativeRoot) = o.numbers × o.negative_root
Due o (Err OutOfRange) = Taken o × Beyond o.exact
Due o (Ok w) = Taken o × WordDue o.sign o.exact w
Due o (Err BadAddress) = ⊥
Due o (Err Unmarked) = ⊥
Due o (Err NoRoom) = ⊥
Due o (Err NotBuilt) = ⊥
Due o (Err Unfit) = ⊥
Due o (Err NoCard) = ⊥

-- an answer is given exactly where it is due
abbrev pub Answers : Order → Reckoned → Type 0
Answers o answer = (r : Reckoned) → (answer ≡ r) ↔ Due o r

-- ---- the orders and their exact values

abbrev pub worth : ℕ → ℕ
worth w = leading_in w * 10 ^ (exponent_in w + 100)

abbrev pub Numbers : ℕ → ℕ → Type 0
Numbers a b = (is_number a ≡ true) × (is_number b ≡ true)

-- what a value of sign s and magnitude p is above zero, and what below
abbrev pub above : ℕ → ℕ → ℕ
above s p = pick (eqb s 0) p 0

abbrev pub below : ℕ → ℕ → ℕ
below s p = pick (eqb s 0) 0 p

-- of u above zero and v below: the sign, and the magnitude, of what is left
abbrev pub sign_left : ℕ → ℕ → ℕ
sign_left u v = pick (ltb u v) 1 0

abbrev pub left : ℕ → ℕ → ℕ
left u v = (u - v) + (v - u)

-- the sum of a, and of b with the sign t
abbrev pub up : ℕ → ℕ → ℕ → ℕ
up a b t = above (sign_in a) (worth a) + above t (worth b)

abbrev pub down : ℕ → ℕ → ℕ → ℕ
down a b t = below (sign_in a) (worth a) + below t (worth b)

abbrev pub summing : ℕ → ℕ → ℕ → Order
summing a b t =
    record {
      numbers = Numbers a b;
      zero_divisor = ⊥;
      negative_root = ⊥;
      sign = sign_left (up a b t) (down a b t);
      exact = of_fraction (left (up a b t) (down a b t)) 1;
    }

abbrev pub adding : ℕ → ℕ → Order
adding a b = summing a b (sign_in b)

abbrev pub subtracting : ℕ → ℕ → Order
subtracting a b = summing a b (1 - sign_in b)

-- the product with the sign s
abbrev pub product : ℕ → ℕ → ℕ → Order
product s a b =
    record {
      numbers = Numbers a b;
      zero_divisor = ⊥;
      negative_root = ⊥;
      sign = s;
      exact = of_fraction (leading_in a * leading_in b * 10 ^ (exponent_in a + exponent_in b + 43)) 1;
    }

-- minus where one of the two is, and the other way round
abbrev pub multiplying : ℕ → ℕ → Order
multiplying a b = product ((sign_in a + sign_in b) % 2) a b

abbrev pub multiplying_negatively : ℕ → ℕ → Order
multiplying_negatively a b = product (1 - (sign_in a + sign_in b) % 2) a b

abbrev pub dividing : ℕ → ℕ → Order
dividing a b =
    record {
      numbers = Numbers a b;
      zero_divisor = b ≡ 0;
      negative_root = ⊥;
      sign = (sign_in a + sign_in b) % 2;
      exact = of_fraction (leading_in a * 10 ^ (exponent_in a + 157)) (leading_in b * 10 ^ exponent_in b);
    }

abbrev pub taking_root : ℕ → Order
taking_root b =
    record {
      numbers = is_number b ≡ true;
      zero_divisor = ⊥;
      negative_root = sign_in b ≡ 1;
      sign = 0;
      exact = of_root (leading_in b * 10 ^ (exponent_in b + 257));
    }

abbrev pub taking_magnitude : ℕ → Order
taking_magnitude b =
    record { numbers = is_number b ≡ true; zero_divisor = ⊥; negative_root = ⊥; sign = 0; exact = of_fraction (worth b) 1 }

-- ---- the statement, for any two words

pub record Reckoning (a b : ℕ) : Type 0 where
  pub add : Answers (adding a b) (add_of a b)
  pub sub : Answers (subtracting a b) (sub_of a b)
  pub mpy : Answers (multiplying a b) (mpy_of a b)
  pub div : Answers (dividing a b) (div_of a b)
  pub ngmpy : Answers (multiplying_negatively a b) (ngmpy_of a b)
  pub sqrt : Answers (taking_root b) (sqrt_of b)
  pub abs : Answers (taking_magnitude b) (abs_of b)
  -- no magnitude needs rounding: it has the word's digits
  pub digits : is_number b ≡ true → abs_of b ≡ Ok (digits_in b)

abbrev pub AllReckoned : Type 0
AllReckoned = (a b : ℕ) → Reckoning a b
