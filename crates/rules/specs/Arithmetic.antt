-- Arithmetic on words: codes 1 to 5, 0 300 and 0 350. An operand that is no number is refused before anything else; the exact result
-- is rounded once, and only then is its exponent judged. Of a sum and a difference it is also told how many digits went.
-- Assumes nothing.
use Rattle.std.specs.Prelude.{ℕ, ◌+◌, ◌-◌, ◌*◌, max, Bool, eqb, Ok, Err}
use Rattle.rules.specs.Words.{pick, both, either, sign_in, digits_in, leading_in, exponent_in, is_number}
use Rattle.rules.specs.Rounding.{Value, Settled, nought, value, outside, single, turned, signs, sum_of, difference_of, product_of, quotient_of, root_of}
use Rattle.rules.specs.Answers.{Reckoned}
use Rattle.rules.specs.declared.Sum.{Sum}
use Rattle.rules.specs.declared.Refusal.TheVariants.{NotNumber, ZeroDivisor, NegativeRoot, OutOfRange}

-- a word taken apart, and a result put together; zero is always +0
abbrev pub value_in : ℕ → Value
value_in w = record { sign = sign_in w; leading = leading_in w; exponent = exponent_in w }

abbrev pub word_of : Settled → Reckoned
word_of nought = Ok 0
word_of (value s m a) = Ok (s * 10000000000 + m * 100 + a)
word_of outside = Err OutOfRange

-- both operands must be numbers, or the one
abbrev pub of_numbers : ℕ → ℕ → Reckoned → Reckoned
of_numbers a b r = pick (both (is_number a) (is_number b)) r (Err NotNumber)

abbrev pub of_number : ℕ → Reckoned → Reckoned
of_number b r = pick (is_number b) r (Err NotNumber)

-- 1 ADD and 2 SUB
unfoldable pub add_of : ℕ → ℕ → Reckoned
add_of a b = of_numbers a b (word_of (sum_of single (value_in a) (value_in b)))

unfoldable pub sub_of : ℕ → ℕ → Reckoned
sub_of a b = of_numbers a b (word_of (difference_of single (value_in a) (value_in b)))

-- 3 MPY, 4 DIV, and 5 NGMPY, which is the product with its sign turned
unfoldable pub mpy_of : ℕ → ℕ → Reckoned
mpy_of a b = of_numbers a b (word_of (product_of single (signs (value_in a) (value_in b)) (value_in a) (value_in b)))

unfoldable pub div_of : ℕ → ℕ → Reckoned
div_of a b =
    of_numbers a b
    (pick (eqb b 0) (Err ZeroDivisor)
    (word_of (quotient_of single (signs (value_in a) (value_in b)) (value_in a) (value_in b))))

unfoldable pub ngmpy_of : ℕ → ℕ → Reckoned
ngmpy_of a b = of_numbers a b (word_of (product_of single (turned (signs (value_in a) (value_in b))) (value_in a) (value_in b)))

-- 0 300 SQRT: the number nearest the root; 0 350 ABS: the digits with plus
unfoldable pub sqrt_of : ℕ → Reckoned
sqrt_of b = of_number b (pick (eqb (sign_in b) 1) (Err NegativeRoot) (word_of (root_of single (value_in b))))

unfoldable pub abs_of : ℕ → Reckoned
abs_of b = of_number b (Ok (digits_in b))

-- ---- the digits that a sum or a difference loses

abbrev pub is_zero : Value → Bool
is_zero x = eqb x.leading 0

-- The loss, by the two operands and the result z: the larger exponent of the operands less the result's, and 0 where that is below zero.
-- Where the result or an operand is zero, it is 0 too.
abbrev pub loss_of : Value → Value → Value → ℕ
loss_of x y z = pick (either (is_zero z) (either (is_zero x) (is_zero y))) 0 (max x.exponent y.exponent - z.exponent)

-- of the words a and b, by what was answered; with a refusal it is 0
abbrev pub loss_in : ℕ → ℕ → Reckoned → ℕ
loss_in a b (Ok w) = loss_of (value_in a) (value_in b) (value_in w)
loss_in a b (Err r) = 0

-- what is told of it
abbrev pub summed : ℕ → ℕ → Reckoned → Sum
summed a b r = record { answer = r; lost = loss_in a b r }
