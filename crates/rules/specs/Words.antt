-- Words: a sign and ten decimal digits, held as one number. What a number, an order and its addresses are.
-- Assumes nothing.
use Rattle.std.specs.Prelude.{ℕ, ◌+◌, ◌-◌, ◌*◌, ◌/◌, ◌%◌, Bool, true, false, eqb, leb}
use Rattle.rules.specs.declared.Address.{Address}
use Rattle.rules.specs.declared.Address.TheVariants.{OfA, OfB, OfC}

-- a choice by a test, and two tests together
abbrev pub pick : {A : Type 0} → Bool → A → A → A
pick true a b = a
pick false a b = b

abbrev pub both : Bool → Bool → Bool
both true b = b
both false b = false

abbrev pub either : Bool → Bool → Bool
either true b = true
either false b = b

-- A word is its ten digits, and 10,000,000,000 more for minus. So minus zero is a word of its own, and no word is above 19,999,999,999.
abbrev pub is_word : ℕ → Bool
is_word w = leb w 19999999999

-- 1 for minus
abbrev pub sign_in : ℕ → ℕ
sign_in w = w / 10000000000

abbrev pub digits_in : ℕ → ℕ
digits_in w = w % 10000000000

-- A number: +0, or a word whose first eight digits are at least 10000000. They are worth themselves times ten to the last two digits
-- less 57, with the word's sign.
abbrev pub leading_in : ℕ → ℕ
leading_in w = digits_in w / 100

abbrev pub exponent_in : ℕ → ℕ
exponent_in w = w % 100

unfoldable pub is_number : ℕ → Bool
is_number w = either (eqb w 0) (both (is_word w) (leb 10000000 (leading_in w)))

-- An order: sign, one digit, and three addresses of three digits, each with what one unit of it is worth in the word.
abbrev pub worth_of : Address → ℕ
worth_of OfA = 1000000
worth_of OfB = 1000
worth_of OfC = 1

abbrev pub address_in : Address → ℕ → ℕ
address_in k w = digits_in w / worth_of k % 1000

abbrev pub first_digit : ℕ → ℕ
first_digit w = digits_in w / 1000000000

abbrev pub a_in : ℕ → ℕ
a_in w = address_in OfA w

abbrev pub b_in : ℕ → ℕ
b_in w = address_in OfB w

abbrev pub c_in : ℕ → ℕ
c_in w = address_in OfC w

-- the word w with a for that address
abbrev pub with_address : Address → ℕ → ℕ → ℕ
with_address k w a = w - address_in k w * worth_of k + a * worth_of k

-- the word with the sign of w, and the ten digits d
abbrev pub with_digits : ℕ → ℕ → ℕ
with_digits w d = sign_in w * 10000000000 + d
