-- What rounding once, halves away from zero, comes to for any form of numbers. The exact magnitude is a fraction, compared by cross
-- products, or a root, compared by squares; a sum or a product is a fraction over 1, both sides scaled by a power of ten. Everything is
-- counted in the fine unit of the form, in which the unit of the exponent a is 10 ^ (a + exponents). Assumes nothing.
use Rattle.std.specs.Prelude.{ℕ, ◌+◌, ◌-◌, ◌*◌, ◌^◌, ◌≤◌, ◌<◌, ◌≡◌}
use Rattle.rules.specs.Rounding.{Form, nought, value, outside, settled, fraction, root_halves}

-- An exact magnitude, known by comparing: `x k t` says that k times twice the magnitude is at least t.
abbrev pub Magnitude : Type 1
Magnitude = ℕ → ℕ → Type 0

abbrev pub of_fraction : ℕ → ℕ → Magnitude
of_fraction p q k t = t * q ≤ k * (2 * p)

abbrev pub of_root : ℕ → Magnitude
of_root n k t = t * t ≤ k * k * (4 * n)

-- m units u are the magnitude rounded to d digits: it is at least m - 1/2 units, so a half goes away from zero, and less than m + 1/2;
-- m has no more than d digits; and in units a tenth as large it would have more.
pub record RoundedTo (d : ℕ) (x : Magnitude) (u m : ℕ) : Type 0 where
  pub at_least : x 1 (2 * (m * u) - u)
  pub below : x 1 (2 * (m * u) + u) → ⊥
  pub fits : m < 10 ^ d
  pub full : x 10 (2 * (10 ^ d * u) - u)

-- The number of sign t, digits m and exponent a that is answered has the sign s asked for, d digits of which the first is not 0, an
-- exponent of the form, and is the magnitude rounded.
pub record Number (f : Form) (x : Magnitude) (s t m a : ℕ) : Type 0 where
  pub sign : t ≡ s
  pub first : 10 ^ (f.digits - 1) ≤ m
  pub range : a < f.exponents
  pub rounded : RoundedTo f.digits x (10 ^ (a + f.exponents)) m

-- The magnitude rounded to d digits is somewhere: there are a place and digits that are right.
pub record Somewhere (d : ℕ) (x : Magnitude) : Type 0 where
  pub place : ℕ
  pub digits : ℕ
  pub rounded : RoundedTo d x (10 ^ place) digits

-- That h are the halves of the magnitude x, so that what the rules settle from h is x rounded once.
pub record Rounds (f : Form) (x : Magnitude) (h : ℕ) : Type 0 where
  -- a number that is answered is as said above
  pub number : (s t m a : ℕ) → settled f s h ≡ value t m a → Number f x s t m a
  -- digits and a place that are right exist, unless the magnitude is too small to have d digits at the lowest place
  pub some : x 10 (2 * 10 ^ f.digits - 1) → Somewhere f.digits x
  -- there are no other digits and no other place of them
  pub only : (e m c n : ℕ) → RoundedTo f.digits x (10 ^ e) m → RoundedTo f.digits x (10 ^ c) n → (e ≡ c) × (m ≡ n)
  -- whoever has digits and place that are right has the answer, its exponent judged by that place, so after rounding
  pub within : (s e m : ℕ) → RoundedTo f.digits x (10 ^ e) m → f.exponents ≤ e → e < 2 * f.exponents → settled f s h ≡ value s m (e - f.exponents)
  pub under : (s e m : ℕ) → RoundedTo f.digits x (10 ^ e) m → e < f.exponents → settled f s h ≡ outside
  pub over : (s e m : ℕ) → RoundedTo f.digits x (10 ^ e) m → 2 * f.exponents ≤ e → settled f s h ≡ outside
  -- one that is too small is outside, and one below half the fine unit is zero
  pub small : (s : ℕ) → x 1 1 → (x 10 (2 * 10 ^ f.digits - 1) → ⊥) → settled f s h ≡ outside
  pub none : (s : ℕ) → (x 1 1 → ⊥) → settled f s h ≡ nought
  -- and nothing else is zero
  pub zero : (s : ℕ) → settled f s h ≡ nought → x 1 1 → ⊥

-- The magnitude p / q is rounded once.
abbrev pub FractionRounds : Type 0
FractionRounds = (f : Form) → 0 < f.digits → (p q : ℕ) → 0 < q → Rounds f (of_fraction p q) (fraction p q)

-- The root of n is rounded once, for n as large as the form's roots can be asked for.
abbrev pub RootRounds : Type 0
RootRounds = (f : Form) → 0 < f.digits → (n : ℕ) → 4 * n < 4 ^ (7 * f.exponents) → Rounds f (of_root n) (root_halves f n)

-- A root is never just half way between m and m + 1 units, so that no half comes up: twice the root of a number of the form, digits n and
-- any power of ten, is not m units and m + 1 units together, for m of as many digits.
abbrev pub RootNeverHalf : Type 0
RootNeverHalf = (f : Form) → 0 < f.digits → (n k e m : ℕ) → n < 10 ^ f.digits → 10 ^ (f.digits - 1) ≤ m
    → (m * 10 ^ e + (m + 1) * 10 ^ e) * (m * 10 ^ e + (m + 1) * 10 ^ e) ≡ 4 * (n * 10 ^ k) → ⊥
