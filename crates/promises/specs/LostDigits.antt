-- What the loss of a sum says of its numbers: like signs lose nothing; a loss of n digits leaves less than the 10 ^ (n - 1)th part of the
-- larger operand, and more than the 10 ^ (n + 1)th; and from two digits on nothing was rounded, so that the last n - 1 digits of the result
-- are zeros that no operand had. For any form of numbers, and then for words. Assumes nothing.
use Rattle.std.specs.Prelude.{ℕ, suc, ◌+◌, ◌-◌, ◌*◌, ◌^◌, max, ◌≤◌, ◌<◌, ◌≡◌, ◌⊎◌, Ok}
use Rattle.rules.specs.Words.{sign_in, leading_in}
use Rattle.rules.specs.Rounding.{Form, Value, value, scaled, sum}
use Rattle.rules.specs.Arithmetic.{add_of, sub_of, loss_of, loss_in}
use Rattle.promises.specs.Reckoning.{worth, left}

-- ---- for any form

-- a number of the form that is not zero
pub record Full (f : Form) (x : Value) : Type 0 where
  pub first : 10 ^ (f.digits - 1) ≤ x.leading
  pub fits : x.leading < 10 ^ f.digits

abbrev pub upper : Value → Value → ℕ
upper x y = max x.exponent y.exponent

-- The number z came of x, and of y with the sign t.
pub record Says (f : Form) (x y : Value) (t : ℕ) (z : Value) : Type 0 where
  -- of like signs the result has the larger exponent of the two, or by the carry one more
  pub carries : x.sign ≡ t → (z.exponent ≡ upper x y) ⊎ (z.exponent ≡ suc (upper x y))
  pub none : x.sign ≡ t → loss_of x y z ≡ 0
  pub smaller : 1 ≤ loss_of x y z → scaled f z * 10 ^ (loss_of x y z - 1) < max (scaled f x) (scaled f y)
  pub within : max (scaled f x) (scaled f y) < scaled f z * 10 ^ (loss_of x y z + 1)
  pub exact : 2 ≤ loss_of x y z → scaled f z ≡ left (scaled f x) (scaled f y)
  pub zeros : 2 ≤ loss_of x y z → (q : ℕ) × (z.leading ≡ q * 10 ^ (loss_of x y z - 1))

abbrev pub LossSays : Type 0
LossSays =
    (f : Form) → 0 < f.digits → (x y : Value) → Full f x → Full f y → (t s m a : ℕ)
    → sum f x.sign (scaled f x) t (scaled f y) ≡ value s m a → Says f x y t (record { sign = s; leading = m; exponent = a })

-- ---- for words

-- the word w came of a, and of b with the sign t, and n digits went
pub record WordSays (a b t w n : ℕ) : Type 0 where
  pub none : sign_in a ≡ t → n ≡ 0
  pub smaller : 1 ≤ n → worth w * 10 ^ (n - 1) < max (worth a) (worth b)
  pub within : 0 < leading_in a → 0 < leading_in b → 0 < leading_in w → max (worth a) (worth b) < worth w * 10 ^ (n + 1)
  pub exact : 2 ≤ n → worth w ≡ left (worth a) (worth b)
  pub zeros : 2 ≤ n → (q : ℕ) × (leading_in w ≡ q * 10 ^ (n - 1))

abbrev pub SumSays : Type 0
SumSays = (a b w : ℕ) → add_of a b ≡ Ok w → WordSays a b (sign_in b) w (loss_in a b (Ok w))

abbrev pub DifferenceSays : Type 0
DifferenceSays = (a b w : ℕ) → sub_of a b ≡ Ok w → WordSays a b (1 - sign_in b) w (loss_in a b (Ok w))
