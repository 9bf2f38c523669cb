-- A number with one more digit behind it: where there is one, the byte is a digit. Assumes nothing.
use mathlib.Core.Path.{◌≡◌, refl}
use mathlib.Core.Bool.{Bool, true, false}
use Prim.Native.Nat.{ℕ, ◌^◌}
use lib.Dec.{ltb}
use Rattle.std.specs.Prelude.{Ok, Err}
use Rattle.rules.specs.Words.{pick}
use Rattle.rules.specs.Cards.{is_digit}
use Rattle.octets.specs.Longer.{with_digit, longer}
use Rattle.octets.specs.declared.reads.DigitError.TheVariants.{TooLarge, NoDigit}

pub number_is : (x b : ℕ) {y : ℕ} → Ok y ≡ longer x b → (is_digit b ≡ true) × (y ≡ with_digit x b)
unfolding longer
number_is x b {y} e = by_cases (is_digit b) (ltb (with_digit x b) (2 ^ 64)) e
  where
    by_cases : (d t : Bool) → Ok y ≡ pick d (pick t (Ok (with_digit x b)) (Err TooLarge)) (Err NoDigit) → (d ≡ true) × (y ≡ with_digit x b)
    by_cases true true e = (refl, (cc))
    by_cases true false e = (refl, (cc))
    by_cases false t e = ((cc), (cc))
