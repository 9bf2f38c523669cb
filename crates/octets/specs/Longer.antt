-- A decimal number read digit by digit. Assumes nothing.
use Rattle.std.specs.Prelude.{ℕ, ◌+◌, ◌*◌, ◌-◌, ◌^◌, ltb, Result, Ok, Err}
use Rattle.rules.specs.Words.{pick}
use Rattle.rules.specs.Cards.{zero_byte, is_digit}
use Rattle.octets.specs.declared.reads.DigitError.{DigitError}
use Rattle.octets.specs.declared.reads.DigitError.TheVariants.{TooLarge, NoDigit}

-- a number with one more digit behind it
abbrev pub with_digit : ℕ → ℕ → ℕ
with_digit x b = 10 * x + (b - zero_byte)

-- that number, where the byte is a digit and the number still below 2 to the power 64
unfoldable pub longer : ℕ → ℕ → Result ℕ DigitError
longer x b = pick (is_digit b) (pick (ltb (with_digit x b) (2 ^ 64)) (Ok (with_digit x b)) (Err TooLarge)) (Err NoDigit)
