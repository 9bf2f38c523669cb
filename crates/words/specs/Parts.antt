-- The parts of a word as an order, as code takes it apart. Assumes nothing.
use Rattle.std.specs.Prelude.{ℕ, ◌/◌, ◌≡◌}
use Rattle.rules.specs.Words.{digits_in, b_in, c_in}
use Rattle.words.specs.declared.Parts.{Parts}

-- O1 and A as one number of four digits
abbrev pub key_in : ℕ → ℕ
key_in w = digits_in w / 1000000

pub record PartsIn (w : ℕ) (p : Parts) : Type 0 where
  pub key_is : p.key ≡ key_in w
  pub b_is : p.b ≡ b_in w
  pub c_is : p.c ≡ c_in w
