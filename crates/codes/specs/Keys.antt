-- The key of an order, its digits O1 and A as one number, and the slot of a key in an index of rows. Assumes nothing.
use Rattle.std.specs.Prelude.{ℕ, ◌+◌, ◌-◌, ◌*◌, ◌/◌, eqb, ltb}
use Rattle.rules.specs.Words.{pick, digits_in}

abbrev pub key_in : ℕ → ℕ
key_in w = digits_in w / 1000000

-- O2 where O1 is 0, else 999 and O1 more; the last, 1009, is for MOVE with A not 000, and for a number that is no key
unfoldable pub slot_of : ℕ → ℕ
slot_of key = pick (ltb key 1000) key (pick (ltb 9000 key) 1009 (999 + key / 1000))

-- the code that has a slot
abbrev pub code_of_slot : ℕ → ℕ
code_of_slot j = pick (ltb j 1000) j (pick (eqb j 1009) 9001 (1000 * (j - 999)))
