-- How many of n words, one at least, the next card has, and what its bytes leave of the bytes of all cards. Assumes nothing.
use Rattle.std.specs.Prelude.{ℕ, ◌+◌, ◌*◌, ◌-◌, ◌≤◌, ◌≡◌}
use Rattle.rules.specs.Orders.{five, punch_size}

pub record NextCard (n k : ℕ) : Type 0 where
  pub is_five : k ≡ five n
  pub some : 1 ≤ k
  pub upto : k ≤ n
  pub few : k ≤ 5
  pub size : punch_size n ≡ 11 + 11 * k + punch_size (n - k)
