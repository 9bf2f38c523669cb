-- What a rounded result is, said in whole numbers and apart from how it is found. The code is held to these facts on numbers of 64 bits,
-- and the laws carry them to the definitions of Rounding. Assumes nothing.
use Rattle.std.specs.Prelude.{ℕ, ◌+◌, ◌*◌, ◌^◌, ◌≤◌, ◌<◌}

-- m units u are the magnitude of halves h, rounded to d digits: the magnitude is at least m - 1/2 units, so that a half goes away from
-- zero, and below m + 1/2; m has no more than d digits; and counted in units a tenth as large it would have more.
pub record Rounded (d h u m : ℕ) : Type 0 where
  pub reached : 2 * (m * u) ≤ h + u
  pub not_passed : h < 2 * (m * u) + u
  pub fits : m < 10 ^ d
  pub full : 2 * (10 ^ d * u) ≤ 10 * h + u

-- r is the root of n, cut to a whole number
pub record RootCut (n r : ℕ) : Type 0 where
  pub reached : r * r ≤ n
  pub not_passed : n < (r + 1) * (r + 1)
