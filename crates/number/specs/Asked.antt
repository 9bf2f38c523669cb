-- What the steps of word arithmetic ask of their callers, all of them in this crate. Assumes nothing.
use Rattle.std.specs.Prelude.{ℕ, ◌+◌, ◌*◌, ◌^◌, ◌≤◌, ◌<◌, ◌≡◌}

-- The halves h, counted from the place j, are rounded in units u, the power k of ten, or in units ten times as large: in units a tenth
-- as large as u there would be more than eight digits, and in units ten times as large there are no more.
pub record NearUnit (h k u j : ℕ) : Type 0 where
  pub unit : u ≡ 10 ^ k
  pub start : k ≤ 8
  pub place : j ≤ 1000
  pub full : 2 * (10 ^ 8 * u) ≤ 10 * h + u
  pub few : h + u * 10 < 2 * (10 ^ 8 * (u * 10))
