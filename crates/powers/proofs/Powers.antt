-- The powers of ten that the table holds. Assumes nothing.
use Prim.Native.Nat.{ℕ, ◌^◌, ◌<◌}
use mathlib.Core.Path.{◌≡◌}
use borrow.Author.Tests.{lt-ltb}
use Rattle.powers.specs.Powers.{power_of}

pub in_table : (k : ℕ) → k < 20 → power_of k ≡ 10 ^ k
in_table k h = simp (lt-ltb k 20 h)
