-- Powers of ten as far as 64 bits hold them. Assumes nothing.
use Rattle.std.specs.Prelude.{ℕ, ◌^◌, ltb}
use Rattle.rules.specs.Words.{pick}

-- 10 ^ 19 is the largest that fits; above it stands 0
abbrev pub power_of : ℕ → ℕ
power_of k = pick (ltb k 20) (10 ^ k) 0
