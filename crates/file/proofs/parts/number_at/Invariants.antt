-- `file::number_at` meets its contract. The loop's invariant: the number of the bytes from place i up, and that it fits so many bytes.
-- Assumes nothing.
use mathlib.Core.Path.{◌≡◌}
use mathlib.Core.List.{List}
use Prim.Native.Nat.{ℕ, ◌-◌, ◌^◌, ◌≤◌, ◌<◌}
use lib.ListN.{take, drop}
use Rattle.file.specs.Files.{number_of}
use Rattle.file.proofs.parts.number_at.Given as goal

-- the eight bytes
abbrev pub eight : List ℕ → ℕ → List ℕ
eight bytes a = take 8 (drop a bytes)

abbrev pub invariant-loop-i : goal.invariant-loop-i
invariant-loop-i l = (l.i ≤ 8) × (l.x ≡ number_of (drop l.i (eight l.bytes l.a))) × (l.x < 256 ^ (8 - l.i))

abbrev pub decreases-loop-i : goal.decreases-loop-i
decreases-loop-i l = l.i
