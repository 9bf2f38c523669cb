-- `file::fill_row` meets its contract. The loop's invariant: the numbers passed stand at the row's start. Assumes nothing.
use mathlib.Core.List.{List}
use mathlib.Core.Path.{◌≡◌}
use Prim.Native.Nat.{ℕ, ◌-◌, ◌≤◌}
use lib.ListN.{length, drop}
use lib.Seq.{paste}
use Rattle.file.specs.Files.{row_in}
use Rattle.file.proofs.parts.fill_row.Given as goal

-- what is to stand in the row
abbrev pub there : List ℕ → List ℕ → ℕ → List ℕ
there row bytes a = row_in (length row) (drop a bytes)

abbrev pub invariant-loop-i : goal.invariant-loop-i
invariant-loop-i l = (l.i ≤ length l.row) × (length l.row ≡ length l.initial.row) × (l.row ≡ paste l.initial.row 0 (there l.initial.row l.bytes l.a) l.i)

abbrev pub decreases-loop-i : goal.decreases-loop-i
decreases-loop-i l = length l.row - l.i
