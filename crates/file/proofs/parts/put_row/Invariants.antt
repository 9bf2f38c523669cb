-- `file::put_row` meets its contract. The loop's invariant: the numbers passed stand in the output. Assumes nothing.
use mathlib.Core.Path.{◌≡◌}
use Prim.Native.Nat.{◌-◌, ◌≤◌}
use lib.ListN.{length, take}
use Rattle.file.specs.Files.{row_bytes}
use Rattle.octets.specs.Put.{splice}
use Rattle.file.proofs.parts.put_row.Given as goal

abbrev pub invariant-loop-i : goal.invariant-loop-i
invariant-loop-i l = (l.i ≤ length l.row) × (length l.out ≡ length l.initial.out) × (l.out ≡ splice l.a (row_bytes (take l.i l.row)) l.initial.out)

abbrev pub decreases-loop-i : goal.decreases-loop-i
decreases-loop-i l = length l.row - l.i
