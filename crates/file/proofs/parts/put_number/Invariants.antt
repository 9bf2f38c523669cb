-- `file::put_number` meets its contract. The loop's invariant: the bytes passed stand in the output, and what is left of the number is
-- above them. Assumes nothing.
use mathlib.Core.Path.{◌≡◌}
use Prim.Native.Nat.{◌-◌, ◌≤◌}
use lib.ListN.{length}
use lib.Seq.{paste}
use Rattle.file.specs.Files.{low_bytes}
use Rattle.file.proofs.Files.{shifted}
use Rattle.file.proofs.parts.put_number.Given as goal

abbrev pub invariant-loop-i : goal.invariant-loop-i
invariant-loop-i l = (l.i ≤ 8) × (length l.out ≡ length l.initial.out) × (l.out ≡ paste l.initial.out l.a (low_bytes 8 l.x) l.i) × (l.left ≡ shifted l.i l.x)

abbrev pub decreases-loop-i : goal.decreases-loop-i
decreases-loop-i l = 8 - l.i
