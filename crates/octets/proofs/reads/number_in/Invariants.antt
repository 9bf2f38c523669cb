-- `octets::number_in` meets its contract. The loop's invariant: the number of the digits passed, and that it fits, since no byte counts
-- for more than 207. Assumes nothing.
use mathlib.Core.Path.{◌≡◌}
use Prim.Native.Nat.{◌+◌, ◌*◌, ◌^◌, ◌≤◌}
use Rattle.rules.specs.Cards.{number_in}
use Rattle.octets.proofs.reads.number_in.Given as goal

abbrev pub invariant-loop-i : goal.invariant-loop-i
invariant-loop-i l = (l.x ≡ number_in l.d l.a l.i) × (l.x + 23 ≤ 23 * 10 ^ l.i)
