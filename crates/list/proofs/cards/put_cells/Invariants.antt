-- `list::cards::put_cells` meets its contract. The loop's invariant: the lines of the words passed stand in the output, and all else is
-- as it was. Assumes nothing.
use mathlib.Core.Path.{◌≡◌}
use lib.ListN.{length}
use Rattle.list.specs.Listing.{cell_lines}
use Rattle.octets.specs.Put.{splice}
use Rattle.list.proofs.cards.put_cells.Given as goal

abbrev pub invariant-loop-i : goal.invariant-loop-i
invariant-loop-i l = (length l.out ≡ length l.initial.out) × (l.out ≡ splice 32 (cell_lines l.rest l.location l.i) l.initial.out)
