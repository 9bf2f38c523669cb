-- `machine::reading::store_words`: before each turn the first i words are stored. Assumes nothing.
use mathlib.Core.Path.{◌≡◌}
use Prim.Native.Nat.{◌-◌, ◌≤◌}
use lib.ListN.{length}
use Rattle.machine.proofs.StoredCards.{StoringWords}
use Rattle.machine.proofs.reading.store_words.Given as goal

abbrev pub invariant-loop-i : goal.invariant-loop-i
invariant-loop-i l = (l.i ≤ l.words) × (length l.drum ≡ length l.initial.drum) × (length l.marks ≡ length l.initial.marks) × StoringWords l.initial.drum l.initial.marks l.d l.location l.drum l.marks l.i

abbrev pub decreases-loop-i : goal.decreases-loop-i
decreases-loop-i l = l.words - l.i
