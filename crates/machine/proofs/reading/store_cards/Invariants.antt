-- `machine::reading::store_cards`: before each turn the cards before `at` are stored; a data card has bytes, so `at` rises. Assumes
-- nothing.
use mathlib.Core.Path.{◌≡◌}
use Prim.Native.Nat.{◌-◌}
use lib.ListN.{length}
use Rattle.machine.proofs.StoredCards.{StoringCards}
use Rattle.machine.proofs.reading.store_cards.Given as goal

abbrev pub invariant-loop-at : goal.invariant-loop-at
invariant-loop-at l = (length l.drum ≡ length l.initial.drum) × (length l.marks ≡ length l.initial.marks) × StoringCards l.initial.drum l.initial.marks l.deck l.from l.end l.drum l.marks l.at

abbrev pub decreases-loop-at : goal.decreases-loop-at
decreases-loop-at l = l.end - l.at
