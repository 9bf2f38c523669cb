-- `shows::cards::list_cards` ends: each turn takes a card. The loop's invariant: what is left to list comes to the whole. Assumes nothing.
use mathlib.Core.Path.{◌≡◌}
use Prim.Native.Nat.{ℕ, ◌-◌, ◌≤◌}
use lib.ListN.{length}
use Rattle.shows.specs.Parts.{listed_upto}
use Rattle.shows.proofs.cards.list_cards.Given as goal

abbrev pub invariant-loop-at : goal.invariant-loop-at
invariant-loop-at g l =
    (f : ℕ) × (length l.part - l.at ≤ f) × (l.at ≤ length l.part) × (length l.lines ≡ length l.initial.lines)
    × (listed_upto f l.part l.last l.seen l.at ≡ listed_upto (length l.part) l.part l.last l.initial.seen 0)

abbrev pub decreases-loop-at : goal.decreases-loop-at
decreases-loop-at g l = length l.part - l.at
