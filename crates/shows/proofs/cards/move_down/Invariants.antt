-- `shows::cards::move_down` meets its contract. The loop's invariant: the bytes passed stand at the start, and all behind them is as it
-- was, so that the byte to move is still the old one. Assumes nothing.
use mathlib.Core.Path.{◌≡◌}
use lib.ListN.{drop}
use lib.Seq.{paste}
use Rattle.shows.proofs.cards.move_down.Given as goal

abbrev pub invariant-loop-i : goal.invariant-loop-i
invariant-loop-i l = l.room ≡ paste l.initial.room 0 (drop l.from l.initial.room) l.i
