-- `shows::cards::list_all`: what is kept has room. Assumes nothing.
use Rattle.std.proofs.Common.{◌≡◌, ◌≤◌, length}
use Rattle.shows.proofs.cards.list_all.Given as goal

abbrev pub invariant-loop : goal.invariant-loop
invariant-loop g l = (length l.room ≡ 65536) × (l.window.kept ≤ 65536)
