-- `shows::cards::list_some` is safe, and keeps no more than a room. Assumes nothing.
use Rattle.std.proofs.Common.{arith}
use Rattle.shows.proofs.cards.list_some.Goals as goal

-- what is kept has room, since it is a part of the room
pub returns : goal.returns
returns g c = omega (arith, c.requires)
