-- `l1::sessions::play_on`: the closing of a run can always be written. Assumes nothing.
use Rattle.l1.proofs.Rooms.{went_closes}
use Rattle.l1.proofs.sessions.play_on.Goals as goal

pub tell-requires : goal.tell-requires
tell-requires g c = went_closes _ _ _ _ _ c.in-Some.ensures
