-- `l1::machines::run_on`: the closing of a run can always be written. Assumes nothing.
use Rattle.l1.proofs.Rooms.{went_closes}
use Rattle.l1.proofs.machines.run_on.Goals as goal

pub finish-requires : goal.finish-requires
finish-requires g c = went_closes _ _ _ _ _ c.in-Some-run_as.ensures
