-- `says::write_making` meets its contract: a deck stands in the output already, and the line of a refused call is written. Assumes nothing.
use Rattle.std.proofs.Common.{ap}
use Rattle.stops.specs.declared.Told.{Told}
use Rattle.says.proofs.Answers.{closed_counts, refused_told, made_told}
use Rattle.says.proofs.closing.write_making.Goals as goal

pub returns-in-Ok : goal.returns-in-Ok
returns-in-Ok c =
    let w = made_told c.args.making c.in-Ok.n _ c.args.out.now c.in-Ok.is c.min.ensures in
    record { closed = w; within = closed_counts _ _ _ _ _ w }

pub returns-in-Err : goal.returns-in-Err
returns-in-Err c =
    let w = refused_told c.args.making _ _ _ c.in-Err.is (ap (λ (t : Told). t.number) c.from.ensures) c.write_refused.ensures.closed in
    record { closed = w; within = closed_counts _ _ _ _ _ w }
