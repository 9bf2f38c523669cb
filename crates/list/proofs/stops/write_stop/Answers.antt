-- `list::stops::write_stop` meets its contract: there is no room, or all is written. Assumes nothing.
use native.Mathlib.Omega.{arith}
use Rattle.list.specs.Listing.{stop_line}
use Rattle.card.proofs.Writes.{no_line}
use Rattle.list.proofs.Endings.{all}
use Rattle.list.proofs.Lengths.{length_stop}
use Rattle.list.proofs.stops.write_stop.Goals as goal

pub returns-then-out-lt54 : goal.returns-then-out-lt54
returns-then-out-lt54 c =
    let a = c.args in
    no_line (stop_line a.rest.now) a.out.now (omega (arith, c.if-out-lt54.true, length_stop a.rest.now c.requires))

pub returns : goal.returns
returns c =
    let a = c.args in
    all (stop_line a.rest.now) a.out.now _ 54 (length_stop a.rest.now c.requires) c.if-out-lt54.false c.put_stop.ensures
