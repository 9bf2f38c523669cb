-- `machine::tracing::retrace`: each order as the rules have it. Assumes nothing.
use Rattle.machine.proofs.Tracings.{turned_on, erased_on}
use Rattle.machine.proofs.tracing.retrace.Goals as goal

pub returns-in-StartTr : goal.returns-in-StartTr
returns-in-StartTr c =
    λ drum₀ out₀ out m h.
    rw c.in-StartTr.is (turned_on h 1 c.turn.ensures)

pub returns-in-StopTr : goal.returns-in-StopTr
returns-in-StopTr c =
    λ drum₀ out₀ out m h.
    rw c.in-StopTr.is (turned_on h 0 c.turn-in-StopTr.ensures)

pub returns-in-StTrEras : goal.returns-in-StTrEras
returns-in-StTrEras c =
    λ drum₀ out₀ out m h.
    rw c.in-StTrEras.is (erased_on h c.requires c.keep.ensures c.turn-in-StTrEras.ensures)
