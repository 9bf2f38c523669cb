-- `list::traces::write_trace` meets its contract: there is no room, or all is written. Assumes nothing.
use native.Mathlib.Omega.{arith}
use Rattle.list.specs.Listing.{trace_lines}
use Rattle.card.proofs.Writes.{no_line}
use Rattle.list.proofs.Endings.{all}
use Rattle.list.proofs.Lengths.{length_trace}
use Rattle.list.proofs.traces.write_trace.Goals as goal

pub returns-then-out-lt232 : goal.returns-then-out-lt232
returns-then-out-lt232 c =
    let a = c.args in
    no_line (trace_lines a.rest.now) a.out.now (omega (arith, c.if-out-lt232.true, length_trace a.rest.now c.requires))

pub returns : goal.returns
returns c =
    let a = c.args in
    all (trace_lines a.rest.now) a.out.now _ 232 (length_trace a.rest.now c.requires) c.if-out-lt232.false c.put_trace.ensures
