-- `list::marked::write_cells`: there is no room, or all lines stand over the start of the output. Assumes nothing.
use mathlib.Core.Path.{sym}
use native.Mathlib.Omega.{arith}
use Rattle.rules.specs.Drum.{view}
use Rattle.card.proofs.Writes.{no_line}
use Rattle.list.specs.Marked.{marked_lines}
use Rattle.list.proofs.Endings.{all}
use Rattle.list.proofs.marked.write_cells.Goals as goal

pub returns-then-out-n : goal.returns-then-out-n
returns-then-out-n c =
    let a = c.args in
    no_line (marked_lines (view a.drum.now a.marks.now)) a.out.now (omega (arith, c.if-out-n.true, c.size_of_all-n.ensures))

pub put_all-requires : goal.put_all-requires
put_all-requires c = omega (arith, c.size_of_all-n.ensures)

pub returns : goal.returns
returns c =
    let a = c.args in
    all (marked_lines (view a.drum.now a.marks.now)) a.out.now _ c.size_of_all-n.result (sym c.size_of_all-n.ensures) c.if-out-n.false c.put_all.ensures
