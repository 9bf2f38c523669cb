-- `l1::listings::list_cells` sends the lines of the marked cells, all of them and nothing else. Assumes nothing.
use Rattle.rules.specs.Drum.{view}
use Rattle.says.proofs.Answers.{line_within}
use Rattle.says.proofs.Counted.{counts}
use Rattle.l1.proofs.Sendings.{cells_sent}
use Rattle.l1.proofs.listings.list_cells.Goals as goal

pub slice_bounds-lines-end : goal.slice_bounds-lines-end
slice_bounds-lines-end g c = line_within _ _ _ _ c.write_cells-n.ensures

pub slice_bounds-send_cells-end : goal.slice_bounds-send_cells-end
slice_bounds-send_cells-end g c = (counts _ _ (line_within _ _ _ _ c.write_cells-n.ensures)).1

pub send_cells-requires : goal.send_cells-requires
send_cells-requires g c =
    cells_sent (view c.args.drum.now c.args.marks.now) c.write_cells-n.ensures c.room-lines.ensures.size
