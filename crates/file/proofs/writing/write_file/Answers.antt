-- `file::write_file` meets its contract: it is refused for a length or for the room, or all of it is written. Assumes nothing.
use native.Mathlib.Omega.{arith}
use Rattle.file.specs.Files.{file_of}
use Rattle.file.proofs.Files.{length_file}
use Rattle.card.proofs.Writes.{out_of_range, no_room, whole_card_lem}
use Rattle.file.proofs.Wholes.{whole_is, no_drum, no_marks_lem}
use Rattle.file.proofs.writing.write_file.Goals as goal

pub returns-then-drum-ne1000 : goal.returns-then-drum-ne1000
returns-then-drum-ne1000 c =
    let a = c.args in
    out_of_range _ _ _ (no_drum a.drum.now a.marks.now c.if-drum-ne1000.true)

pub returns-then-marks-ne1000 : goal.returns-then-marks-ne1000
returns-then-marks-ne1000 c =
    let a = c.args in
    out_of_range _ _ _ (no_marks_lem a.drum.now a.marks.now c.if-marks-ne1000.true)

pub returns-then-out-lt9072 : goal.returns-then-out-lt9072
returns-then-out-lt9072 c =
    let a = c.args in
    no_room _ _ _ (omega (arith, length_file a.drum.now a.marks.now a.state))

pub returns : goal.returns
unfolding file_of
returns c =
    let a = c.args in
    whole_card_lem _ _ _ _ (whole_is a.drum.now a.marks.now c.if-drum-ne1000.false c.if-marks-ne1000.false)
    (omega (arith, c.if-drum-ne1000.false, c.if-marks-ne1000.false, c.if-out-lt9072.false, length_file a.drum.now a.marks.now a.state))
    (rw c.from.ensures at c.put_file.ensures)
