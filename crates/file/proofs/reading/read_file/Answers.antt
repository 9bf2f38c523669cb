-- `file::read_file` meets its contract: it ends at a wrong length, or all is read. Assumes nothing.
use mathlib.Core.Path.{◌≡◌, sym, ap, ◌∙◌}
use Prim.Native.Nat.{ℕ}
use native.Mathlib.Omega.{arith}
use lib.ListN.{length, take, drop}
use Rattle.octets.proofs.Joins.{put_all, length_field}
use Rattle.file.specs.Files.{row_in, drum_in, marks_in}
use Rattle.file.proofs.Wholes.{whole_is, no_drum, no_marks_lem, file_is, not_whole, no_bytes, not_read, was_read}
use Rattle.file.proofs.reading.read_file.Goals as goal

pub returns-then-drum-ne1000 : goal.returns-then-drum-ne1000
returns-then-drum-ne1000 c =
    let a = c.args in
    let no = no_drum a.drum.now a.marks.now c.if-drum-ne1000.true in
    not_read _ _ _ (not_whole a.drum.now a.marks.now a.bytes.now no)

pub returns-then-marks-ne1000 : goal.returns-then-marks-ne1000
returns-then-marks-ne1000 c =
    let a = c.args in
    let no = no_marks_lem a.drum.now a.marks.now c.if-marks-ne1000.true in
    not_read _ _ _ (not_whole a.drum.now a.marks.now a.bytes.now no)

pub returns-then-bytes-ne9072 : goal.returns-then-bytes-ne9072
returns-then-bytes-ne9072 c =
    let a = c.args in
    not_read _ _ _ (no_bytes a.drum.now a.marks.now a.bytes.now c.if-bytes-ne9072.true)

pub returns : goal.returns
unfolding drum_in marks_in
returns c =
    let a = c.args in
    let bytes = a.bytes.now in
    let size : length (take 1000 (drop 8000 bytes)) ≡ 1000 = length_field bytes 8000 1000 (omega (arith, c.if-bytes-ne9072.false)) in
    was_read a.drum.now a.marks.now bytes
    (file_is a.drum.now a.marks.now bytes (whole_is a.drum.now a.marks.now c.if-drum-ne1000.false c.if-marks-ne1000.false) c.if-bytes-ne9072.false)
    c.state_at.ensures
    (c.fill_row.ensures ∙ ap (λ (n : ℕ). row_in n bytes) c.if-drum-ne1000.false)
    (c.copy.ensures ∙ put_all (take 1000 (drop 8000 bytes)) a.marks.now (size ∙ sym c.if-marks-ne1000.false))
