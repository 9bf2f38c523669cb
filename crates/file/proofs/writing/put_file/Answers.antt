-- `file::put_file` meets its contract: each of the three parts stands right behind the one before. Assumes nothing.
use mathlib.Core.Path.{refl, ◌∙◌}
use native.Mathlib.Omega.{arith}
use Rattle.file.specs.Files.{row_bytes}
use Rattle.file.proofs.Files.{length-row}
use Rattle.octets.proofs.Joins.{part_begin, put_part, put_more, put_over}
use Rattle.file.proofs.writing.put_file.Goals as goal

pub returns : goal.returns
returns c =
    let a = c.args in
    let h₁ = part_begin {p = row_bytes a.drum.now} {e = 8000} 8000 c.put_row.ensures
    (length-row a.drum.now ∙ omega (arith, c.requires)) refl (omega (arith, c.requires)) in
    let h₂ = put_more {e = 9000} a.marks.now 1000 h₁ c.put_run.ensures c.requires.marks_len refl (omega (arith, c.requires)) in
    let h₃ = put_part {e = 9072} (row_bytes a.numbers.now) 72 h₂ c.put_row-2.ensures
    (length-row a.numbers.now ∙ omega arith) refl (omega (arith, c.requires)) in
    put_over h₃
