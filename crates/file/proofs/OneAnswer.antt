-- Each public function has one answer: two that its contract allows for the same arguments are equal, and so is all that they leave in
-- what was lent. `Post` is the contract of a function, as it stands at the function. Assumes nothing.
use mathlib.Core.Path.{◌≡◌, sym, ◌∙◌}
use Rattle.rules.proofs.Agreed.{Agrees}
use Rattle.file.proofs.reading.read_file.Kinds as read-file-kinds
use Rattle.file.proofs.reading.read_file.Reads as read-file
use Rattle.file.proofs.texts.read_cells.Kinds as read-cells-kinds
use Rattle.file.proofs.texts.read_cells.Reads as read-cells
use Rattle.file.proofs.writing.write_file.Kinds as write-file-kinds
use Rattle.file.proofs.writing.write_file.Reads as write-file

pub one_written : Agrees 3 write-file-kinds.ps write-file-kinds.r write-file.Post (λ κs x y s t. (x ≡ y) × (s.0.now ≡ t.0.now))
one_written κs a x y s t p q = (p.answer ∙ sym q.answer, p.bytes ∙ sym q.bytes)

pub one_found : Agrees 3 read-file-kinds.ps read-file-kinds.r read-file.Post
    (λ κs x y s t. (x ≡ y) × (s.0.now ≡ t.0.now) × (s.1.0.now ≡ t.1.0.now))
one_found κs a x y s t p q = (
  p.found_is ∙ sym q.found_is,
  p.drum_is ∙ sym q.drum_is,
  p.marks_are ∙ sym q.marks_are,
)

pub one_filled : Agrees 2 read-cells-kinds.ps read-cells-kinds.r read-cells.Post (λ κs x y s t. (x ≡ y) × (s.0.now ≡ t.0.now))
one_filled κs a x y s t p q = (p.answer ∙ sym q.answer, p.drum_is ∙ sym q.drum_is)
