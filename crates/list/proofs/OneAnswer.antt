-- Each public function has one answer: two that its contract allows for the same arguments are equal, and so are the outputs they leave.
-- `Post` is the contract of a function, as it stands at the function. Assumes nothing.
use mathlib.Core.Path.{◌≡◌, sym, ◌∙◌}
use Rattle.rules.proofs.Agreed.{Agrees, OneResult}
use Rattle.faults.proofs.OneAnswer.{same_line}
use Rattle.list.proofs.cells.write_cell.Kinds as write-cell-kinds
use Rattle.list.proofs.cells.write_cell.Reads as write_cell
use Rattle.list.proofs.ends.none_seen.Kinds as none-seen-kinds
use Rattle.list.proofs.ends.none_seen.Reads as none_seen
use Rattle.list.proofs.ends.with_kind.Kinds as with-kind-kinds
use Rattle.list.proofs.ends.with_kind.Reads as with-kind
use Rattle.list.proofs.ends.is_second.Kinds as is-second-kinds
use Rattle.list.proofs.ends.is_second.Reads as is_second_lem
use Rattle.list.proofs.ends.last_line.Kinds as last-line-kinds
use Rattle.list.proofs.ends.last_line.Reads as last_Line
use Rattle.list.proofs.listing.write_lines.Kinds as write-lines-kinds
use Rattle.list.proofs.listing.write_lines.Reads as write-lines
use Rattle.list.proofs.marked.write_cells.Kinds as write-cells-kinds
use Rattle.list.proofs.marked.write_cells.Reads as write-cells

pub one_cell : Agrees 1 write-cell-kinds.ps write-cell-kinds.r write_cell.Post (λ κs x y s t. (x ≡ y) × (s.0.now ≡ t.0.now))
one_cell κs a x y s t p q = (p.answer ∙ sym q.answer, p.bytes ∙ sym q.bytes)

pub one_cells : Agrees 3 write-cells-kinds.ps write-cells-kinds.r write-cells.Post (λ κs x y s t. (x ≡ y) × (s.0.now ≡ t.0.now))
one_cells κs a x y s t p q = (p.answer ∙ sym q.answer, p.bytes ∙ sym q.bytes)

pub one_listing : Agrees 2 write-lines-kinds.ps write-lines-kinds.r write-lines.Post
    (λ κs x y s t. (x.written ≡ y.written) × (x.taken ≡ y.taken) × (s.0.now ≡ t.0.now))
one_listing κs a x y s t p q =
    (p.shown.answer ∙ sym q.shown.answer, p.taken ∙ sym q.taken, p.shown.bytes ∙ sym q.shown.bytes)

pub one_none_seen : OneResult 0 none-seen-kinds.ps none-seen-kinds.r none_seen.Post
one_none_seen κs a x y s t p q = p ∙ sym q

pub one_with_kind : OneResult 0 with-kind-kinds.ps with-kind-kinds.r with-kind.Post
one_with_kind κs a x y s t p q = p ∙ sym q

pub one_second : OneResult 1 is-second-kinds.ps is-second-kinds.r is_second_lem.Post
one_second κs a x y s t p q = p ∙ sym q

pub one_last_line : OneResult 1 last-line-kinds.ps last-line-kinds.r last_Line.Post
one_last_line κs a x y s t p q = same_line p q
