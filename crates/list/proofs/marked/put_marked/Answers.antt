-- `list::marked::put_marked`: nothing where the line is empty, and else the line of the cell's word. Assumes nothing.
use Prim.Native.Nat.{ℕ}
use mathlib.Core.Path.{◌≡◌, sym, ap, ◌∙◌}
use mathlib.Core.List.{List}
use native.Mathlib.Omega.{arith}
use lib.ListN.{length}
use Rattle.rules.specs.Drum.{view, cell_at, shown}
use Rattle.rules.specs.Answers.{Cell}
use Rattle.octets.specs.Put.{splice}
use Rattle.octets.proofs.Splices.{splice_none}
use Rattle.list.specs.Listing.{cell_line}
use Rattle.list.specs.Marked.{line_of}
use Rattle.list.proofs.Lengths.{length_cell}
use Rattle.list.proofs.CellLines.{line_none, line_some}
use Rattle.list.proofs.marked.put_marked.Goals as goal
use Rattle.list.proofs.marked.put_marked.Goals.{After-size_of-n}

-- the line of a cell, and how long it is where there is one
module _ (drum marks : List ℕ) (address : ℕ) where
  abbrev found : Cell
  found = cell_at (view drum marks) address

  whole : (length (line_of address found) ≡ 0 → ⊥) → line_of address found ≡ cell_line address (shown found)
  whole n = line_some address found n

  long : (length (line_of address found) ≡ 0 → ⊥) → length (line_of address found) ≡ 44
  long n = ap length (whole n) ∙ length_cell address (shown found)

-- how long it was found to be
size : (c : After-size_of-n) → c.size_of-n.result ≡ length (line_of c.args.address (cell_at (view c.args.drum.now c.args.marks.now) c.args.address))
size c = c.size_of-n.ensures ∙ ap (λ (x : Cell). length (line_of c.args.address x)) c.cell.ensures

pub returns-then-n-eq0 : goal.returns-then-n-eq0
returns-then-n-eq0 c =
    let a = c.args in
    let l = line_of a.address (cell_at (view a.drum.now a.marks.now) a.address) in
    let e : length l ≡ 0 = sym (size (goal.at.returns-then-n-eq0 c).After-size_of-n) ∙ c.if-n-eq0.true in
    record { size = sym e; written = splice_none a.at a.out.now ∙ ap (λ (l : List ℕ). splice a.at l a.out.now) (sym (line_none l e)) }

pub put_cell-requires : goal.put_cell-requires
put_cell-requires c =
    let a = c.args in
    omega (
      arith,
      c.requires,
      long a.drum.now a.marks.now a.address (λ z. c.if-n-eq0.false (size (goal.at.put_cell-requires c).After-size_of-n ∙ z)),
    )

pub returns : goal.returns
returns c =
    let a = c.args in
    let s = size (goal.at.returns c).After-size_of-n in
    let w = whole a.drum.now a.marks.now a.address (λ z. c.if-n-eq0.false (s ∙ z)) in
    record {
      size = s;
      written =
          c.put_cell.ensures ∙ ap (λ (x : ℕ). splice a.at (cell_line a.address x) a.out.now) c.word.ensures
          ∙ ap (λ (l : List ℕ). splice a.at l a.out.now) (sym w);
    }
