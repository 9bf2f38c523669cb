-- `list::cards::put_cells` meets its contract. The loop's invariant: the lines of the words passed stand in the output, and all else is
-- as it was. Assumes nothing.
use mathlib.Core.Path.{◌≡◌, refl, sym, ap, ◌∙◌}
use mathlib.Core.List.{◌++◌}
use Prim.Native.Nat.{ℕ, ◌+◌, ◌*◌}
use native.Mathlib.Numerals.{add-one}
use native.Mathlib.Omega.{arith}
use Rattle.list.specs.Listing.{cell_line, cell_lines}
use Rattle.octets.specs.Put.{splice}
use Rattle.octets.proofs.Splices.{splice_more, splice_none}
use Rattle.list.proofs.Lengths.{length_cell, length_cells}
use Rattle.list.proofs.cards.put_cells.Goals as goal

pub loop-i-init : goal.loop-i-init
unfolding cell_lines
loop-i-init c = (refl, splice_none 32 c.args.out.now)

pub overflow_mul-i : goal.overflow_mul-i
overflow_mul-i c = omega (arith, c.requires)

pub overflow_add-i : goal.overflow_add-i
overflow_add-i c = omega (arith, c.requires)

pub overflow_add-location : goal.overflow_add-location
overflow_add-location c = omega (arith, c.requires)

pub put_cell-requires : goal.put_cell-requires
put_cell-requires c = omega (arith, c.requires.room_left, c.loop-i.invariant.0)

pub loop-i-preserved : goal.loop-i-preserved
unfolding cell_lines
loop-i-preserved c =
    let a = c.args in
    let v = c.loop-i.invariant in
    let i = c.loop-i.i in
    let d = a.rest.now in
    let w = c.word_of-w.result in
    let lines = cell_lines d a.location i in
    let line = cell_line (a.location + i) in
    let n = length_cells d a.location i in (
      c.put_cell.auto.out ∙ v.0,
      c.put_cell.ensures
          ∙ ap (splice (32 + 44 * i) (line w)) v.1
          ∙ splice_more 32 (32 + 44 * i) lines (line w) a.out.now (omega (arith, n)) (omega (arith, length_cell (a.location + i) w, c.requires.room_left))
          ∙ ap (λ (x : ℕ). splice 32 (lines ++ line x) a.out.now) c.word_of-w.ensures
          ∙ ap (λ (k : ℕ). splice 32 (cell_lines d a.location k) a.out.now) (sym (add-one i)),
    )

pub shape_of-out : goal.shape_of-out
shape_of-out c = c.loop-i.invariant.0

pub returns : goal.returns
returns c =
    let a = c.args in
    let e : c.loop-i.i ≡ a.n = omega arith in
    c.loop-i.invariant.1 ∙ ap (λ (k : ℕ). splice 32 (cell_lines a.rest.now a.location k) a.out.now) e
