-- `file::put_row` meets its contract. The loop's invariant: the numbers passed stand in the output. Assumes nothing.
use mathlib.Core.List.{List}
use mathlib.Core.Path.{◌≡◌, refl, sym, ap, ◌∙◌}
use Prim.Native.Nat.{ℕ, ◌+◌, ◌*◌}
use native.Mathlib.Omega.{arith}
use lib.ListN.{length, get_or, take}
use lib.Seq.{length-take-le, take_all}
use Rattle.file.specs.Files.{low_bytes, row_bytes}
use Rattle.file.proofs.Files.{length_low, length-row, row_more}
use Rattle.octets.specs.Put.{splice}
use Rattle.octets.proofs.Splices.{splice_more, splice_none}
use Rattle.file.proofs.parts.put_row.Goals as goal

pub loop-i-init : goal.loop-i-init
unfolding row_bytes
loop-i-init c = (omega arith, refl, splice_none _ _)

pub loop-i-preserved : goal.loop-i-preserved
loop-i-preserved c =
    let a = c.args in
    let l = c.loop-i in
    let i = l.i in
    let row = a.row.now in
    let x = get_or row i 0 in
    let t : length (take i row) ≡ i = length-take-le i row (omega arith) in (
      omega arith,
      c.put_number.auto.out ∙ l.invariant.1,
      c.put_number.ensures
          ∙ ap (splice (a.a + 8 * i) (low_bytes 8 x)) l.invariant.2
          ∙ splice_more a.a (a.a + 8 * i) (row_bytes (take i row)) (low_bytes 8 x) a.out.now (omega (arith, length-row (take i row)))
          (omega (arith, length_low 8 x, c.requires))
          ∙ ap (λ (s : List ℕ). splice a.a s a.out.now) (sym (row_more row i (omega arith))),
    )

pub shape_of-out : goal.shape_of-out
shape_of-out c = c.loop-i.invariant.1

pub returns : goal.returns
returns c = rw (take_all c.loop-i.i c.args.row.now (omega arith)) at c.loop-i.invariant.2
