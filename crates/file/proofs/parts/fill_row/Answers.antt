-- `file::fill_row` meets its contract. The loop's invariant: the numbers passed stand at the row's start. Assumes nothing.
use mathlib.Core.List.{List}
use mathlib.Core.Path.{◌≡◌, refl, sym, ap, ◌∙◌}
use Prim.Native.Nat.{ℕ, ◌*◌}
use native.Mathlib.Omega.{arith}
use lib.ListN.{length, take, drop, length-set}
use lib.Seq.{paste-zero, drop-drop}
use Rattle.file.specs.Files.{number_of}
use Rattle.file.proofs.Files.{length_in, in_at}
use Rattle.octets.proofs.Copies.{fill_more, fill_end}
use Rattle.file.proofs.parts.fill_row.Goals as goal
use Rattle.file.proofs.parts.fill_row.Invariants.{there}

pub loop-i-init : goal.loop-i-init
loop-i-init c =
    let a = c.args in
    (omega arith, refl, paste-zero a.row.now 0 (there a.row.now a.bytes.now a.a))

pub loop-i-smaller : goal.loop-i-smaller
loop-i-smaller c = simp length-set (omega arith)

pub loop-i-preserved : goal.loop-i-preserved
loop-i-preserved c =
    let a = c.args in
    let l = c.loop-i in (
      simp length-set (omega arith),
      simp length-set l.invariant.1,
      fill_more _ _ _ (length_in _ _) l.invariant.2 c.number_at.result
          (c.number_at.ensures
          ∙ ap (λ (t : List ℕ). number_of (take 8 t)) (sym (drop-drop (8 * l.i) a.a a.bytes.now))
          ∙ sym (in_at (length a.row.now) (drop a.a a.bytes.now) l.i (omega arith)))
          (omega arith),
    )

pub shape_of-row : goal.shape_of-row
shape_of-row c = c.loop-i.invariant.1

pub returns : goal.returns
returns c =
    let e : c.loop-i.i ≡ length c.args.row.now = omega arith in
    fill_end _ _ _ (length_in _ _) c.loop-i.invariant.2 e
