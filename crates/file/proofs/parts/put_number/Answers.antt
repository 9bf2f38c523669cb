-- `file::put_number` meets its contract. The loop's invariant: the bytes passed stand in the output, and what is left of the number is
-- above them. Assumes nothing.
use mathlib.Core.Path.{◌≡◌, refl, sym, ap, ◌∙◌}
use Prim.Native.Nat.{ℕ, ◌%◌, ◌/◌}
use native.Mathlib.Omega.{arith}
use lib.ListN.{length, length-set}
use lib.Seq.{paste-zero}
use Rattle.file.specs.Files.{low_bytes}
use Rattle.file.proofs.Files.{length_low, low_at, shifted_next}
use Rattle.octets.proofs.Copies.{copy_more, copy_end}
use Rattle.file.proofs.parts.put_number.Goals as goal

pub loop-i-init : goal.loop-i-init
loop-i-init c =
    let a = c.args in
    (omega arith, refl, paste-zero a.out.now a.a (low_bytes 8 a.x), refl)

pub loop-i-preserved : goal.loop-i-preserved
loop-i-preserved c =
    let a = c.args in
    let l = c.loop-i in
    let i = l.i in (
      omega arith,
      simp length-set l.invariant.1,
      copy_more a.out.now (low_bytes 8 a.x) a.a i l.invariant.2 (l.left % 256)
          (ap (λ (y : ℕ). y % 256) l.invariant.3 ∙ sym (low_at 8 a.x i (omega arith)))
          (omega arith) (omega (arith, length_low 8 a.x)),
      ap (λ (y : ℕ). y / 256) l.invariant.3 ∙ shifted_next i a.x,
    )

pub shape_of-out : goal.shape_of-out
shape_of-out c = c.loop-i.invariant.1

pub returns : goal.returns
returns c =
    let low = low_bytes 8 c.args.x in
    let e : c.loop-i.i ≡ length low = omega (arith, length_low 8 c.args.x) in
    copy_end _ low _ _ c.loop-i.invariant.2 e
