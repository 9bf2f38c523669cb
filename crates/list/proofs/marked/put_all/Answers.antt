-- `list::marked::put_all`: the loop's invariant is that the lines of the cells passed stand in the output, and all else is as it was.
-- Assumes nothing.
use Prim.Native.Nat.{ℕ, ◌+◌, ◌≤◌}
use mathlib.Core.Path.{◌≡◌, refl, sym, ap, subst, ◌∙◌}
use mathlib.Core.List.{List}
use native.Mathlib.Omega.{arith}
use lib.ListN.{length}
use Rattle.rules.specs.Drum.{view, cell_at}
use Rattle.rules.specs.Answers.{Cell}
use Rattle.octets.specs.Put.{splice}
use Rattle.octets.proofs.Joins.{Put, put_nothing, put_part}
use Rattle.list.specs.Marked.{line_of, lines_upto}
use Rattle.list.proofs.CellLines.{upto_more, length_more, upto_short, upto_all}
use Rattle.list.proofs.marked.put_all.Goals as goal
use Rattle.list.proofs.marked.put_all.Goals.{Start}

abbrev cells : Start → List Cell
cells start = view start.args.drum.now start.args.marks.now

-- the line of the next cell has room
room : (start : Start) (a at : ℕ) (out : List ℕ) → a ≤ 999 → Put start.args.out.now 0 (lines_upto (cells start) a) at out
    → (at + length (line_of a (cell_at (cells start) a)) ≤ length start.args.out.now) × (at + length (line_of a (cell_at (cells start) a)) ≤ 44000)
room start a at out l h =
    let m = length_more (cells start) a in
    (omega (arith, start.requires, h.ends, m, upto_all (cells start) a (omega arith)), omega (arith, h.ends, m, upto_short (cells start) (a + 1)))

-- and stands behind those before it
next_line : {d l m : List ℕ} {at e : ℕ} (v : List Cell) (a : ℕ) → Put d 0 (lines_upto v a) at l → m ≡ splice at (line_of a (cell_at v a)) l
    → at + length (line_of a (cell_at v a)) ≡ e → e ≤ length d → Put d 0 (lines_upto v (a + 1)) e m
next_line {d = d} {m = m} {e = e} v a h f r k =
    subst (λ (l : List ℕ). Put d 0 l e m) (sym (upto_more v a)) (put_part (line_of a (cell_at v a)) (length (line_of a (cell_at v a))) h f refl r k)

pub loop-address-init : goal.loop-address-init
unfolding lines_upto
loop-address-init c = (refl, put_nothing c.args.out.now refl (omega arith))

pub put_marked-at-requires : goal.put_marked-at-requires
put_marked-at-requires c =
    omega (arith, c.loop-address.invariant.0, (room (goal.at.put_marked-at-requires c).Start c.loop-address.address c.loop-address.at c.loop-address.out (omega arith) c.loop-address.invariant.1).0)

pub overflow_add-at : goal.overflow_add-at
overflow_add-at c =
    omega (arith, c.put_marked-at.ensures.size, (room (goal.at.overflow_add-at c).Start c.loop-address.address c.loop-address.at c.loop-address.out (omega arith) c.loop-address.invariant.1).1)

pub loop-address-preserved : goal.loop-address-preserved
loop-address-preserved c =
    let r = (room (goal.at.loop-address-preserved c).Start c.loop-address.address c.loop-address.at c.loop-address.out (omega arith) c.loop-address.invariant.1).0 in (
      c.put_marked-at.auto.out ∙ c.loop-address.invariant.0,
      next_line (cells (goal.at.loop-address-preserved c).Start) c.loop-address.address c.loop-address.invariant.1 c.put_marked-at.ensures.written (omega (arith, c.put_marked-at.ensures.size))
          (omega (arith, r, c.put_marked-at.ensures.size)),
    )

pub returns : goal.returns
returns c =
    let e : c.loop-address.address ≡ 1000 = omega arith in
    c.loop-address.invariant.1.same ∙ ap (λ (k : ℕ). splice 0 (lines_upto (cells (goal.at.returns c).Start) k) c.args.out.now) e
