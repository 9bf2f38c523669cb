-- `list::marked::size_of_all`: the loop's invariant is the length of the lines of the cells passed. Assumes nothing.
use Prim.Native.Nat.{ℕ, ◌+◌}
use mathlib.Core.Path.{◌≡◌, refl, ap, ◌∙◌}
use native.Mathlib.Omega.{arith}
use lib.ListN.{length}
use Rattle.rules.specs.Drum.{view}
use Rattle.rules.specs.Answers.{Cell}
use Rattle.list.specs.Marked.{line_of, lines_upto}
use Rattle.list.proofs.CellLines.{length_more, upto_short}
use Rattle.list.proofs.marked.size_of_all.Goals as goal
use Rattle.list.proofs.marked.size_of_all.Goals.{After-size_of-n}

-- the length with one cell more
more : (c : After-size_of-n)
    → c.loop-a.n + c.size_of-n.result
    ≡ length (lines_upto (view c.args.drum.now c.args.marks.now) (c.loop-a.a + 1))
more c =
    let v = view c.args.drum.now c.args.marks.now in
    let e = c.size_of-n.ensures ∙ ap (λ (x : Cell). length (line_of c.loop-a.a x)) c.cell.ensures in
    omega (arith, e, c.loop-a.invariant, length_more v c.loop-a.a)

pub loop-a-init : goal.loop-a-init
unfolding lines_upto
loop-a-init c = refl

pub overflow_add-n : goal.overflow_add-n
overflow_add-n c =
    omega (arith, more (goal.at.overflow_add-n c).After-size_of-n, upto_short (view c.args.drum.now c.args.marks.now) (c.loop-a.a + 1))

pub loop-a-preserved : goal.loop-a-preserved
loop-a-preserved c = more (goal.at.loop-a-preserved c).After-size_of-n

pub returns : goal.returns
returns c =
    let e : c.loop-a.a ≡ 1000 = omega arith in
    c.loop-a.invariant ∙ ap (λ (k : ℕ). length (lines_upto (view c.args.drum.now c.args.marks.now) k)) e
