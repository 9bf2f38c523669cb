-- `making::deck_size` meets its contract: before each turn the bytes counted, with those of the blocks ahead, are all. Assumes nothing.
use Prim.Native.Nat.{◌+◌, ◌*◌, ◌≤◌}
use mathlib.Core.Path.{◌≡◌, ap}
use native.Mathlib.Omega.{arith}
use Rattle.rules.specs.Drum.{view}
use Rattle.rules.specs.Making.{blocks_in}
use Rattle.rules.proofs.MadeSizes.{elevens, deck_bytes, made_short}
use Rattle.making.proofs.blocks.deck_size.Goals as goal
use Rattle.making.proofs.blocks.deck_size.Goals.{In-Some}

-- with one block more, and they are no more than a deck can have
more : (c : In-Some) → c.loop-n.size + 11 * (1 + c.in-Some.n + elevens c.next.new.self) ≡ 7 + 11 * elevens (blocks_in (view c.args.drum.now c.args.marks.now))
unfolding elevens
more c = omega (arith, c.loop-n.invariant.2, ap elevens c.in-Some.ensures.steps)

most : (c : In-Some) → c.loop-n.size + (11 + 11 * c.in-Some.n) ≤ 13196
most c =
    let v = view c.args.drum.now c.args.marks.now in
    omega (arith, more c, deck_bytes v 0 0, made_short v 0 0 c.requires)

pub overflow_mul-size : goal.overflow_mul-size
overflow_mul-size c = omega (arith, most (goal.at.overflow_mul-size c).In-Some)

pub overflow_add-size : goal.overflow_add-size
overflow_add-size c = omega (arith, most (goal.at.overflow_add-size c).In-Some)

pub overflow_add-size-in-loop-n : goal.overflow_add-size-in-loop-n
overflow_add-size-in-loop-n c = omega (arith, most (goal.at.overflow_add-size-in-loop-n c).In-Some)

pub loop-n-preserved : goal.loop-n-preserved
loop-n-preserved c = (tt, tt, omega (arith, more (goal.at.loop-n-preserved c).In-Some))

pub returns : goal.returns
unfolding elevens
returns c order problem =
    omega (arith, c.loop-n.invariant.2, ap elevens c.in-None.ensures.steps.0, deck_bytes (view c.args.drum.now c.args.marks.now) order problem)
