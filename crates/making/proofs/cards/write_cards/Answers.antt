-- `making::write_cards` meets its contract: before each turn what stands in the output, with the cards of the blocks ahead behind it, is all
-- cards. Assumes nothing.
use Rattle.std.proofs.Common.{rules}
use Prim.Native.Nat.{◌+◌, ◌*◌, ◌≤◌}
use mathlib.Core.Path.{◌≡◌, subst}
use mathlib.Core.List.{List, ◌∷◌}
use native.Mathlib.Omega.{arith}
use lib.ListN.{length}
use Rattle.rules.specs.Drum.{view}
use Rattle.rules.specs.Making.{Block, blocks_in}
use Rattle.making.proofs.Writing.{Written, none_written, block_fits, written_more, all_written}
use Rattle.making.proofs.cards.write_cards.Goals as goal
use Rattle.making.proofs.cards.write_cards.Goals.{In-Some}

-- the block at hand is the first that is ahead, and there is room for its card
at_hand : (c : In-Some)
    → Written (view c.args.drum.now c.args.marks.now) c.args.problem c.args.out.now c.loop-a.out c.loop-a.at c.loop-a.number
    (record { location = c.in-Some.a; cells = c.in-Some.n } ∷ c.next.new.self)
at_hand c =
    let v = view c.args.drum.now c.args.marks.now in
    subst (λ (bs : List Block). Written v c.args.problem c.args.out.now c.loop-a.out c.loop-a.at c.loop-a.number bs) c.in-Some.ensures.steps c.loop-a.invariant.2

fits : (c : In-Some)
    → (1 ≤ c.in-Some.a) × (c.in-Some.a + c.in-Some.n ≤ 1000) × (1 ≤ c.in-Some.n) × (c.in-Some.n ≤ 5) × (c.loop-a.number ≤ 9999) × (c.loop-a.at + (11 + 11 * c.in-Some.n) ≤ length c.loop-a.out)
fits c = block_fits (at_hand c) c.requires.sound.long c.requires.room_left

pub loop-a-init : goal.loop-a-init
loop-a-init c =
    let v = view c.args.drum.now c.args.marks.now in
    let same : blocks_in v ≡ c.into_iter-a-iterator.result = search rules in
    (tt, tt, subst (λ (bs : List Block). Written v c.args.problem c.args.out.now c.args.out.now 0 1 bs) same (none_written _ _ _))

pub write_card-requires-clause-block_fits : goal.write_card-requires-clause-block_fits
write_card-requires-clause-block_fits c =
    let f = fits (goal.at.write_card-requires-clause-block_fits c).In-Some in (f.0, f.1, f.2, f.3, f.4, c.requires.problem_fits, f.5)

pub overflow_add-at-in-loop-a : goal.overflow_add-at-in-loop-a
overflow_add-at-in-loop-a c = omega (arith, (fits (goal.at.overflow_add-at-in-loop-a c).In-Some).5)

pub overflow_mul-at : goal.overflow_mul-at
overflow_mul-at c = omega (arith, (fits (goal.at.overflow_mul-at c).In-Some).3)

pub overflow_add-at : goal.overflow_add-at
overflow_add-at c = omega (arith, (fits (goal.at.overflow_add-at c).In-Some).3)

pub overflow_add-number : goal.overflow_add-number
overflow_add-number c = omega (arith, (fits (goal.at.overflow_add-number c).In-Some).4)

pub loop-a-preserved : goal.loop-a-preserved
loop-a-preserved c = (tt, tt, written_more (at_hand (goal.at.loop-a-preserved c).In-Some) c.requires.sound.long c.requires.room_left c.write_card.ensures)

pub returns-clause-size : goal.returns-clause-size
returns-clause-size c = (all_written c.loop-a.invariant.2 c.in-None.ensures.steps.0).0

pub returns-clause-written : goal.returns-clause-written
returns-clause-written c = (all_written c.loop-a.invariant.2 c.in-None.ensures.steps.0).1
