-- `next` of `making::Blocks` meets its contract: before each turn the blocks ahead are those that were ahead at the start. Assumes nothing.
use Rattle.std.proofs.Common.{◌-◌, ◌≡◌}
use Rattle.making.specs.Made.{Long, blocks_left}
use Rattle.making.proofs.blocks.BlocksIterator.next.Given as goal

abbrev pub invariant-loop-self : goal.invariant-loop-self
invariant-loop-self l =
    Long l.self-inside.drum.now l.self-inside.marks.now
    × (l.fn.self ≡ blocks_left l.self-inside.drum.now l.self-inside.marks.now l.self-inside.at)

abbrev pub decreases-loop-self : goal.decreases-loop-self
decreases-loop-self l = 1000 - l.self-inside.at
