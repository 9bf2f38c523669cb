-- `making::deck_size` meets its contract: before each turn the bytes counted, with those of the blocks ahead, are all. Assumes nothing.
use Prim.Native.Nat.{◌+◌, ◌*◌}
use mathlib.Core.Path.{◌≡◌}
use Rattle.rules.specs.Drum.{view}
use Rattle.rules.specs.Making.{blocks_in}
use Rattle.rules.proofs.MadeSizes.{elevens}
use Rattle.making.proofs.blocks.deck_size.Given as goal

abbrev pub invariant-loop-n : goal.invariant-loop-n
invariant-loop-n l =
    (goal.iterator-loop-n).can_next l.n-iterator × (goal.iterator-loop-n).is_finite l.n-iterator
    × (l.size + 11 * elevens l.n-iterator ≡ 7 + 11 * elevens (blocks_in (view l.fn.drum l.fn.marks)))
