-- `machine::moving::move_block`: the block, and then on. Assumes nothing.
use Rattle.machine.proofs.Moves.{moved_on}
use Rattle.machine.proofs.moving.move_block.Goals as goal

pub returns : goal.returns
returns c =
    λ drum₀ out₀ out m h.
    let a = c.args in
    moved_on h a.a a.b a.c c.move_words.ensures c.go_on.ensures
