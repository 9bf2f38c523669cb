-- `machine::reckoning::store_result`: one word in two cells. Assumes nothing.
use Rattle.machine.proofs.Stores.{result_on}
use Rattle.machine.proofs.reckoning.store_result.Goals as goal

pub returns : goal.returns
returns c =
    λ drum₀ out₀ out m h.
    result_on h c.args.c c.args.w c.requires.1 c.requires.2 c.keep.ensures c.keep-2.ensures c.go_on.ensures
