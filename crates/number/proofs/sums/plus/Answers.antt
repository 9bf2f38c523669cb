-- `number::sums::plus` meets its contract: a sum is the same in either order, so the number of the larger exponent may stand first.
-- Assumes nothing.
use mathlib.Core.Path.{ap, ◌∙◌}
use Rattle.rules.specs.Rounding.{single, sum_of}
use Rattle.rules.specs.Arithmetic.{word_of}
use Rattle.rules.proofs.Sums.{sum_swaps}
use Rattle.number.proofs.sums.plus.Goals as goal

pub returns-then-x-y : goal.returns-then-x-y
unfolding sum_of
returns-then-x-y c = c.aligned.ensures ∙ ap word_of (sum_swaps single _ _ _ _)
