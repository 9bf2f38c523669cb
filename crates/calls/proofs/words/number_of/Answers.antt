-- `calls::number_of` meets its contract: what is left of the digits, behind the number of those passed, is the whole number. Assumes nothing.
use mathlib.Core.Path.{sym, ◌∙◌}
use Rattle.calls.proofs.Letters.{left_more}
use Rattle.calls.proofs.words.number_of.Goals as goal

pub loop-b-preserved : goal.loop-b-preserved
loop-b-preserved c =
    left_more c.args.text.now _ _ c.loop-b.invariant c.loop-b-test.true _ (sym c.is_digit.ensures ∙ c.if-not-is_digit.false) c.with_digit-x.ensures
