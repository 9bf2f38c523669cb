-- `card::first_bad` meets its contract: at each place what is left to look at has the answer of the whole. Assumes nothing.
use mathlib.Core.Path.{◌∙◌}
use native.Mathlib.Omega.{arith}
use borrow.Author.Tests.{not-true, not-false}
use Rattle.card.proofs.Looks.{look_begin, look_more, look_bad, look_none}
use Rattle.card.proofs.reading.first_bad.Goals as goal

pub loop-o-init : goal.loop-o-init
loop-o-init c = look_begin _ _ _

pub returns-then-not-is_due : goal.returns-then-not-is_due
returns-then-not-is_due c =
    look_bad _ _ _ _ c.loop-o.invariant (omega arith) (cc (not-true c.is_due.result c.if-not-is_due.true-raw))

pub loop-o-preserved : goal.loop-o-preserved
loop-o-preserved c =
    look_more _ _ _ _ c.loop-o.invariant (omega arith) (cc (not-false c.is_due.result c.if-not-is_due.false-raw))

pub returns : goal.returns
returns c = c.max.ensures ∙ look_none _ _ _ _ c.loop-o.invariant (omega arith) (omega arith)
