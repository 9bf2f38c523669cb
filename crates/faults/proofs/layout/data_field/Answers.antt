-- `faults::layout::data_field` meets its contract: its tests are those of the definition. Assumes nothing.
use borrow.Author.Tests.{lt-ltb, le-ltb}
use Rattle.faults.proofs.layout.data_field.Goals as goal

pub returns-then-o-lt5 : goal.returns-then-o-lt5
returns-then-o-lt5 c = simp (lt-ltb _ 5 c.if-o-lt5.true)

pub returns-then-o-lt8 : goal.returns-then-o-lt8
returns-then-o-lt8 c = simp (le-ltb _ 5 c.if-o-lt5.false, lt-ltb _ 8 c.if-o-lt8.true)

pub returns-then-o-n : goal.returns-then-o-n
returns-then-o-n c = simp (le-ltb _ 5 c.if-o-lt5.false, le-ltb _ 8 c.if-o-lt8.false, lt-ltb _ _ c.if-o-n.true)

pub returns : goal.returns
returns c = simp (le-ltb _ 5 c.if-o-lt5.false, le-ltb _ 8 c.if-o-lt8.false, le-ltb _ _ c.if-o-n.false)
