-- `faults::layout::stop_field` meets its contract: its tests are those of the definition. Assumes nothing.
use borrow.Author.Tests.{lt-ltb, le-ltb}
use Rattle.faults.proofs.layout.stop_field.Goals as goal

pub returns-then-o-lt3 : goal.returns-then-o-lt3
returns-then-o-lt3 c = simp (lt-ltb _ 3 c.if-o-lt3.true)

pub returns-then-o-lt7 : goal.returns-then-o-lt7
returns-then-o-lt7 c = simp (le-ltb _ 3 c.if-o-lt3.false, lt-ltb _ 7 c.if-o-lt7.true)

pub returns-then-o-lt13 : goal.returns-then-o-lt13
returns-then-o-lt13 c = simp (le-ltb _ 3 c.if-o-lt3.false, le-ltb _ 7 c.if-o-lt7.false, lt-ltb _ 13 c.if-o-lt13.true)

pub returns : goal.returns
returns c = simp (le-ltb _ 3 c.if-o-lt3.false, le-ltb _ 7 c.if-o-lt7.false, le-ltb _ 13 c.if-o-lt13.false)
