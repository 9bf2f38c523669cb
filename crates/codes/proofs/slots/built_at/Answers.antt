-- `codes::slots::built_at` meets its contract: its test is that of the definition. Assumes nothing.
use borrow.Author.Tests.{lt-ltb, le-ltb}
use Rattle.codes.proofs.slots.built_at.Goals as goal

pub returns-then-slot-lt1010 : goal.returns-then-slot-lt1010
returns-then-slot-lt1010 c = simp (lt-ltb _ _ c.if-slot-lt1010.true) c.built_of.ensures

pub returns : goal.returns
returns c = simp (le-ltb _ _ c.if-slot-lt1010.false)
