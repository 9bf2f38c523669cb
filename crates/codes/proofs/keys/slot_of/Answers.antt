-- `codes::keys::slot_of` meets its contract: its tests are those of the definition. Assumes nothing.
use borrow.Author.Tests.{lt-ltb, le-ltb}
use Rattle.codes.specs.Keys.{slot_of}
use Rattle.codes.proofs.keys.slot_of.Goals as goal

pub returns-then-key-lt1000 : goal.returns-then-key-lt1000
unfolding slot_of
returns-then-key-lt1000 c = simp (lt-ltb _ _ c.if-key-lt1000.true)

pub returns-then-key-gt9000 : goal.returns-then-key-gt9000
unfolding slot_of
returns-then-key-gt9000 c = simp (le-ltb _ _ c.if-key-lt1000.false, lt-ltb _ _ c.if-key-gt9000.true)

pub returns : goal.returns
unfolding slot_of
returns c = simp (le-ltb _ _ c.if-key-lt1000.false, le-ltb _ _ c.if-key-gt9000.false)
