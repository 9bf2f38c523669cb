-- `octets::sign_of` meets its contract: its test is that of the definition. Assumes nothing.
use borrow.Author.Tests.{lt-ltb, le-ltb}
use Rattle.octets.proofs.fields.sign_of.Goals as goal

pub returns-then-w-lt10000000000 : goal.returns-then-w-lt10000000000
returns-then-w-lt10000000000 c = simp (lt-ltb _ 10000000000 c.if-w-lt10000000000.true)

pub returns-else-w-lt10000000000 : goal.returns-else-w-lt10000000000
returns-else-w-lt10000000000 c = simp (le-ltb _ 10000000000 c.if-w-lt10000000000.false)
