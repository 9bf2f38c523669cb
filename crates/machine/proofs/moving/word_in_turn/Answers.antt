-- `machine::moving::word_in_turn`: from the first on, or from the last on. Assumes nothing.
use borrow.Author.Tests.{le-leb, lt-leb}
use borrow.Author.Rules.{rules}
use Rattle.machine.proofs.moving.word_in_turn.Goals as goal

pub returns-then-c-b : goal.returns-then-c-b
returns-then-c-b c = (rw (le-leb _ _ c.if-c-b.true), c.requires)

pub returns : goal.returns
returns c = (rw (lt-leb _ _ c.if-c-b.false), search rules)
