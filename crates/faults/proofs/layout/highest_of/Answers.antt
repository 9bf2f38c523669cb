-- `faults::layout::highest_of` meets its contract: each arm is a case of the definition. Assumes nothing.
use native.Mathlib.Nat.{le_of_suc-le-suc}
use borrow.Author.Tests.{le-leb, lt-leb}
use Rattle.faults.proofs.layout.highest_of.Goals as goal

pub returns-in-49-to-53 : goal.returns-in-49-to-53
returns-in-49-to-53 c =
    simp (le-leb 49 _ c.in-49-to-53.if-kind-lt49-own.false, le-leb _ 53 (le_of_suc-le-suc c.in-49-to-53.if-kind-lt54-own.true))

pub returns-in_default : goal.returns-in_default
returns-in_default c = simp (lt-leb 49 _ c.in_default.if-kind-lt49-own.true)

pub returns-in_default-2 : goal.returns-in_default-2
returns-in_default-2 c =
    simp (le-leb 49 _ c.in_default.if-kind-lt49-own.false, lt-leb _ 53 c.in_default.if-kind-lt54-own.false)
