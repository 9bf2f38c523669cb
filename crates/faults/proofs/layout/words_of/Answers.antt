-- `faults::layout::words_of` meets its contract: each arm is a case of the definition. Assumes nothing.
use mathlib.Core.Path.{sym, ap}
use native.Mathlib.Nat.{le_of_suc-le-suc}
use native.Mathlib.Omega.{arith}
use borrow.Author.Tests.{le-leb, lt-leb, ne_eqb}
use Rattle.faults.specs.Sentences.{words_of}
use Rattle.faults.proofs.layout.words_of.Goals as goal

pub returns-in-88 : goal.returns-in-88
returns-in-88 c = (sym (ap words_of c.in-88.is), omega arith)

pub returns-in-49-to-53 : goal.returns-in-49-to-53
returns-in-49-to-53 c =
    (simp (le-leb 49 _ c.in-49-to-53.if-kind-lt49-own.false, le-leb _ 53 (le_of_suc-le-suc c.in-49-to-53.if-kind-lt54-own.true)), omega arith)

pub returns-in_default : goal.returns-in_default
returns-in_default c =
    (simp (ne_eqb _ 88 c.in_default.in_default-own.rest.1, lt-leb 49 _ c.in_default.if-kind-lt49-own.true), omega arith)

pub returns-in_default-2 : goal.returns-in_default-2
returns-in_default-2 c =
    (simp (ne_eqb _ 88 c.in_default.in_default-own.rest.1, le-leb 49 _ c.in_default.if-kind-lt49-own.false, lt-leb _ 53 c.in_default.if-kind-lt54-own.false), omega arith)
