-- `card::form_of` meets its contract: each arm of the match is a case of the definition. Assumes nothing.
use native.Mathlib.Nat.{le_of_suc-le-suc}
use borrow.Author.Tests.{ne_eqb, le-leb, lt-leb}
use Rattle.card.specs.Forms.{form_of}
use Rattle.card.proofs.fields.form_of.Goals as goal

pub returns-in-84 : goal.returns-in-84
unfolding form_of
returns-in-84 c = simp c.in-84.is

pub returns-in-49-to-53 : goal.returns-in-49-to-53
unfolding form_of
returns-in-49-to-53 c =
    simp (le-leb 49 _ c.in-49-to-53.if-kind-lt49-own.false, le-leb _ 53 (le_of_suc-le-suc c.in-49-to-53.if-kind-lt54-own.true))

pub returns-in_default : goal.returns-in_default
unfolding form_of
returns-in_default c = simp (ne_eqb _ 84 c.in_default.in_default-own.rest.1, lt-leb 49 _ c.in_default.if-kind-lt49-own.true)

pub returns-in_default-2 : goal.returns-in_default-2
unfolding form_of
returns-in_default-2 c =
    simp (ne_eqb _ 84 c.in_default.in_default-own.rest.1, le-leb 49 _ c.in_default.if-kind-lt49-own.false, lt-leb _ 53 c.in_default.if-kind-lt54-own.false)
