-- `card::read_card` meets its contract: each answer is that of the definition by the tests that led to it. Assumes nothing.
use mathlib.Core.Path.{sym, ◌∙◌}
use native.Mathlib.Omega.{arith}
use Rattle.card.proofs.Forms.{Begun, Whole, form_is, card_none, card_unknown, card_cut, card_byte, card_place, card_first, card_data}
use Rattle.card.proofs.reading.read_card.Goals as goal
use Rattle.card.proofs.reading.read_card.Goals.{In-Some, After-first_bad-bad}

-- what is known where the form is known, and where the first bad place is
begun : (c : In-Some) → Begun c.args.rest.now c.in-Some.form
begun c = record { some = c.if-rest-eq0.false; form = sym c.in-Some.is ∙ c.form_of.ensures }

whole : (c : After-first_bad-bad) → Whole c.args.rest.now c.in-Some.form c.first_bad-bad.result
whole c = record {
  begun = record { some = c.if-rest-eq0.false; form = sym c.in-Some.is ∙ c.form_of.ensures };
  whole = c.if-rest-form.false;
  looked = c.first_bad-bad.ensures;
}

pub returns-then-rest-eq0 : goal.returns-then-rest-eq0
returns-then-rest-eq0 c = sym (card_none _ c.if-rest-eq0.true)

pub returns-in_default : goal.returns-in_default
returns-in_default c = sym (card_unknown _ c.if-rest-eq0.false (sym c.in_default.is ∙ c.form_of.ensures))

pub returns-then-rest-form : goal.returns-then-rest-form
returns-then-rest-form c = sym (card_cut (begun (goal.at.returns-then-rest-form c).In-Some) c.if-rest-form.true)

pub returns-then-bad-form : goal.returns-then-bad-form
returns-then-bad-form c = sym (card_byte (whole (goal.at.returns-then-bad-form c).After-first_bad-bad) c.if-bad-form.true)

pub cells_fit-requires : goal.cells_fit-requires
cells_fit-requires c = let k = form_is (sym c.in-Some.is ∙ c.form_of.ensures) in k.cells

pub returns-then-not-cells_fit : goal.returns-then-not-cells_fit
returns-then-not-cells_fit c =
    sym (card_place (whole (goal.at.returns-then-not-cells_fit c).After-first_bad-bad) c.if-bad-form.false
    (cc c.if-not-cells_fit.ensures))

pub returns-then-kind-eq84 : goal.returns-then-kind-eq84
returns-then-kind-eq84 c =
    cc (card_first (whole (goal.at.returns-then-kind-eq84 c).After-first_bad-bad) c.if-bad-form.false (cc c.if-not-cells_fit.ensures)
    c.if-kind-eq84.true)

pub overflow_mul-form : goal.overflow_mul-form
overflow_mul-form c = let k = form_is (sym c.in-Some.is ∙ c.form_of.ensures) in omega (arith, k.words)

pub overflow_add-form : goal.overflow_add-form
overflow_add-form c = let k = form_is (sym c.in-Some.is ∙ c.form_of.ensures) in omega (arith, k.words)

pub returns : goal.returns
returns c =
    cc (card_data (whole (goal.at.returns c).After-first_bad-bad) c.if-bad-form.false (cc c.if-not-cells_fit.ensures) c.if-kind-eq84.false)
