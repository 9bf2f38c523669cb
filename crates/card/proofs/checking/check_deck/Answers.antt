-- `card::check_deck` meets its contract. The loop over cards: what is left of the deck has the answer of the whole. The loop over the
-- bytes of a card: what is left of the card has its first bad place. Assumes nothing.
use mathlib.Core.Path.{sym, ◌∙◌}
use native.Mathlib.Omega.{arith}
use Rattle.card.proofs.Forms.{form_is}
use Rattle.card.proofs.Checks.{check_long, check_begin, check_end, check_second, Met, check_unknown, Known, check_cut}
use Rattle.card.proofs.Checks.{Long, check_smaller, check_byte, check_place, check_data, check_first}
use Rattle.card.proofs.Looks.{look_more, look_bad, look_end}
use Rattle.card.proofs.checking.check_deck.Goals as goal
use Rattle.card.proofs.checking.check_deck.Goals.{Else-is_second, In-Some, Else-rest-form}

-- the card at hand once it is known to be no second first-order card, of what form it is, and that its bytes are there
met : (c : Else-is_second) → Met c.args.deck.now c.cards.at c.cards.sofar
met c = record { checking = c.cards.invariant; here = c.if-deck-at.false; other = cc c.if-is_second.ensures }

known : (c : In-Some) → Known c.args.deck.now c.cards.at c.cards.sofar c.in-Some.form
known c = record {
  met = record { checking = c.cards.invariant; here = c.if-deck-at.false; other = cc c.if-is_second.ensures };
  form = sym c.in-Some.is ∙ c.form_of.ensures;
}

long : (c : Else-rest-form) → Long c.args.deck.now c.cards.at c.cards.sofar c.in-Some.form
long c = record {
  known = record {
    met = record { checking = c.cards.invariant; here = c.if-deck-at.false; other = cc c.if-is_second.ensures };
    form = sym c.in-Some.is ∙ c.form_of.ensures;
  };
  whole = c.if-rest-form.false;
}

pub returns-then-deck-gt65536 : goal.returns-then-deck-gt65536
returns-then-deck-gt65536 c = check_long _ c.if-deck-gt65536.true

pub cards-init : goal.cards-init
cards-init c = check_begin _ c.if-deck-gt65536.false

pub loop-o-preserved : goal.loop-o-preserved
loop-o-preserved c = look_more _ _ _ _ c.loop-o.invariant c.loop-o-test.true (cc c.if-not-is_due.ensures)

pub cells_fit-requires : goal.cells_fit-requires
cells_fit-requires c = let k = form_is (sym c.in-Some.is ∙ c.form_of.ensures) in k.cells

pub overflow_add-result-then-not-cells_fit : goal.overflow_add-result-then-not-cells_fit
overflow_add-result-then-not-cells_fit c =
    let k = form_is (sym c.in-Some.is ∙ c.form_of.ensures) in omega (arith, k.place, c.cards.invariant.short, c.if-deck-at.false)

pub cards-smaller-then-kind-eq84 : goal.cards-smaller-then-kind-eq84
cards-smaller-then-kind-eq84 c = check_smaller (long (goal.at.cards-smaller-then-kind-eq84 c).Else-rest-form)

pub cards-preserved-then-kind-eq84 : goal.cards-preserved-then-kind-eq84
cards-preserved-then-kind-eq84 c =
    check_first (long (goal.at.cards-preserved-then-kind-eq84 c).Else-rest-form) (look_end _ _ _ _ c.loop-o.invariant c.loop-o-test.false)
    c.loop-o-test.false c.number_in-location.ensures.0 (cc c.if-not-cells_fit.ensures) c.if-kind-eq84.true c.number_in.ensures.0

pub cards-smaller : goal.cards-smaller
cards-smaller c = check_smaller (long (goal.at.cards-smaller c).Else-rest-form)

pub cards-preserved : goal.cards-preserved
cards-preserved c =
    check_data (long (goal.at.cards-preserved c).Else-rest-form) (look_end _ _ _ _ c.loop-o.invariant c.loop-o-test.false)
    c.loop-o-test.false c.number_in-location.ensures.0 (cc c.if-not-cells_fit.ensures) c.if-kind-eq84.false

pub returns-then-deck-at : goal.returns-then-deck-at
returns-then-deck-at c = check_end c.cards.invariant c.if-deck-at.true

pub returns-then-is_second : goal.returns-then-is_second
returns-then-is_second c = check_second c.cards.invariant c.if-deck-at.false (cc c.if-is_second.ensures)

pub returns-in_default : goal.returns-in_default
returns-in_default c = check_unknown (met (goal.at.returns-in_default c).Else-is_second) (sym c.in_default.is ∙ c.form_of.ensures)

pub returns-then-rest-form : goal.returns-then-rest-form
returns-then-rest-form c = check_cut (known (goal.at.returns-then-rest-form c).In-Some) c.if-rest-form.true

pub returns-then-not-is_due : goal.returns-then-not-is_due
returns-then-not-is_due c =
    check_byte (long (goal.at.returns-then-not-is_due c).Else-rest-form)
    (look_bad _ _ _ _ c.loop-o.invariant c.loop-o-test.true (cc c.if-not-is_due.ensures)) c.loop-o-test.true

pub returns-then-not-cells_fit : goal.returns-then-not-cells_fit
returns-then-not-cells_fit c =
    check_place (long (goal.at.returns-then-not-cells_fit c).Else-rest-form) (look_end _ _ _ _ c.loop-o.invariant c.loop-o-test.false)
    c.loop-o-test.false c.number_in-location.ensures.0 (cc c.if-not-cells_fit.ensures)
