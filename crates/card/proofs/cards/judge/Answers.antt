-- `card::judge` meets its contract: what is left to judge has the answer of the whole. A card that fits names a cell, so no sum is too
-- large; it has a word, so a cell less is left. Assumes nothing.
use mathlib.Core.Path.{refl, sym, ◌∙◌}
use native.Mathlib.Omega.{arith}
use Rattle.card.proofs.DataCards.{judging_full, judging_none, judging_data, judging_elsewhere, judging_past, judging_more}
use Rattle.card.proofs.cards.judge.Goals as goal

pub loop-next-init : goal.loop-next-init
loop-next-init c = record { same = refl }

pub returns-in_default : goal.returns-in_default
returns-in_default c =
    judging_none c.loop-next.invariant c.loop-next-test.true c.card_at.result c.in_default.not-Data (sym c.card_at.ensures)

pub returns-then-location-next : goal.returns-then-location-next
returns-then-location-next c =
    judging_elsewhere c.loop-next.invariant c.loop-next-test.true (sym c.card_at.ensures ∙ c.in-Data.is) c.if-location-next.true

pub overflow_add-next : goal.overflow_add-next
overflow_add-next c =
    let d = judging_data c.loop-next.invariant c.loop-next-test.true (sym c.card_at.ensures ∙ c.in-Data.is) in
    omega (arith, d.upto)

pub overflow_sub-next : goal.overflow_sub-next
overflow_sub-next c =
    let d = judging_data c.loop-next.invariant c.loop-next-test.true (sym c.card_at.ensures ∙ c.in-Data.is) in
    omega (arith, d.some)

pub returns-then-c-next : goal.returns-then-c-next
returns-then-c-next c =
    judging_past c.loop-next.invariant c.loop-next-test.true (sym c.card_at.ensures ∙ c.in-Data.is) c.if-location-next.false
    (omega (arith, c.if-c-next.true))

pub overflow_add-at : goal.overflow_add-at
overflow_add-at c =
    let d = judging_data c.loop-next.invariant c.loop-next-test.true (sym c.card_at.ensures ∙ c.in-Data.is) in
    omega (arith, d.within)

pub overflow_add-next-in-loop-next : goal.overflow_add-next-in-loop-next
overflow_add-next-in-loop-next c =
    let d = judging_data c.loop-next.invariant c.loop-next-test.true (sym c.card_at.ensures ∙ c.in-Data.is) in
    omega (arith, d.upto, c.if-location-next.false)

pub loop-next-smaller : goal.loop-next-smaller
loop-next-smaller c =
    let d = judging_data c.loop-next.invariant c.loop-next-test.true (sym c.card_at.ensures ∙ c.in-Data.is) in
    omega (arith, d.some, c.loop-next-test.true)

pub loop-next-preserved : goal.loop-next-preserved
loop-next-preserved c =
    judging_more c.loop-next.invariant c.loop-next-test.true (sym c.card_at.ensures ∙ c.in-Data.is) c.if-location-next.false
    (omega (arith, c.if-c-next.false))

pub returns : goal.returns
returns c = judging_full c.loop-next.invariant (omega (arith, c.loop-next-test.false))
