-- `card::may_stand` meets its contract: each turn passes one data card that does not begin at r. Assumes nothing.
use mathlib.Core.Path.{refl, sym, ◌∙◌}
use native.Mathlib.Omega.{arith}
use Rattle.card.proofs.DataCards.{standing_end, standing_none, standing_data, standing_here, standing_more}
use Rattle.card.proofs.cards.may_stand.Goals as goal

pub returns-then-deck-r : goal.returns-then-deck-r
returns-then-deck-r c = standing_end c.args.deck.now c.args.behind c.args.r c.if-deck-r.true

pub loop-size-init : goal.loop-size-init
loop-size-init c = record { inside = c.if-deck-r.false; same = refl }

pub returns-in_default : goal.returns-in_default
returns-in_default c =
    standing_none c.loop-size.invariant c.card_at.result c.in_default.not-Data (sym c.card_at.ensures)

pub returns-then-at-r : goal.returns-then-at-r
returns-then-at-r c = standing_here c.loop-size.invariant (sym c.card_at.ensures ∙ c.in-Data.is) c.if-at-r.true

pub overflow_add-at : goal.overflow_add-at
overflow_add-at c =
    let d = standing_data c.loop-size.invariant (sym c.card_at.ensures ∙ c.in-Data.is) in
    omega (arith, d.within)

pub loop-size-smaller : goal.loop-size-smaller
loop-size-smaller c =
    let d = standing_data c.loop-size.invariant (sym c.card_at.ensures ∙ c.in-Data.is) in
    omega (arith, d.within, d.long)

pub loop-size-preserved : goal.loop-size-preserved
loop-size-preserved c = standing_more c.loop-size.invariant (sym c.card_at.ensures ∙ c.in-Data.is) c.if-at-r.false
