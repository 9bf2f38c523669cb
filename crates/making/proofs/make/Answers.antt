-- `making::make` meets its contract: the drum, the numbers or the room does not do, or the whole deck is written. Assumes nothing.
use mathlib.Core.Path.{◌≡◌, sym, ◌∙◌}
use mathlib.Core.Bool.{true}
use native.Mathlib.Omega.{arith}
use borrow.Author.Tests.{not-true, not-false}
use lib.ListN.{length}
use Rattle.rules.specs.Drum.{view, drum_fits}
use Rattle.rules.specs.Making.{MakeCall, numbers_fit}
use Rattle.rules.proofs.MadeDecks.{in_range_lem}
use Rattle.making.proofs.Answers.{sound, drum_unfit, number_unfit, too_long, was_made}
use Rattle.making.proofs.make.Goals as goal
use Rattle.making.proofs.make.Goals.{Else-not-is_fit, Else-not-numbers_fit, Start}

call : Start → MakeCall
call c =
    record { drum = c.args.drum.now; marks = c.args.marks.now; out = c.args.out.now; order = c.args.order; problem = c.args.problem }

-- what the checks found
fit : (c : Else-not-is_fit)
    → drum_fits (length c.args.drum.now) c.args.marks.now (view c.args.drum.now c.args.marks.now) ≡ true
fit c = sym c.is_fit.ensures ∙ not-false _ c.if-not-is_fit.false-raw

good : (c : Else-not-numbers_fit) → numbers_fit c.args.order c.args.problem ≡ true
good c = sym c.numbers_fit.ensures ∙ not-false _ c.if-not-numbers_fit.false-raw

pub returns-then-not-is_fit : goal.returns-then-not-is_fit
unfolding call
returns-then-not-is_fit c =
    drum_unfit (call (goal.at.returns-then-not-is_fit c).Start) (sym c.is_fit.ensures ∙ not-true _ c.if-not-is_fit.true-raw)

pub returns-then-not-numbers_fit : goal.returns-then-not-numbers_fit
unfolding call
returns-then-not-numbers_fit c =
    number_unfit (call (goal.at.returns-then-not-numbers_fit c).Start) (fit (goal.at.returns-then-not-numbers_fit c).Else-not-is_fit) (sym c.numbers_fit.ensures ∙ not-true _ c.if-not-numbers_fit.true-raw)

pub deck_size-size-requires : goal.deck_size-size-requires
deck_size-size-requires c = (sound _ _ (fit (goal.at.deck_size-size-requires c).Else-not-is_fit)).long

pub returns-then-out-size : goal.returns-then-out-size
unfolding call
returns-then-out-size c =
    too_long (call (goal.at.returns-then-out-size c).Start) (fit (goal.at.returns-then-out-size c).Else-not-is_fit) (good (goal.at.returns-then-out-size c).Else-not-numbers_fit) (omega (arith, c.if-out-size.true, c.deck_size-size.ensures c.args.order c.args.problem))

pub write_deck-requires : goal.write_deck-requires
write_deck-requires c =
    record { sound = sound _ _ (fit (goal.at.write_deck-requires c).Else-not-is_fit); order_fits = in_range_lem c.args.order c.args.problem (good (goal.at.write_deck-requires c).Else-not-numbers_fit); room_left = omega (arith, c.if-out-size.false, c.deck_size-size.ensures c.args.order c.args.problem) }

pub returns : goal.returns
unfolding call
returns c =
    was_made (call (goal.at.returns c).Start) (fit (goal.at.returns c).Else-not-is_fit) (good (goal.at.returns c).Else-not-numbers_fit) _ _ (c.deck_size-size.ensures c.args.order c.args.problem) c.if-out-size.false
    c.write_deck.ensures
