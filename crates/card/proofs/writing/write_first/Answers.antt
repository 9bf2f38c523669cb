-- `card::write_first` meets its contract: it is refused for a field or for the room, or all of it is written. Assumes nothing.
use mathlib.Core.Path.{sym, ◌∙◌}
use native.Mathlib.Omega.{arith}
use borrow.Author.Tests.{not-true, not-false}
use Rattle.rules.proofs.Fields.{length_first}
use Rattle.card.proofs.Writes.{out_of_range, no_room, whole_card_lem}
use Rattle.card.proofs.writing.write_first.Goals as goal

pub returns-then-not-first_may : goal.returns-then-not-first_may
returns-then-not-first_may c = out_of_range _ _ _ (sym c.first_may.ensures ∙ not-true _ c.if-not-first_may.true-raw)

pub returns-then-out-lt7 : goal.returns-then-out-lt7
returns-then-out-lt7 c = no_room _ _ _ (omega (arith, c.if-out-lt7.true, length_first c.args.order c.args.problem))

pub returns : goal.returns
returns c =
    whole_card_lem _ _ _ _ (sym c.first_may.ensures ∙ not-false _ c.if-not-first_may.false-raw)
    (omega (arith, c.if-out-lt7.false, length_first c.args.order c.args.problem)) c.put_first.ensures
