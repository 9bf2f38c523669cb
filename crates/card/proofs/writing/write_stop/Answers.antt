-- `card::write_stop` meets its contract: it is refused for a field or for the room, or all of it is written. Assumes nothing.
use mathlib.Core.Path.{sym, ◌∙◌}
use native.Mathlib.Omega.{arith}
use borrow.Author.Tests.{not-true, not-false}
use Rattle.rules.proofs.Fields.{length_stop}
use Rattle.card.proofs.Writes.{out_of_range, no_room, whole_card_lem}
use Rattle.card.proofs.writing.write_stop.Goals as goal

pub returns-then-not-stop_may : goal.returns-then-not-stop_may
returns-then-not-stop_may c = out_of_range _ _ _ (sym c.stop_may.ensures ∙ not-true _ c.if-not-stop_may.true-raw)

pub returns-then-out-lt24 : goal.returns-then-out-lt24
returns-then-out-lt24 c =
    let a = c.args in
    no_room _ _ _ (omega (arith, c.if-out-lt24.true, length_stop a.number a.location a.count a.shown))

pub returns : goal.returns
returns c =
    let a = c.args in
    whole_card_lem _ _ _ _ (sym c.stop_may.ensures ∙ not-false _ c.if-not-stop_may.false-raw)
    (omega (arith, c.if-out-lt24.false, length_stop a.number a.location a.count a.shown)) c.put_stop.ensures
