-- `card::write_trace` meets its contract: it is refused for a field or for the room, or all of it is written. Assumes nothing.
use mathlib.Core.Path.{◌≡◌, sym, ◌∙◌}
use native.Mathlib.Omega.{arith}
use borrow.Author.Tests.{not-true, not-false}
use lib.ListN.{length}
use Rattle.rules.specs.Cards.{trace_card}
use Rattle.rules.proofs.Fields.{length_trace}
use Rattle.card.proofs.Writes.{out_of_range, no_room, whole_card_lem}
use Rattle.card.proofs.writing.write_trace.Goals as goal
use Rattle.card.proofs.writing.write_trace.Goals.{Start}

six : (c : Start) → length c.args.words ≡ 6
six c = omega (arith, c.well_formed)

-- a trace card has 77 bytes
size : (c : Start) → length (trace_card c.args.number c.args.location c.args.words c.args.problem) ≡ 77
size c = length_trace c.args.number c.args.location c.args.words c.args.problem ∙ omega (arith, six c)

pub returns-then-not-trace_may : goal.returns-then-not-trace_may
returns-then-not-trace_may c = out_of_range _ _ _ (sym c.trace_may.ensures ∙ not-true _ c.if-not-trace_may.true-raw)

pub returns-then-out-lt77 : goal.returns-then-out-lt77
returns-then-out-lt77 c = no_room _ _ _ (omega (arith, c.if-out-lt77.true, size (goal.at.returns-then-out-lt77 c).Start))

pub returns : goal.returns
unfolding trace_card
returns c =
    whole_card_lem _ _ _ _ (sym c.trace_may.ensures ∙ not-false _ c.if-not-trace_may.false-raw) (omega (arith, c.if-out-lt77.false, size (goal.at.returns c).Start))
    c.put_card.ensures
