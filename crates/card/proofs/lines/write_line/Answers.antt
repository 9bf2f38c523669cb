-- `card::write_line` meets its contract: there is no room, or all of the line is written. Assumes nothing.
use mathlib.Core.Path.{◌≡◌}
use Prim.Native.Nat.{◌+◌}
use native.Mathlib.Omega.{arith}
use lib.ListN.{length}
use Rattle.rules.specs.Cards.{refusal_line}
use Rattle.rules.proofs.Fields.{length_line}
use Rattle.card.proofs.Writes.{no_line, whole_line}
use Rattle.card.proofs.lines.write_line.Goals as goal
use Rattle.card.proofs.lines.write_line.Goals.{After-width_of-b}

-- the line is as long as the two widths say
size : (c : After-width_of-b)
    → c.width_of-a.result + 1 + c.width_of-b.result ≡ length (refusal_line c.args.number c.args.place)
size c =
    cc (length_line c.args.number c.args.place)

pub returns-then-out-size : goal.returns-then-out-size
returns-then-out-size c =
    no_line _ _ (omega (arith, c.if-out-size.true, size (goal.at.returns-then-out-size c).After-width_of-b))

pub returns : goal.returns
unfolding refusal_line
returns c = whole_line _ _ _ _ (size (goal.at.returns c).After-width_of-b) c.if-out-size.false (cc)
