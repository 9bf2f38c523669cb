-- `file::scan` meets its contract: at each byte what is left of the text has the numbers of the whole. Assumes nothing.
use mathlib.Core.Path.{sym, ap, ◌∙◌}
use native.Mathlib.Omega.{arith}
use Rattle.octets.proofs.Digits.{number_is}
use Rattle.std.specs.Prelude.{is_ok}
use Rattle.file.proofs.Numbers.{takes_is}
use Rattle.file.proofs.Scans.{reading_begins, reading_gap, reading_full, reading_digit, reading_bad, reading_ends}
use Rattle.file.proofs.texts.scan.Goals as goal

pub loop-b-init : goal.loop-b-init
loop-b-init c = reading_begins c.args.text.now c.args.cells.now

pub end_number-n-requires : goal.end_number-n-requires
end_number-n-requires c = c.loop-b.invariant.few

pub shape_of-cells-then-cells-n : goal.shape_of-cells-then-cells-n
shape_of-cells-then-cells-n c = c.end_number-n.auto.cells ∙ c.loop-b.invariant.whole

pub returns-then-cells-n : goal.returns-then-cells-n
returns-then-cells-n c =
    reading_full c.loop-b.invariant c.end_number-n.result c.end_number-n.new.cells (omega arith)
    (sym c.is_gap.ensures ∙ c.if-is_gap.true) c.end_number-n.ensures.0 c.end_number-n.ensures.1 c.if-cells-n.true

pub loop-b-preserved-then-is_gap : goal.loop-b-preserved-then-is_gap
loop-b-preserved-then-is_gap c =
    reading_gap c.loop-b.invariant c.end_number-n.result c.end_number-n.new.cells (omega arith) (sym c.is_gap.ensures ∙ c.if-is_gap.true)
    c.end_number-n.ensures.0 c.end_number-n.ensures.1 c.if-cells-n.false

pub loop-b-preserved : goal.loop-b-preserved
loop-b-preserved c =
    let e = rw c.unwrap_or.ensures at (sym c.in-Ok.is ∙ c.with_digit.ensures) in
    reading_digit c.loop-b.invariant c.in-Ok.x (omega arith) (sym c.is_gap.ensures ∙ c.if-is_gap.false)
    (takes_is _ _ ∙ ap is_ok (sym e)) (number_is _ _ e).1

pub returns-in_default : goal.returns-in_default
returns-in_default c =
    reading_bad c.loop-b.invariant (omega arith) (sym c.is_gap.ensures ∙ c.if-is_gap.false)
    (takes_is _ _ ∙ ap is_ok (rw c.unwrap_or.ensures at (sym c.with_digit.ensures ∙ c.in_default.is)))

pub end_number-n-requires-2 : goal.end_number-n-requires-2
end_number-n-requires-2 c = c.loop-b.invariant.few

pub shape_of-cells : goal.shape_of-cells
shape_of-cells c = c.end_number-n-2.auto.cells ∙ c.loop-b.invariant.whole

pub returns : goal.returns
returns c =
    reading_ends c.loop-b.invariant c.end_number-n-2.result c.end_number-n-2.new.cells (omega arith)
    c.end_number-n-2.ensures.0 c.end_number-n-2.ensures.1
