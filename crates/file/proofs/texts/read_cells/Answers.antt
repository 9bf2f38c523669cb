-- `file::read_cells` meets its contract: the drum has another length, the text does not fill it, or it does. Assumes nothing.
use mathlib.Core.Path.{sym, ◌∙◌}
use borrow.Author.Tests.{not-true, not-false}
use Rattle.file.proofs.Wholes.{bad_length, bad_text, was_filled}
use Rattle.file.proofs.texts.read_cells.Goals as goal

pub returns-then-drum-ne1000 : goal.returns-then-drum-ne1000
returns-then-drum-ne1000 c = bad_length _ _ c.if-drum-ne1000.true

pub returns-then-not-scan : goal.returns-then-not-scan
returns-then-not-scan c = bad_text _ _ (sym c.scan.ensures.answer ∙ not-true _ c.if-not-scan.true-raw)

pub returns : goal.returns
returns c =
    let t = not-false _ c.if-not-scan.false-raw in
    was_filled _ _ _ c.if-drum-ne1000.false (sym c.scan.ensures.answer ∙ t) (c.scan.ensures.numbers t) c.put_cells.ensures
