-- `drum::cell`: past either run there is no cell; within both the mark decides. Assumes nothing.
use mathlib.Core.Path.{sym, ◌∙◌}
use borrow.Author.Tests.{ltb-false}
use Rattle.drum.proofs.Cells.{past_drum, past_marks, unmarked, marked}
use Rattle.drum.proofs.cell.Goals as goal

pub returns-in_err-word : goal.returns-in_err-word
returns-in_err-word c = c.from_residual.ensures ∙ past_drum _ _ _ (ltb-false _ _ (sym c.in_err-word.ensures.lookup.0))

pub returns-in_err-mark : goal.returns-in_err-mark
returns-in_err-mark c = c.from_residual-in_err-mark.ensures ∙ past_marks _ _ _ (ltb-false _ _ (sym c.in_err-mark.ensures.lookup.0))

pub returns-then-mark-eq0 : goal.returns-then-mark-eq0
returns-then-mark-eq0 c =
    let d = c.in_ok-word.ensures.lookup in
    let m = c.in_ok-mark.ensures.lookup in
    unmarked _ _ _ d.3.0 m.3.0 (sym (m.3.1 0) ∙ c.if-mark-eq0.true)

pub returns : goal.returns
returns c =
    let d = c.in_ok-word.ensures.lookup in
    let m = c.in_ok-mark.ensures.lookup in
    rw (d.3.1 0) (marked _ _ _ d.3.0 m.3.0 (λ z. c.if-mark-eq0.false (m.3.1 0 ∙ z)))
