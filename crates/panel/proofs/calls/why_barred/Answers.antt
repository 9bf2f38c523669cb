-- `panel::calls::why_barred` meets its contract: the first of the checks that fails is told, and check 12 where none does.
-- Assumes nothing.
use Rattle.std.proofs.Common.{refl, sym, ◌∙◌}
use borrow.Author.Tests.{not-true, not-false}
use Rattle.panel.proofs.Outcomes.{barred_by}
use Rattle.panel.proofs.calls.why_barred.Goals as goal

pub returns-then-not-is_fit : goal.returns-then-not-is_fit
returns-then-not-is_fit c = barred_by _ _ _ (sym (not-true _ c.if-not-is_fit.true-raw) ∙ c.is_fit.ensures) refl

pub returns-in-Err : goal.returns-in-Err
returns-in-Err c =
    barred_by _ _ _ (sym (not-false _ c.if-not-is_fit.false-raw) ∙ c.is_fit.ensures) (sym c.in-Err.is ∙ c.check_deck.ensures)

pub returns-in-Ok : goal.returns-in-Ok
returns-in-Ok c =
    barred_by _ _ _ (sym (not-false _ c.if-not-is_fit.false-raw) ∙ c.is_fit.ensures) (sym c.in-Ok.is ∙ c.check_deck.ensures)
