-- `panel::calls::l1_run` meets its contract: a state that is not nine numbers is refused, and on any other the machine's run says
-- the rest. Assumes nothing.
use Rattle.std.proofs.Common.{◌∙◌}
use borrow.Author.Tests.{eq-eqb, ne_eqb}
use Rattle.panel.proofs.Outcomes.{run_barred_lem, run_done}
use Rattle.panel.proofs.calls.l1_run.Goals as goal

pub returns-in_default : goal.returns-in_default
returns-in_default c = run_barred_lem _ _ (ne_eqb _ 9 c.in_default.ensures.1) c.why_barred.ensures c.ending_told.ensures

pub returns : goal.returns
returns c =
    run_done _ _ (eq-eqb _ 9 c.in-Ok.ensures.1.long) (cc (c.from.ensures, c.is_on.ensures, c.in-Ok.ensures.1.same)) c.run-x.ensures
    (c.copy_from_slice.ensures.after ∙ c.from-2.ensures)
    c.ending_told-2.ensures
