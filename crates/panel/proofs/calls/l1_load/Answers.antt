-- `panel::calls::l1_load` meets its contract: a state that is not nine numbers is refused, and on any other the machine's load says
-- the rest. Assumes nothing.
use Rattle.std.proofs.Common.{◌∙◌}
use borrow.Author.Tests.{eq-eqb, ne_eqb}
use Rattle.panel.proofs.Outcomes.{load_barred, load_done}
use Rattle.panel.proofs.calls.l1_load.Goals as goal

pub returns-in_default : goal.returns-in_default
returns-in_default c = load_barred _ _ (ne_eqb _ 9 c.in_default.ensures.1) c.why_barred.ensures c.from.ensures

pub returns : goal.returns
returns c =
    load_done _ _ (eq-eqb _ 9 c.in-Ok.ensures.1.long) (cc (c.from-2.ensures, c.is_on.ensures, c.in-Ok.ensures.1.same)) c.load-x.ensures
    (c.copy_from_slice.ensures.after ∙ c.from-3.ensures)
    c.from-4.ensures
