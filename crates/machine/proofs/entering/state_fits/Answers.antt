-- `machine::entering::state_fits`: the tests are those of the rules, one after another. Assumes nothing.
use borrow.Author.Rules.{rules}
use Rattle.rules.specs.Running.{state_fits}
use Rattle.machine.proofs.entering.state_fits.Goals as goal

pub returns-then-budget-gt999999 : goal.returns-then-budget-gt999999
unfolding state_fits
returns-then-budget-gt999999 c = search rules

pub returns-then-state-gt9999 : goal.returns-then-state-gt9999
unfolding state_fits
returns-then-state-gt9999 c = search rules

pub returns-then-state-gt1 : goal.returns-then-state-gt1
unfolding state_fits
returns-then-state-gt1 c = search rules

pub returns-then-is_owned : goal.returns-then-is_owned
unfolding state_fits
returns-then-is_owned c = search rules

pub returns-else-is_owned : goal.returns-else-is_owned
unfolding state_fits
returns-else-is_owned c = search rules
