-- `list::ends::wrong_met` meets its contract. Assumes nothing.
use mathlib.Core.Path.{sym, ◌∙◌}
use Rattle.list.proofs.ends.wrong_met.Goals as goal

pub returns-then-is_second : goal.returns-then-is_second
returns-then-is_second c = rw (sym c.is_second.ensures ∙ c.if-is_second.true)

pub returns : goal.returns
returns c = rw (sym c.is_second.ensures ∙ c.if-is_second.false) c.wrong_in.ensures
