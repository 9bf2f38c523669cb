-- Each of the two ways of a state's row has one answer: two that its contract allows for the same arguments are equal. `Post` is the
-- contract, as it stands at the impl. Assumes nothing.
use mathlib.Core.Path.{sym, ◌∙◌}
use Rattle.rules.proofs.Agreed.{OneResult}
use Rattle.rules.proofs.rows.ArrayU649FromState.from.Kinds as row-kinds
use Rattle.rules.proofs.rows.ArrayU649FromState.from.Reads as row
use Rattle.rules.proofs.rows.StateFromArrayU649.from.Kinds as state-kinds
use Rattle.rules.proofs.rows.StateFromArrayU649.from.Reads as state

pub one_row : OneResult 0 row-kinds.ps row-kinds.r row.Post
one_row κs a x y s t p q = p ∙ sym q

pub one_state : OneResult 0 state-kinds.ps state-kinds.r state.Post
one_state κs a x y s t p q = p ∙ sym q
