-- Each public function has one answer: two that its contract allows for the same arguments are equal.
-- `Post` is the contract of a function, as it stands at the function. Assumes nothing.
use mathlib.Core.Path.{sym, ◌∙◌}
use Rattle.rules.proofs.Agreed.{OneResult}
use Rattle.states.proofs.none.Kinds as none-kinds
use Rattle.states.proofs.none.Reads as none
use Rattle.states.proofs.begin.Kinds as begin-kinds
use Rattle.states.proofs.begin.Reads as begin

pub one_none : OneResult 0 none-kinds.ps none-kinds.r none.Post
one_none κs a x y s t p q = p ∙ sym q

pub one_begin : OneResult 0 begin-kinds.ps begin-kinds.r begin.Post
one_begin κs a x y s t p q = p ∙ sym q
