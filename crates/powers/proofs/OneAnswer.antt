-- The public function has one answer: two that its contract allows for the same argument are equal. `Post` is the contract of a function,
-- as it stands at the function. Assumes nothing.
use mathlib.Core.Path.{sym, ◌∙◌}
use Rattle.rules.proofs.Agreed.{OneResult}
use Rattle.powers.proofs.power.Kinds as power-kinds
use Rattle.powers.proofs.power.Reads as power

pub one_power : OneResult 0 power-kinds.ps power-kinds.r power.Post
one_power κs a x y s t p q = p ∙ sym q
