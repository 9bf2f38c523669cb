-- Each public function has one answer: two that its contract allows for the same arguments are equal. `Post` is the contract of a function,
-- as it stands at the function. Assumes nothing.
use mathlib.Core.Path.{sym, ◌∙◌}
use Rattle.rules.proofs.Agreed.{OneResult}
use Rattle.number.proofs.abs.Kinds as abs-kinds
use Rattle.number.proofs.abs.Reads as abs
use Rattle.number.proofs.add.Kinds as add-kinds
use Rattle.number.proofs.add.Reads as add
use Rattle.number.proofs.div.Kinds as div-kinds
use Rattle.number.proofs.div.Reads as div
use Rattle.number.proofs.is_number.Kinds as is-number-kinds
use Rattle.number.proofs.is_number.Reads as is_number
use Rattle.number.proofs.mpy.Kinds as mpy-kinds
use Rattle.number.proofs.mpy.Reads as mpy
use Rattle.number.proofs.ngmpy.Kinds as ngmpy-kinds
use Rattle.number.proofs.ngmpy.Reads as ngmpy
use Rattle.number.proofs.orders.lost_by.Kinds as lost-by-kinds
use Rattle.number.proofs.orders.lost_by.Reads as lost-by
use Rattle.number.proofs.orders.reckon.Kinds as reckon-kinds
use Rattle.number.proofs.orders.reckon.Reads as reckon
use Rattle.number.proofs.sqrt.Kinds as sqrt-kinds
use Rattle.number.proofs.sqrt.Reads as sqrt
use Rattle.number.proofs.sub.Kinds as sub-kinds
use Rattle.number.proofs.sub.Reads as sub

pub one_test : OneResult 0 is-number-kinds.ps is-number-kinds.r is_number.Post
one_test κs a x y s t p q = p ∙ sym q

pub one_sum : OneResult 0 add-kinds.ps add-kinds.r add.Post
one_sum κs a x y s t p q = p ∙ sym q

pub one_difference : OneResult 0 sub-kinds.ps sub-kinds.r sub.Post
one_difference κs a x y s t p q = p ∙ sym q

pub one_product : OneResult 0 mpy-kinds.ps mpy-kinds.r mpy.Post
one_product κs a x y s t p q = p ∙ sym q

pub one_quotient : OneResult 0 div-kinds.ps div-kinds.r div.Post
one_quotient κs a x y s t p q = p ∙ sym q

pub one_negative_product : OneResult 0 ngmpy-kinds.ps ngmpy-kinds.r ngmpy.Post
one_negative_product κs a x y s t p q = p ∙ sym q

pub one_root : OneResult 0 sqrt-kinds.ps sqrt-kinds.r sqrt.Post
one_root κs a x y s t p q = p ∙ sym q

pub one_magnitude : OneResult 0 abs-kinds.ps abs-kinds.r abs.Post
one_magnitude κs a x y s t p q = p ∙ sym q

pub one_reckoned : OneResult 0 reckon-kinds.ps reckon-kinds.r reckon.Post
one_reckoned κs a x y s t p q = p ∙ sym q

pub one_loss : OneResult 0 lost-by-kinds.ps lost-by-kinds.r lost-by.Post
one_loss κs a x y s t p q = p ∙ sym q
