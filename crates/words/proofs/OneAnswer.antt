-- Each public function has one answer: two that its contract allows for the same arguments are equal.
-- `Post` is the contract of a function, as it stands at the function. Assumes nothing.
use mathlib.Core.Path.{sym, ◌∙◌}
use Rattle.rules.proofs.Agreed.{OneResult}
use Rattle.words.proofs.parts_of.Kinds as parts-of-kinds
use Rattle.words.proofs.parts_of.Reads as parts-of
use Rattle.words.proofs.is_minus.Kinds as is-minus-kinds
use Rattle.words.proofs.is_minus.Reads as is-minus
use Rattle.words.proofs.is_negative.Kinds as is-negative-kinds
use Rattle.words.proofs.is_negative.Reads as is_negative
use Rattle.words.proofs.exponent_in.Kinds as exponent-in-kinds
use Rattle.words.proofs.exponent_in.Reads as exponent-in
use Rattle.words.proofs.address_in.Kinds as address-in-kinds
use Rattle.words.proofs.address_in.Reads as address-in
use Rattle.words.proofs.worth_of.Kinds as worth-of-kinds
use Rattle.words.proofs.worth_of.Reads as worth-of
use Rattle.words.proofs.changes.linked_word.Kinds as linked-word-kinds
use Rattle.words.proofs.changes.linked_word.Reads as linked-word
use Rattle.words.proofs.targets.sign_target.Kinds as sign-target-kinds
use Rattle.words.proofs.targets.sign_target.Reads as sign-target
use Rattle.words.proofs.targets.address_target.Kinds as address-target-kinds
use Rattle.words.proofs.targets.address_target.Reads as address-target
use Rattle.words.proofs.targets.exponent_target.Kinds as exponent-target-kinds
use Rattle.words.proofs.targets.exponent_target.Reads as exponent-target

pub one_parts : OneResult 0 parts-of-kinds.ps parts-of-kinds.r parts-of.Post
one_parts κs a x y s t p q =
    λ i. record { key = (p.key_is ∙ sym q.key_is) i; b = (p.b_is ∙ sym q.b_is) i; c = (p.c_is ∙ sym q.c_is) i }

pub one_minus : OneResult 0 is-minus-kinds.ps is-minus-kinds.r is-minus.Post
one_minus κs a x y s t p q = p ∙ sym q

pub one_negative : OneResult 0 is-negative-kinds.ps is-negative-kinds.r is_negative.Post
one_negative κs a x y s t p q = p ∙ sym q

pub one_exponent : OneResult 0 exponent-in-kinds.ps exponent-in-kinds.r exponent-in.Post
one_exponent κs a x y s t p q = p ∙ sym q

pub one_address : OneResult 0 address-in-kinds.ps address-in-kinds.r address-in.Post
one_address κs a x y s t p q = p ∙ sym q

pub one_worth : OneResult 0 worth-of-kinds.ps worth-of-kinds.r worth-of.Post
one_worth κs a x y s t p q = p ∙ sym q

pub one_linked_word : OneResult 0 linked-word-kinds.ps linked-word-kinds.r linked-word.Post
one_linked_word κs a x y s t p q = p ∙ sym q

pub one_sign_target : OneResult 0 sign-target-kinds.ps sign-target-kinds.r sign-target.Post
one_sign_target κs a x y s t p q = p ∙ sym q

pub one_exponent_target : OneResult 0 exponent-target-kinds.ps exponent-target-kinds.r exponent-target.Post
one_exponent_target κs a x y s t p q = p ∙ sym q

pub one_address_target : OneResult 0 address-target-kinds.ps address-target-kinds.r address-target.Post
one_address_target κs a x y s t p q = p ∙ sym q
