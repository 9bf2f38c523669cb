-- Each public function has one answer: two that its contract allows for the same arguments are equal. `Post` is the contract of a
-- function, as it stands at the function. Assumes nothing.
use mathlib.Core.Path.{sym, ◌∙◌}
use Rattle.rules.proofs.Agreed.{OneResult}
use Rattle.codes.proofs.keys.code_of.Kinds as code-of-kinds
use Rattle.codes.proofs.keys.code_of.Reads as code_of_lem
use Rattle.codes.proofs.keys.key_of.Kinds as key-of-kinds
use Rattle.codes.proofs.keys.key_of.Reads as key_of
use Rattle.codes.proofs.keys.slot_of.Kinds as slot-of-kinds
use Rattle.codes.proofs.keys.slot_of.Reads as slot_of
use Rattle.codes.proofs.rows.look_up.Kinds as look-up-kinds
use Rattle.codes.proofs.rows.look_up.Reads as look_up
use Rattle.codes.proofs.rows.name_of.Kinds as name-of-kinds
use Rattle.codes.proofs.rows.name_of.Reads as name_of
use Rattle.codes.proofs.slots.built_at.Kinds as built-at-kinds
use Rattle.codes.proofs.slots.built_at.Reads as built-at
use Rattle.codes.proofs.slots.index.Kinds as index-kinds
use Rattle.codes.proofs.slots.index.Reads as index

pub one_code : OneResult 0 code-of-kinds.ps code-of-kinds.r code_of_lem.Post
one_code κs a x y s t p q = p ∙ sym q

pub one_key : OneResult 0 key-of-kinds.ps key-of-kinds.r key_of.Post
one_key κs a x y s t p q = p ∙ sym q

pub one_slot : OneResult 0 slot-of-kinds.ps slot-of-kinds.r slot_of.Post
one_slot κs a x y s t p q = p ∙ sym q

pub one_built : OneResult 0 look-up-kinds.ps look-up-kinds.r look_up.Post
one_built κs a x y s t p q = p ∙ sym q

pub one_name : OneResult 0 name-of-kinds.ps name-of-kinds.r name_of.Post
one_name κs a x y s t p q = p ∙ sym q

pub one_index : OneResult 0 index-kinds.ps index-kinds.r index.Post
one_index κs a x y s t p q = p.whole ∙ sym q.whole

pub one_found : OneResult 1 built-at-kinds.ps built-at-kinds.r built-at.Post
one_found κs a x y s t p q = p ∙ sym q
