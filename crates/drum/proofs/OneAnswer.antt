-- Each public function has one answer: two that its contract allows for the same arguments are equal, and so is all that
-- they leave in what was lent.
-- `Post` is the contract of a function, as it stands at the function. Assumes nothing.
use mathlib.Core.Path.{◌≡◌, sym, ◌∙◌}
use Rattle.rules.proofs.Agreed.{Agrees, OneResult}
use Rattle.drum.proofs.cell.Kinds as cell-kinds
use Rattle.drum.proofs.cell.Reads as cell
use Rattle.drum.proofs.word.Kinds as word-kinds
use Rattle.drum.proofs.word.Reads as word
use Rattle.drum.proofs.is_owned.Kinds as is-owned-kinds
use Rattle.drum.proofs.is_owned.Reads as is-owned
use Rattle.drum.proofs.keep.Kinds as keep-kinds
use Rattle.drum.proofs.keep.Reads as keep
use Rattle.drum.proofs.checking.is_fit.Kinds as is-fit-kinds
use Rattle.drum.proofs.checking.is_fit.Reads as is-fit
use Rattle.drum.proofs.blocks.all_owned.Kinds as all-owned-kinds
use Rattle.drum.proofs.blocks.all_owned.Reads as all-owned
use Rattle.drum.proofs.blocks.first_words.Kinds as first-words-kinds
use Rattle.drum.proofs.blocks.first_words.Reads as first-words
use Rattle.drum.proofs.checks.check.Kinds as check-kinds
use Rattle.drum.proofs.checks.check.Reads as check

pub one_cell : OneResult 2 cell-kinds.ps cell-kinds.r cell.Post
one_cell κs a x y s t p q = p ∙ sym q

pub one_word : OneResult 2 word-kinds.ps word-kinds.r word.Post
one_word κs a x y s t p q = p ∙ sym q

pub one_owned : OneResult 2 is-owned-kinds.ps is-owned-kinds.r is-owned.Post
one_owned κs a x y s t p q = p ∙ sym q

pub one_store : Agrees 2 keep-kinds.ps keep-kinds.r keep.Post (λ κs x y s t. (s.0.now ≡ t.0.now) × (s.1.0.now ≡ t.1.0.now))
one_store κs a x y s t p q = (p.drum_is ∙ sym q.drum_is, p.marks_are ∙ sym q.marks_are)

pub one_fit : OneResult 2 is-fit-kinds.ps is-fit-kinds.r is-fit.Post
one_fit κs a x y s t p q = p ∙ sym q

pub one_block : OneResult 2 all-owned-kinds.ps all-owned-kinds.r all-owned.Post
one_block κs a x y s t p q = p ∙ sym q

pub one_words : OneResult 2 first-words-kinds.ps first-words-kinds.r first-words.Post
one_words κs a x y s t p q = p ∙ sym q

pub one_check : OneResult 2 check-kinds.ps check-kinds.r check.Post
one_check κs a x y s t p q = p ∙ sym q
