-- Each public function has one answer: two lines that its contract allows for the same arguments are equal. `Post` is the contract of a
-- function, as it stands at the function. Assumes nothing.
use mathlib.Core.Path.{◌≡◌, sym, ◌∙◌}
use mathlib.Core.List.{List}
use Prim.Native.Nat.{ℕ}
use Rattle.rules.proofs.Agreed.{Agrees, OneResult}
use Rattle.faults.proofs.counts.sum.Kinds as sum-kinds
use Rattle.faults.proofs.counts.sum.Reads as sum
use Rattle.faults.proofs.lines.empty.Kinds as empty-kinds
use Rattle.faults.proofs.lines.empty.Reads as empty
use Rattle.faults.proofs.lines.Line.text.Kinds as text-kinds
use Rattle.faults.proofs.lines.Line.text.Reads as text
use Rattle.faults.proofs.sentences.of_card.Kinds as of-card-kinds
use Rattle.faults.proofs.sentences.of_card.Reads as of-card
use Rattle.faults.proofs.sentences.of_deck.Kinds as of-deck-kinds
use Rattle.faults.proofs.sentences.of_deck.Reads as of-deck
use Rattle.faults.proofs.sentences.of_long.Kinds as of-long-kinds
use Rattle.faults.proofs.sentences.of_long.Reads as of-long
use Rattle.faults.proofs.sentences.of_none.Kinds as of-none-kinds
use Rattle.faults.proofs.sentences.of_none.Reads as of_none

-- two lines that say the same
pub same_line : {x y s : List ℕ} → x ≡ s → y ≡ s → x ≡ y
same_line p q = p ∙ sym q

pub one_of_card : OneResult 1 of-card-kinds.ps of-card-kinds.r of-card.Post
one_of_card κs a x y s t p q = same_line p q

pub one_of_deck : OneResult 1 of-deck-kinds.ps of-deck-kinds.r of-deck.Post
one_of_deck κs a x y s t p q = same_line p q

pub one_of_long : OneResult 0 of-long-kinds.ps of-long-kinds.r of-long.Post
one_of_long κs a x y s t p q = same_line p q

pub one_of_none : OneResult 0 of-none-kinds.ps of-none-kinds.r of_none.Post
one_of_none κs a x y s t p q = same_line p q

pub one_empty : OneResult 0 empty-kinds.ps empty-kinds.r empty.Post
one_empty κs a x y s t p q = same_line p q

pub one_sum : OneResult 0 sum-kinds.ps sum-kinds.r sum.Post
one_sum κs a x y s t p q = p ∙ sym q

-- the bytes that it lends
pub one_text : Agrees 1 text-kinds.ps text-kinds.r text.Post (λ κs x y s t. x.now ≡ y.now)
one_text κs a x y s t p q = p ∙ sym q
