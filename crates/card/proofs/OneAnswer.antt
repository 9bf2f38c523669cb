-- Each public function has one answer: two that its contract allows for the same arguments are equal, and so are the outputs they leave.
-- `Post` is the contract of a function, as it stands at the function. Assumes nothing.
use mathlib.Core.Path.{◌≡◌, sym, ◌∙◌}
use Rattle.rules.proofs.Agreed.{Agrees, OneResult}
use Rattle.card.proofs.cards.judge.Kinds as judge-kinds
use Rattle.card.proofs.cards.judge.Reads as judge
use Rattle.card.proofs.cards.may_stand.Kinds as may-stand-kinds
use Rattle.card.proofs.cards.may_stand.Reads as may-stand
use Rattle.card.proofs.checking.check_deck.Kinds as check-deck-kinds
use Rattle.card.proofs.checking.check_deck.Reads as check-deck
use Rattle.card.proofs.lines.write_line.Kinds as write-line-kinds
use Rattle.card.proofs.lines.write_line.Reads as write-line
use Rattle.card.proofs.reading.card_at.Kinds as card-at-kinds
use Rattle.card.proofs.reading.card_at.Reads as card-at
use Rattle.card.proofs.fields.sign_due.Kinds as sign-due-kinds
use Rattle.card.proofs.fields.sign_due.Reads as sign_due_lem
use Rattle.card.proofs.reading.first_bad.Kinds as first-bad-kinds
use Rattle.card.proofs.reading.first_bad.Reads as first-bad
use Rattle.card.proofs.reading.read_card.Kinds as read-card-kinds
use Rattle.card.proofs.reading.read_card.Reads as read-card
use Rattle.card.proofs.reading.word_of.Kinds as word-of-kinds
use Rattle.card.proofs.reading.word_of.Reads as word_of
use Rattle.card.proofs.writing.write_data.Kinds as write-data-kinds
use Rattle.card.proofs.writing.write_data.Reads as write-data
use Rattle.card.proofs.writing.write_first.Kinds as write-first-kinds
use Rattle.card.proofs.writing.write_first.Reads as write-first
use Rattle.card.proofs.writing.write_stop.Kinds as write-stop-kinds
use Rattle.card.proofs.writing.write_stop.Reads as write-stop
use Rattle.card.proofs.writing.write_trace.Kinds as write-trace-kinds
use Rattle.card.proofs.writing.write_trace.Reads as write-trace

pub one_card : OneResult 1 read-card-kinds.ps read-card-kinds.r read-card.Post
one_card κs a x y s t p q = p ∙ sym q

pub one_card_at : OneResult 1 card-at-kinds.ps card-at-kinds.r card-at.Post
one_card_at κs a x y s t p q = p ∙ sym q

pub one_place : OneResult 1 first-bad-kinds.ps first-bad-kinds.r first-bad.Post
one_place κs a x y s t p q = p ∙ sym q

pub one_word : OneResult 1 word-of-kinds.ps word-of-kinds.r word_of.Post
one_word κs a x y s t p q = p ∙ sym q

pub one_deck : OneResult 1 check-deck-kinds.ps check-deck-kinds.r check-deck.Post
one_deck κs a x y s t p q = p ∙ sym q

pub one_judgement : OneResult 1 judge-kinds.ps judge-kinds.r judge.Post
one_judgement κs a x y s t p q = p ∙ sym q

pub one_stand : OneResult 1 may-stand-kinds.ps may-stand-kinds.r may-stand.Post
one_stand κs a x y s t p q = p ∙ sym q

pub one_data : Agrees 1 write-data-kinds.ps write-data-kinds.r write-data.Post (λ κs x y s t. (x ≡ y) × (s.0.now ≡ t.0.now))
one_data κs a x y s t p q = (p.answer ∙ sym q.answer, p.bytes ∙ sym q.bytes)

pub one_first : Agrees 1 write-first-kinds.ps write-first-kinds.r write-first.Post (λ κs x y s t. (x ≡ y) × (s.0.now ≡ t.0.now))
one_first κs a x y s t p q = (p.answer ∙ sym q.answer, p.bytes ∙ sym q.bytes)

pub one_trace : Agrees 1 write-trace-kinds.ps write-trace-kinds.r write-trace.Post (λ κs x y s t. (x ≡ y) × (s.0.now ≡ t.0.now))
one_trace κs a x y s t p q = (p.answer ∙ sym q.answer, p.bytes ∙ sym q.bytes)

pub one_stop : Agrees 1 write-stop-kinds.ps write-stop-kinds.r write-stop.Post (λ κs x y s t. (x ≡ y) × (s.0.now ≡ t.0.now))
one_stop κs a x y s t p q = (p.answer ∙ sym q.answer, p.bytes ∙ sym q.bytes)

pub one_line : Agrees 1 write-line-kinds.ps write-line-kinds.r write-line.Post (λ κs x y s t. (x ≡ y) × (s.0.now ≡ t.0.now))
one_line κs a x y s t p q = (p.answer ∙ sym q.answer, p.bytes ∙ sym q.bytes)

pub one_sign_due : OneResult 0 sign-due-kinds.ps sign-due-kinds.r sign_due_lem.Post
one_sign_due κs a x y s t p q = p ∙ sym q
