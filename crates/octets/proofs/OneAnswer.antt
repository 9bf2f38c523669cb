-- Each public function has one answer: two that its contract allows for the same arguments are equal, and so is all that they leave in
-- what was lent. `Post` is the contract of a function, as it stands at the function. Assumes nothing.
use Prim.Native.Nat.{ℕ}
use mathlib.Core.Path.{◌≡◌, sym, ◌∙◌}
use mir.Syntax.{w64}
use mir.Val.{Fits}
use Rattle.rules.proofs.Agreed.{Agrees, OneResult}
use Rattle.octets.proofs.fields.put_field.Kinds as put-field-kinds
use Rattle.octets.proofs.fields.put_field.Reads as put-field
use Rattle.octets.proofs.fields.put_word.Kinds as put-word-kinds
use Rattle.octets.proofs.fields.put_word.Reads as put_word
use Rattle.octets.proofs.fields.width_of.Kinds as width-of-kinds
use Rattle.octets.proofs.fields.width_of.Reads as width_of_lem
use Rattle.octets.proofs.puts.copy.Kinds as copy-kinds
use Rattle.octets.proofs.puts.copy.Reads as copy
use Rattle.octets.proofs.puts.put_byte.Kinds as put-byte-kinds
use Rattle.octets.proofs.puts.put_byte.Reads as put_byte
use Rattle.octets.proofs.puts.put_run.Kinds as put-run-kinds
use Rattle.octets.proofs.puts.put_run.Reads as put-run
use Rattle.octets.proofs.reads.byte_at.Kinds as byte-at-kinds
use Rattle.octets.proofs.reads.byte_at.Reads as byte_at
use Rattle.octets.proofs.reads.is_digit.Kinds as is-digit-kinds
use Rattle.octets.proofs.reads.is_digit.Reads as is_digit
use Rattle.octets.proofs.reads.number_in.Kinds as number-in-kinds
use Rattle.octets.proofs.reads.number_in.Reads as number_in
use Rattle.octets.proofs.reads.with_digit.Kinds as with-digit-kinds
use Rattle.octets.proofs.reads.with_digit.Reads as with-digit
use Rattle.octets.proofs.rooms.room.Kinds as room-kinds
use Rattle.octets.proofs.rooms.room.Reads as room

pub one_byte_put : Agrees 1 put-byte-kinds.ps put-byte-kinds.r put_byte.Post (λ κs x y s t. s.0.now ≡ t.0.now)
one_byte_put κs a x y s t p q = p ∙ sym q

pub one_run_put : Agrees 2 put-run-kinds.ps put-run-kinds.r put-run.Post (λ κs x y s t. s.0.now ≡ t.0.now)
one_run_put κs a x y s t p q = p ∙ sym q

pub one_copy : Agrees 2 copy-kinds.ps copy-kinds.r copy.Post (λ κs x y s t. s.0.now ≡ t.0.now)
one_copy κs a x y s t p q = p ∙ sym q

pub one_field_put : Agrees 1 put-field-kinds.ps put-field-kinds.r put-field.Post (λ κs x y s t. s.0.now ≡ t.0.now)
one_field_put κs a x y s t p q = p ∙ sym q

pub one_word_put : Agrees 1 put-word-kinds.ps put-word-kinds.r put_word.Post (λ κs x y s t. s.0.now ≡ t.0.now)
one_word_put κs a x y s t p q = p ∙ sym q

pub one_width : OneResult 0 width-of-kinds.ps width-of-kinds.r width_of_lem.Post
one_width κs a x y s t p q = p.0 ∙ sym q.0

pub one_byte : OneResult 1 byte-at-kinds.ps byte-at-kinds.r byte_at.Post
one_byte κs a x y s t p q = p ∙ sym q

pub one_test : OneResult 0 is-digit-kinds.ps is-digit-kinds.r is_digit.Post
one_test κs a x y s t p q = p ∙ sym q

pub one_number : OneResult 1 number-in-kinds.ps number-in-kinds.r number_in.Post
one_number κs a x y s t p q = p.0 ∙ sym q.0

pub one_longer : OneResult 0 with-digit-kinds.ps with-digit-kinds.r with-digit.Post
one_longer κs a x y s t p q = p ∙ sym q

pub one_room : (n : ℕ) (f : Fits w64 n) → OneResult 1 (room-kinds.ps n f) (room-kinds.r n f) (room.Post n f)
one_room n f κs a x y s t p q = p.0 ∙ sym q.0
