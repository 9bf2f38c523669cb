-- `card::put_stop` meets its contract: each of the five fields stands right behind the one before. Assumes nothing.
use mathlib.Core.List.{[], ◌∷◌}
use mathlib.Core.Path.{refl}
use native.Mathlib.Omega.{arith}
use Rattle.rules.specs.Cards.{digits, word_bytes, stop_card}
use Rattle.rules.proofs.Digits.{length_digits}
use Rattle.rules.proofs.Fields.{length_word}
use Rattle.octets.proofs.Joins.{put_begin, put_more, put_over}
use Rattle.card.proofs.writing.put_stop.Goals as goal

pub returns : goal.returns
unfolding stop_card
returns c =
    let a = c.args in
    let h₁ = put_begin {p = 90 ∷ []} {e = 1} 1 c.put_byte.ensures refl refl (omega (arith, c.requires)) in
    let h₂ = put_more {e = 3} (digits 2 a.number) 2 h₁ c.put_field.ensures (length_digits 2 a.number) refl (omega (arith, c.requires)) in
    let h₃ = put_more {e = 7} (digits 4 a.location) 4 h₂ c.put_field-2.ensures (length_digits 4 a.location) refl (omega (arith, c.requires)) in
    let h₄ = put_more {e = 13} (digits 6 a.count) 6 h₃ c.put_field-3.ensures (length_digits 6 a.count) refl (omega (arith, c.requires)) in
    put_over (put_more {e = 24} (word_bytes a.shown) 11 h₄ c.put_word.ensures (length_word a.shown) refl c.requires)
