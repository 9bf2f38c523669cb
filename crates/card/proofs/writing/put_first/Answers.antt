-- `card::put_first` meets its contract: each of the three fields stands right behind the one before. Assumes nothing.
use mathlib.Core.List.{[], ◌∷◌}
use mathlib.Core.Path.{refl}
use native.Mathlib.Omega.{arith}
use Rattle.rules.specs.Cards.{digits, first_card}
use Rattle.rules.proofs.Digits.{length_digits}
use Rattle.octets.proofs.Joins.{put_begin, put_more, put_over}
use Rattle.card.proofs.writing.put_first.Goals as goal

pub returns : goal.returns
unfolding first_card
returns c =
    let a = c.args in
    let h₁ = put_begin {p = 84 ∷ []} {e = 1} 1 c.put_byte.ensures refl refl (omega (arith, c.requires)) in
    let h₂ = put_more {e = 4} (digits 3 a.order) 3 h₁ c.put_field.ensures (length_digits 3 a.order) refl (omega (arith, c.requires)) in
    put_over (put_more {e = 7} (digits 3 a.problem) 3 h₂ c.put_field-2.ensures (length_digits 3 a.problem) refl c.requires)
