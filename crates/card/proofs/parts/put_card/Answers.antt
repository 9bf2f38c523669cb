-- `card::put_card` meets its contract: each of the five fields stands right behind the one before. Assumes nothing.
use mathlib.Core.List.{List, [], ◌∷◌}
use mathlib.Core.Path.{refl}
use Prim.Native.Nat.{ℕ, ◌+◌, ◌*◌}
use native.Mathlib.Omega.{arith}
use lib.ListN.{length}
use Rattle.rules.specs.Cards.{digits, words_bytes}
use Rattle.rules.proofs.Digits.{length_digits}
use Rattle.rules.proofs.Fields.{length_words}
use Rattle.octets.proofs.Joins.{put_begin, put_part, put_more, put_over}
use Rattle.card.proofs.parts.put_card.Goals as goal

pub returns : goal.returns
returns c =
    let a = c.args in
    let ws : List ℕ = a.words.now in
    let n = length ws in
    let h₁ = put_begin {p = a.kind ∷ []} {e = 1} 1 c.put_byte.ensures refl refl (omega (arith, c.requires)) in
    let h₂ = put_more {e = 5} (digits 4 a.number) 4 h₁ c.put_field.ensures (length_digits 4 a.number) refl (omega (arith, c.requires)) in
    let h₃ = put_more {e = 8} (digits 3 a.location) 3 h₂ c.put_field-2.ensures (length_digits 3 a.location) refl (omega (arith, c.requires)) in
    let h₄ = put_part {e = 8 + 11 * n} (words_bytes ws) (11 * n) h₃ c.put_words.ensures (length_words ws) refl (omega (arith, c.requires)) in
    let h₅ = put_more {e = 11 + 11 * n} (digits 3 a.problem) 3 h₄ c.put_field-3.ensures (length_digits 3 a.problem) (omega arith)
    c.requires in
    put_over h₅
