-- `card::put_line` meets its contract: the space stands right behind the number, and the place behind the space. Assumes nothing.
use mathlib.Core.List.{List, [], ◌∷◌}
use mathlib.Core.Path.{refl, ap, ◌∙◌}
use Prim.Native.Nat.{ℕ, ◌+◌}
use native.Mathlib.Omega.{arith}
use lib.Seq.{append_snoc}
use Rattle.rules.specs.Cards.{digits}
use Rattle.rules.specs.Running.{over}
use Rattle.rules.proofs.Digits.{length_digits}
use Rattle.octets.proofs.Joins.{put_begin, put_more, put_over}
use Rattle.card.proofs.lines.put_line.Goals as goal

pub returns : goal.returns
returns c =
    let a = c.args in
    let s : List ℕ = digits a.a a.number in
    let t : List ℕ = digits a.b a.place in
    let h₁ = put_begin {p = s} {e = a.a} a.a c.put_field.ensures (length_digits a.a a.number) (omega arith) (omega (arith, c.requires)) in
    let h₂ = put_more {e = a.a + 1} (32 ∷ []) 1 h₁ c.put_byte.ensures refl refl (omega (arith, c.requires)) in
    put_over (put_more {e = a.a + 1 + a.b} t a.b h₂ c.put_field-2.ensures (length_digits a.b a.place) refl c.requires)
    ∙ ap (λ (l : List ℕ). over l a.out.now) (append_snoc s 32 t)
