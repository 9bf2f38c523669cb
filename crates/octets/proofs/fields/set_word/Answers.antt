-- `octets::set_word` meets its contract: the sign stands right in front of the ten digits. Assumes nothing.
use mathlib.Core.List.{List}
use mathlib.Core.Path.{ap, ap₂, ◌∙◌}
use Prim.Native.Nat.{ℕ}
use native.Mathlib.Numerals.{add-one}
use native.Mathlib.Omega.{arith}
use lib.ListN.{set}
use Rattle.rules.specs.Cards.{digits, sign_byte, word_bytes}
use Rattle.rules.proofs.Digits.{length_digits}
use Rattle.octets.specs.Put.{splice}
use Rattle.octets.proofs.Splices.{splice_before}
use Rattle.octets.proofs.fields.set_word.Goals as goal

pub returns : goal.returns
unfolding word_bytes
returns c =
    let a = c.args in
    let d = a.out.now in
    let s = digits 10 a.w in
    ap₂ (λ (l : List ℕ) (b : ℕ). set l a.a b) (c.set_field.ensures ∙ ap (λ (k : ℕ). splice k s d) (add-one a.a)) c.sign_of.ensures
    ∙ splice_before a.a (sign_byte a.w) s d (omega (arith, length_digits 10 a.w, c.requires))
