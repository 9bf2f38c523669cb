-- `list::cells::put_order` meets its contract: each part stands right behind the one before. Assumes nothing.
use mathlib.Core.List.{List, [], ◌∷◌, ◌++◌}
use mathlib.Core.Path.{◌≡◌, refl, ap, ◌∙◌}
use Prim.Native.Nat.{ℕ, ◌+◌, ◌%◌}
use native.Mathlib.Omega.{arith}
use lib.ListN.{length}
use Rattle.rules.specs.Words.{b_in, c_in}
use Rattle.rules.specs.Bytes.{bytes}
use Rattle.rules.specs.Cards.{digits, word_bytes}
use Rattle.rules.specs.Codes.{code_in}
use Rattle.rules.proofs.Digits.{length_digits}
use Rattle.rules.proofs.Fields.{length_word}
use Rattle.octets.specs.Put.{splice}
use Rattle.octets.proofs.Joins.{put_begin, put_more}
use Rattle.codes.proofs.Names.{name_ten}
use Rattle.list.specs.Listing.{name_of, a_text, order_line}
use Rattle.list.proofs.Joins.{put_both}
use Rattle.list.proofs.Lengths.{length_a}
use Rattle.list.proofs.cells.put_order.Goals as goal

pub returns : goal.returns
unfolding order_line bytes
returns c =
    let a = c.args in
    let w = a.w in
    let p = a.a + length a.label.now in
    let front = a.label.now ++ word_bytes w ++ bytes "  " ++ name_of w ++ bytes "  " ++ a_text w in
    let line : ℕ → List ℕ = λ k. front ++ bytes " " ++ digits 3 (b_in w) ++ bytes " " ++ digits 3 k ++ 10 ∷ [] in
    let h₁ = put_begin {p = a.label.now} {e = p} (length a.label.now) c.put_run.ensures refl refl (omega (arith, c.requires)) in
    let h₂ = put_more {e = p + 11} (word_bytes w) 11 h₁ c.put_word.ensures (length_word w) refl (omega (arith, c.requires)) in
    let h₃ =
    put_both {e = p + 23} (bytes "  ") (name_of w) 12
    h₂ c.put_name.ensures (omega (arith, name_ten (code_in w))) (omega arith) (omega (arith, c.requires)) in
    let h₄ =
    put_both {e = p + 28} (bytes "  ") (a_text w) 5
    h₃ c.put_a.ensures (omega (arith, length_a w)) (omega arith) (omega (arith, c.requires)) in
    let h₅ =
    put_both {e = p + 32} (bytes " ") (digits 3 (b_in w)) 4
    h₄ c.put_address.ensures (omega (arith, length_digits 3 (b_in w))) (omega arith) (omega (arith, c.requires)) in
    let v : ℕ = w % 10000000000 % 1000 in
    let h₆ =
    put_both {e = p + 36} (bytes " ") (digits 3 v) 4
    h₅ c.put_address-2.ensures (omega (arith, length_digits 3 v)) (omega arith) (omega (arith, c.requires)) in
    (put_more {e = p + 37} (10 ∷ []) 1 h₆ c.put_byte.ensures refl (omega arith) (omega (arith, c.requires))).same
    ∙ ap (λ (k : ℕ). splice a.a (line k) a.out.now) (let e : v ≡ c_in w = omega arith in e)
