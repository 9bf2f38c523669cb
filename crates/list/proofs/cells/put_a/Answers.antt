-- `list::cells::put_a` meets its contract: its test is that of the definition. Assumes nothing.
use mathlib.Core.List.{List, ◌++◌}
use mathlib.Core.Path.{◌≡◌, refl, sym, ap, ◌∙◌}
use Prim.Native.Nat.{ℕ, ◌+◌}
use native.Mathlib.Omega.{arith}
use borrow.Author.Tests.{eq-eqb, ne_eqb}
use Rattle.rules.specs.Words.{first_digit, a_in}
use Rattle.rules.specs.Bytes.{bytes}
use Rattle.rules.specs.Cards.{digits}
use Rattle.rules.proofs.Digits.{length_digits}
use Rattle.octets.specs.Put.{splice}
use Rattle.octets.proofs.Joins.{put_begin, put_more}
use Rattle.list.specs.Listing.{a_text}
use Rattle.list.proofs.cells.put_a.Goals as goal

pub returns-then-x-eq0 : goal.returns-then-x-eq0
unfolding bytes
returns-then-x-eq0 c =
    let a = c.args in
    let e : a_text a.w ≡ bytes "   " = simp (eq-eqb (first_digit a.w) 0 c.if-x-eq0.true) in
    (put_begin {e = a.a + 5} 5 c.put_run.ensures refl refl (omega (arith, c.requires))).same
    ∙ ap (λ (l : List ℕ). splice a.a (bytes "  " ++ l) a.out.now) (sym e)

pub returns : goal.returns
unfolding bytes
returns c =
    let a = c.args in
    let e : a_text a.w ≡ digits 3 (a_in a.w) = simp (ne_eqb (first_digit a.w) 0 c.if-x-eq0.false) in
    (put_more (digits 3 (a_in a.w)) 3 (put_begin {e = a.a + 2} 2 c.put_run-2.ensures refl refl (omega (arith, c.requires)))
    c.put_field.ensures (length_digits 3 (a_in a.w)) refl (omega (arith, c.requires))).same
    ∙ ap (λ (l : List ℕ). splice a.a (bytes "  " ++ l) a.out.now) (sym e)
