-- `with_byte` of `faults::Line` meets its contract: its tests are those of the definition. Assumes nothing.
use mathlib.Core.Path.{◌≡◌, sym, ap, ◌∙◌}
use mathlib.Core.Bool.{true, false}
use borrow.Author.Tests.{ne_eqb}
use Rattle.rules.specs.Bytes.{bytes}
use Rattle.faults.specs.Sentences.{is_mark, byte_name}
use Rattle.faults.proofs.Says.{adds_as}
use Rattle.faults.proofs.lines.Line.with_byte.Goals as goal

pub returns-then-b-eq43 : goal.returns-then-b-eq43
unfolding byte_name bytes
returns-then-b-eq43 c = adds_as c.args.self (sym (ap byte_name c.if-b-eq43.true)) c.with.ensures

pub returns-then-b-eq45 : goal.returns-then-b-eq45
unfolding byte_name bytes
returns-then-b-eq45 c = adds_as c.args.self (sym (ap byte_name c.if-b-eq45.true)) c.with-then-b-eq45.ensures

pub returns-then-is_digit : goal.returns-then-is_digit
unfolding byte_name bytes
returns-then-is_digit c =
    let b = c.args.b in
    adds_as c.args.self (sym (simp (ne_eqb b 43 c.if-b-eq43.false, ne_eqb b 45 c.if-b-eq45.false, sym c.is_digit.ensures ∙ c.if-is_digit.true))) c.with_seen.ensures

pub returns-then-is_letter : goal.returns-then-is_letter
unfolding byte_name bytes
returns-then-is_letter c =
    let b = c.args.b in
    adds_as c.args.self (sym (simp (ne_eqb b 43 c.if-b-eq43.false, ne_eqb b 45 c.if-b-eq45.false, sym c.is_digit.ensures ∙ c.if-is_digit.false, sym c.is_letter.ensures ∙ c.if-is_letter.true))) c.with_seen-then-is_letter.ensures

pub returns-then-is_ascii_graphic : goal.returns-then-is_ascii_graphic
unfolding byte_name bytes
returns-then-is_ascii_graphic c =
    let b = c.args.b in
    let seen : is_mark b ≡ true = sym c.is_ascii_graphic.ensures.value ∙ c.if-is_ascii_graphic.true in
    adds_as c.args.self (sym (simp (ne_eqb b 43 c.if-b-eq43.false, ne_eqb b 45 c.if-b-eq45.false, sym c.is_digit.ensures ∙ c.if-is_digit.false, sym c.is_letter.ensures ∙ c.if-is_letter.false, seen))) c.with_seen-then-is_ascii_graphic.ensures

pub returns : goal.returns
unfolding byte_name
returns c =
    let b = c.args.b in
    let seen : is_mark b ≡ false = sym c.is_ascii_graphic.ensures.value ∙ c.if-is_ascii_graphic.false in
    adds_as c.args.self (sym (simp (ne_eqb b 43 c.if-b-eq43.false, ne_eqb b 45 c.if-b-eq45.false, sym c.is_digit.ensures ∙ c.if-is_digit.false, sym c.is_letter.ensures ∙ c.if-is_letter.false, seen))) c.with_blank.ensures
