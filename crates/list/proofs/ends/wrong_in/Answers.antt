-- `list::ends::wrong_in` meets its contract, by the kind. Assumes nothing.
use mathlib.Core.Path.{sym, ap, ◌∙◌}
use borrow.Author.Tests.{eq-eqb, ne_eqb, lt-ltb, le-ltb}
use Rattle.rules.specs.declared.Fault.TheVariants.{BadByte}
use Rattle.rules.specs.declared.Card.TheVariants.{Bad}
use Rattle.list.specs.Listing.{wrong_in}
use Rattle.list.proofs.ends.wrong_in.Goals as goal

pub returns-then-rest-lt77 : goal.returns-then-rest-lt77
unfolding wrong_in
returns-then-rest-lt77 c =
    simp (eq-eqb _ 88 (sym c.byte_at-kind.ensures ∙ c.if-kind-eq88.true), lt-ltb _ 77 c.if-rest-lt77.true)

pub returns-then-kind-eq88 : goal.returns-then-kind-eq88
unfolding wrong_in
returns-then-kind-eq88 c =
    simp (eq-eqb _ 88 (sym c.byte_at-kind.ensures ∙ c.if-kind-eq88.true), le-ltb _ 77 c.if-rest-lt77.false) (ap (Bad BadByte) c.first_bad.ensures)

pub returns-then-rest-lt24 : goal.returns-then-rest-lt24
unfolding wrong_in
returns-then-rest-lt24 c =
    let e = c.byte_at-kind.ensures in
    simp (ne_eqb _ 88 (λ z. c.if-kind-eq88.false (e ∙ z)), eq-eqb _ 90 (sym e ∙ c.if-kind-eq90.true), lt-ltb _ 24 c.if-rest-lt24.true)

pub returns-then-kind-eq90 : goal.returns-then-kind-eq90
unfolding wrong_in
returns-then-kind-eq90 c =
    let e = c.byte_at-kind.ensures in
    simp (ne_eqb _ 88 (λ z. c.if-kind-eq88.false (e ∙ z)), eq-eqb _ 90 (sym e ∙ c.if-kind-eq90.true), le-ltb _ 24 c.if-rest-lt24.false) (ap (Bad BadByte) c.stop_bad.ensures)

pub returns : goal.returns
unfolding wrong_in
returns c =
    let e = c.byte_at-kind.ensures in
    simp (ne_eqb _ 88 (λ z. c.if-kind-eq88.false (e ∙ z)), ne_eqb _ 90 (λ z. c.if-kind-eq90.false (e ∙ z))) c.read_card.ensures
