-- `faults::layout::field_at` meets its contract, by the kind. Assumes nothing.
use Prim.Native.Nat.{ℕ}
use mathlib.Core.Path.{ap, ◌∙◌}
use borrow.Author.Tests.{eq-eqb, ne_eqb, lt-ltb, le-ltb}
use Rattle.faults.specs.Sentences.{data_field, field_at}
use Rattle.faults.proofs.layout.field_at.Goals as goal

pub returns-then-o-lt4 : goal.returns-then-o-lt4
unfolding field_at
returns-then-o-lt4 c = simp (eq-eqb _ 84 c.if-kind-eq84.true, lt-ltb _ 4 c.if-o-lt4.true)

pub returns-then-kind-eq84 : goal.returns-then-kind-eq84
unfolding field_at
returns-then-kind-eq84 c = simp (eq-eqb _ 84 c.if-kind-eq84.true, le-ltb _ 4 c.if-o-lt4.false)

pub returns-then-kind-eq90 : goal.returns-then-kind-eq90
unfolding field_at
returns-then-kind-eq90 c = simp (ne_eqb _ 84 c.if-kind-eq84.false, eq-eqb _ 90 c.if-kind-eq90.true) c.stop_field.ensures

pub returns : goal.returns
unfolding field_at
returns c =
    simp (ne_eqb _ 84 c.if-kind-eq84.false, ne_eqb _ 90 c.if-kind-eq90.false) (c.data_field.ensures ∙ ap (λ (n : ℕ). data_field n c.args.o) c.words_of.ensures.0)
