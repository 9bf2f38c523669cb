-- `faults::layout::due_at` meets its contract, by the kind. Assumes nothing.
use Prim.Native.Nat.{ℕ}
use mathlib.Core.Path.{sym, ap, ◌∙◌}
use borrow.Author.Tests.{eq-eqb, ne_eqb}
use Rattle.rules.specs.Cards.{sign_due}
use Rattle.faults.specs.Sentences.{due_at}
use Rattle.faults.proofs.layout.due_at.Goals as goal

pub returns-then-o-eq13 : goal.returns-then-o-eq13
unfolding due_at
returns-then-o-eq13 c = simp (eq-eqb _ 90 c.if-kind-eq90.true, eq-eqb _ 13 c.if-o-eq13.true)

pub returns-then-kind-eq90 : goal.returns-then-kind-eq90
unfolding due_at
returns-then-kind-eq90 c = simp (eq-eqb _ 90 c.if-kind-eq90.true, ne_eqb _ 13 c.if-o-eq13.false)

pub returns-then-sign_due : goal.returns-then-sign_due
unfolding due_at
returns-then-sign_due c =
    let e = ap (λ (n : ℕ). sign_due n c.args.o) (sym c.words_of.ensures.0) ∙ sym c.sign_due.ensures ∙ c.if-sign_due.true in
    simp (ne_eqb _ 90 c.if-kind-eq90.false, e)

pub returns : goal.returns
unfolding due_at
returns c =
    let e = ap (λ (n : ℕ). sign_due n c.args.o) (sym c.words_of.ensures.0) ∙ sym c.sign_due.ensures ∙ c.if-sign_due.false in
    simp (ne_eqb _ 90 c.if-kind-eq90.false, e)
