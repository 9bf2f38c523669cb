-- `faults::sentences::of_place` meets its contract: text behind text. Assumes nothing.
use Prim.Native.Nat.{ℕ}
use mathlib.Core.Path.{ap, ◌∙◌}
use Rattle.rules.specs.Bytes.{bytes}
use Rattle.faults.specs.Sentences.{field_at, highest, card_sentence}
use Rattle.faults.specs.declared.layout.Due.TheVariants.{Upto}
use Rattle.faults.proofs.Says.{then_said, adds_as, said_as, digits_there, heads}
use Rattle.faults.proofs.sentences.of_place.Goals as goal

pub returns : goal.returns
unfolding card_sentence bytes
returns c =
    let a = c.args in
    let h = heads a.k (c.field_at.ensures ∙ ap (λ (b : ℕ). field_at b a.o) c.byte_at-kind.ensures) (ap Upto (c.highest_of.ensures ∙ ap highest c.byte_at-kind.ensures)) c.sum.ensures in
    then_said _ _ (then_said _ _ (said_as h c.head.ensures) c.with.ensures)
    (adds_as _ (digits_there a.rest.now a.o c.rest_of-found.ensures c.min.ensures) c.with-2.ensures)
