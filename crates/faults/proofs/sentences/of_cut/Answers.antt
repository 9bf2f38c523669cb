-- `faults::sentences::of_cut` meets its contract: text behind text. Assumes nothing.
use Prim.Native.Nat.{ℕ}
use mathlib.Core.Path.{ap, ◌∙◌}
use lib.ListN.{length}
use Rattle.rules.specs.Bytes.{bytes}
use Rattle.faults.specs.Sentences.{field_at, due_at, card_sentence}
use Rattle.faults.proofs.Says.{then_said, said_as, heads}
use Rattle.faults.proofs.sentences.of_cut.Goals as goal

pub returns : goal.returns
unfolding card_sentence bytes
returns c =
    let a = c.args in
    let n = length a.rest.now in
    let h = heads a.k (c.field_at.ensures ∙ ap (λ (b : ℕ). field_at b n) c.byte_at-kind.ensures) (c.due_at.ensures ∙ ap (λ (b : ℕ). due_at b n) c.byte_at-kind.ensures) c.sum.ensures in
    then_said _ _ (then_said _ _ (said_as h c.head.ensures) c.with.ensures) c.with_number.ensures
