-- `faults::sentences::of_byte` meets its contract: text behind text. Assumes nothing.
use Prim.Native.Nat.{ℕ}
use mathlib.Core.List.{◌++◌}
use mathlib.Core.Path.{ap₂, ap, ◌∙◌}
use Rattle.faults.specs.Sentences.{field_at, due_at, found, card_sentence}
use Rattle.faults.proofs.Says.{then_said, said_as, heads}
use Rattle.faults.proofs.sentences.of_byte.Goals as goal

pub returns : goal.returns
unfolding card_sentence
returns c =
    let a = c.args in
    let h = heads a.k (c.field_at.ensures ∙ ap (λ (b : ℕ). field_at b a.o) c.byte_at-kind.ensures) (c.due_at.ensures ∙ ap (λ (b : ℕ). due_at b a.o) c.byte_at-kind.ensures) c.sum.ensures in
    said_as (ap₂ ◌++◌ h (ap found c.byte_at.ensures)) (then_said _ _ c.head-line.ensures c.with_found.ensures)
