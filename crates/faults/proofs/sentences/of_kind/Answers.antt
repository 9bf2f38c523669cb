-- `faults::sentences::of_kind` meets its contract: text behind text. Assumes nothing.
use Prim.Native.Nat.{ℕ}
use mathlib.Core.List.{◌++◌}
use mathlib.Core.Path.{ap}
use Rattle.faults.specs.Sentences.{head_of, found, card_sentence}
use Rattle.faults.specs.declared.layout.Field.TheVariants.{Kind}
use Rattle.faults.specs.declared.layout.Due.TheVariants.{Kinds}
use Rattle.faults.proofs.Says.{then_said, said_as}
use Rattle.faults.proofs.sentences.of_kind.Goals as goal

pub returns : goal.returns
unfolding card_sentence
returns c =
    let a = c.args in
    said_as (ap (λ (b : ℕ). head_of a.k Kind Kinds a.place ++ found b) c.byte_at.ensures) (then_said _ _ c.head-line.ensures c.with_found.ensures)
