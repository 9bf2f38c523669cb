-- `machine::telling::trace_words` meets its contract: word by word. Assumes nothing.
use mathlib.Core.Path.{ap, ◌∙◌}
use mathlib.Core.List.{[], ◌∷◌}
use Rattle.rules.specs.Drum.{view, word_at}
use Rattle.machine.proofs.telling.trace_words.Goals as goal

pub returns : goal.returns
returns c =
    let a = c.args in
    let e = c.word-of_b.ensures ∙ ap (word_at (view a.drum.now a.marks.now)) c.parts_of-b.ensures.b_is in
    λ i. a.w ∷ a.x ∷ c.box_word-y.ensures.0 i ∷ c.word_of_a-of_a.ensures i ∷ e i ∷ c.word-previous.ensures i ∷ []
