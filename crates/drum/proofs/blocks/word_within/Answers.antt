-- `drum::blocks::word_within`: past the largest address there is nothing to show. Assumes nothing.
use Prim.Native.Nat.{◌+◌}
use mathlib.Core.Path.{ap, ◌∙◌}
use native.Mathlib.Omega.{arith}
use borrow.Author.Tests.{lt-ltb}
use Rattle.rules.specs.Drum.{view, word_at}
use Rattle.drum.proofs.Runs.{shown_past}
use Rattle.drum.proofs.blocks.word_within.Goals as goal

pub returns : goal.returns
returns c =
    let drum = c.args.drum.now in
    let marks = c.args.marks.now in
    simp (lt-ltb _ _ c.if-n-i.false)
    (c.word.ensures ∙ ap (word_at (view drum marks)) c.saturating_add.ensures
    ∙ shown_past drum marks (c.args.b + c.args.i) 18446744073709551615 (omega arith))
