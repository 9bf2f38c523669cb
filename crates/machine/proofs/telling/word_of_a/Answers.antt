-- `machine::telling::word_of_a` meets its contract: O1 is 0 where the key is below 1000. Assumes nothing.
use mathlib.Core.Path.{ap, ◌∙◌}
use native.Mathlib.Omega.{arith}
use borrow.Author.Tests.{lt-ltb, le-ltb}
use Rattle.rules.specs.Words.{a_in, first_digit}
use Rattle.rules.specs.Drum.{view, word_at}
use Rattle.machine.proofs.telling.word_of_a.Goals as goal
use Rattle.machine.proofs.telling.word_of_a.Goals.{then-key-lt1000-via-then-key-lt1000, then-key-lt1000-via-else-key-lt1000+then-a-eq0}

pub returns-then-key-lt1000 : goal.returns-then-key-lt1000
returns-then-key-lt1000 c =
    elim c.then-key-lt1000.branch [
      | then-key-lt1000-via-then-key-lt1000 w ↦ let q = w.if-key-lt1000.true in simp (le-ltb 0 (first_digit c.args.x) (omega (arith, q)))
      | then-key-lt1000-via-else-key-lt1000+then-a-eq0 w ↦
          let q = w.if-key-lt1000.false in
          let r = w.if-a-eq0.true in
          simp (lt-ltb 0 (first_digit c.args.x) (omega (arith, q)), le-ltb 0 (a_in c.args.x) (omega (arith, q, r)))
    ]

pub returns : goal.returns
returns c =
    simp (lt-ltb 0 (first_digit c.args.x) (omega arith), lt-ltb 0 (a_in c.args.x) (omega arith)) (c.word.ensures ∙ ap (word_at (view c.args.drum.now c.args.marks.now)) (omega arith))
