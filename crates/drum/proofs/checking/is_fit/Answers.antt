-- `drum::checking::is_fit`: a wrong length fails whatever the cells; then all cells are tested, each with its mark. Assumes nothing.
use mathlib.Core.Path.{◌∙◌}
use Rattle.std.proofs.Common.{rules, tests, inl, inr}
use Rattle.std.proofs.lemmas.Iterator.{YieldsList-from_slice, YieldsList-from_zip}
use Rattle.std.proofs.lemmas.Iterator.Search.{all_from_yields_List}
use Rattle.drum.proofs.FitDrum.{fits, short_drum, short_marks, long_enough}
use Rattle.drum.proofs.checking.is_fit.Goals as goal

pub returns-then-drum-ne1000 : goal.returns-then-drum-ne1000
returns-then-drum-ne1000 c = elim c.then-drum-ne1000.either [
  | inl n ↦ short_drum c.args.drum.now c.args.marks.now n
  | inr n ↦ short_marks c.args.drum.now c.args.marks.now n.0 n.1
]

pub returns : goal.returns
returns c =
    all_from_yields_List fits c.all.new.self _ _ c.all.ensures.ran
    (YieldsList-from_zip (YieldsList-from_slice c.args.marks.now cc) (YieldsList-from_slice c.args.drum.now cc)) (λ x b q k. search (rules, tests))
    ∙ long_enough c.args.drum.now c.args.marks.now c.if-drum-ne1000.false c.if-marks-ne1000.false
