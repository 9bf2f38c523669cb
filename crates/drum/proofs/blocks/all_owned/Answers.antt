-- `drum::blocks::all_owned`: the cells are those of a range; where its end is no number they end past the drum. Assumes nothing.
use mathlib.Core.Path.{refl, ◌∙◌}
use native.Mathlib.Omega.{arith}
use Rattle.std.proofs.Common.{rules, tests}
use Rattle.std.proofs.lemmas.Iterator.{YieldsList-from_range}
use Rattle.std.proofs.lemmas.Iterator.Search.{all_from_yields_List}
use Rattle.rules.specs.Drum.{view}
use Rattle.rules.specs.Codes.{owned_at}
use Rattle.drum.proofs.Runs.{owned_in_range, owned_past}
use Rattle.drum.proofs.blocks.all_owned.Goals as goal

pub returns-in_default : goal.returns-in_default
returns-in_default c =
    let l = c.in_default.ensures in
    owned_past c.args.drum.now c.args.marks.now c.args.b c.args.n (omega arith) (omega arith)

pub returns : goal.returns
returns c =
    let e = c.in-Some.ensures in
    all_from_yields_List (owned_at (view c.args.drum.now c.args.marks.now)) _ _ _ c.all.ensures.ran
    (YieldsList-from_range c.args.b c.in-Some.end c.args.n refl (omega (arith, e.1))) (λ x b q k. search (rules, tests))
    ∙ owned_in_range (view c.args.drum.now c.args.marks.now) c.args.n c.args.b
