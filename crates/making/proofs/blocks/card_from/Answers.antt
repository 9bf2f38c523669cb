-- `making::card_from` meets its contract: what the chain gives is the start of a range, as far as its cells are marked. Assumes nothing.
use Rattle.std.proofs.Common.{rules, tests, ◌+◌}
use mathlib.Core.Path.{◌∙◌}
use native.Mathlib.Omega.{arith}
use Rattle.std.specs.List.{range_with_len}
use Rattle.std.proofs.lemmas.Iterator.{YieldsList-from_range}
use Rattle.std.proofs.lemmas.Iterator.Consumers.{count_from_yields_List}
use Rattle.std.proofs.lemmas.Iterator.Search.{YieldsList-from_take_while}
use Rattle.std.proofs.lemmas.List.Folds.{length-prefix_len}
use Rattle.rules.specs.Drum.{view}
use Rattle.rules.specs.Codes.{owned_at}
use Rattle.making.proofs.Left.{as_prefix}
use Rattle.making.proofs.blocks.card_from.Goals as goal

pub returns-clause-size : goal.returns-clause-size
returns-clause-size c =
    let v = view c.args.drum.now c.args.marks.now in
    let a = c.args.a in
    count_from_yields_List c.take_while.result _ c.count.ensures.ran
    (YieldsList-from_take_while _ (owned_at v) (YieldsList-from_range a (a + 5) 5 (cc) (omega arith)) c.take_while.ensures.closure
    c.take_while.ensures.done (λ x b q k. search (rules, tests)))
    ∙ length-prefix_len (owned_at v) (range_with_len a 5) ∙ as_prefix v a 5
