-- `card::all_words` meets its contract: each number is tested by its place in the order of the words. Assumes nothing.
use mathlib.Core.Path.{◌∙◌}
use Rattle.std.proofs.Common.{rules, tests}
use Rattle.std.proofs.lemmas.Iterator.{YieldsList-from_slice}
use Rattle.std.proofs.lemmas.Iterator.Search.{all_from_yields_List}
use Rattle.rules.specs.Words.{is_word}
use Rattle.card.proofs.Writes.{words_listed}
use Rattle.card.proofs.ranges.all_words.Goals as goal

pub returns : goal.returns
returns c =
    all_from_yields_List is_word c.all.new.self _ _ c.all.ensures.ran (YieldsList-from_slice c.args.words.now cc) (λ x b q k. search (rules, tests))
    ∙ words_listed c.args.words.now
