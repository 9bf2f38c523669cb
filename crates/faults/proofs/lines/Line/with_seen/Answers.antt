-- `with_seen` of `faults::Line` meets its contract: the byte stands right behind the text. Assumes nothing.
use mathlib.Core.List.{[], ◌∷◌}
use Rattle.faults.proofs.Says.{adds_two}
use Rattle.faults.proofs.lines.Line.with_seen.Goals as goal

pub returns : goal.returns
returns c = adds_two c.args.self c.args.text.now (c.args.b ∷ []) c.with.ensures c.with-2.ensures
