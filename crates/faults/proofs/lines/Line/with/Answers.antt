-- `with` of `faults::Line` meets its contract: what is copied is what there is room for. Assumes nothing.
use mathlib.Core.Path.{ap, ◌∙◌}
use mathlib.Core.List.{List, ◌++◌}
use Prim.Native.Nat.{ℕ}
use Rattle.faults.specs.Lines.{as_far}
use Rattle.faults.proofs.Says.{kept_more, text_more}
use Rattle.faults.proofs.lines.Line.with.Goals as goal

pub returns : goal.returns
returns c =
    text_more c.self.invariant c.args.text.now c.copy.ensures c.min.ensures ∙ ap (λ (s : List ℕ). as_far (s ++ c.args.text.now)) c.self.view_is

pub invariant_of-result : goal.invariant_of-result
invariant_of-result c = kept_more c.self.invariant c.args.text.now c.copy.ensures c.min.ensures
