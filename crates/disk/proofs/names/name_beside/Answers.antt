-- `disk::names::name_beside` meets its contract: the path, and the mark behind it. Assumes nothing.
use Prim.Native.Nat.{ℕ}
use mathlib.Core.Path.{ap₂, ◌∙◌}
use mathlib.Core.List.{List}
use Rattle.rules.specs.Bytes.{bytes}
use Rattle.says.proofs.Counted.{counts}
use Rattle.disk.specs.Names.{with_part, behind_part, new_mark}
use Rattle.disk.proofs.names.name_beside.Goals as goal

pub returns : goal.returns
unfolding bytes
returns c =
    let p = c.put-at.ensures.put in
    let m = c.put.ensures in
    record { named = (m.put.0 ∙ ap₂ (λ (x : List ℕ) (k : ℕ). behind_part x k new_mark) p.1 p.0, m.put.1 ∙ ap₂ (λ (x : List ℕ) (k : ℕ). with_part x k new_mark) p.1 p.0); within = counts _ _ m.within }
