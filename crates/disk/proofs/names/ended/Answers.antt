-- `disk::names::ended` meets its contract. Assumes nothing.
use mathlib.Core.Path.{ap, ◌∙◌}
use mathlib.Core.List.{List}
use Prim.Native.Nat.{ℕ}
use lib.ListN.{set}
use Rattle.disk.specs.Names.{with_part}
use borrow.Author.Rules.{rules}
use Rattle.disk.proofs.names.ended.Goals as goal

pub returns : goal.returns
returns c =
    let p = c.args.path.now in
    record { bytes = ap (λ (l : List ℕ). set l 4095 0) (c.put.ensures.put.1 ∙ ap (λ (l : List ℕ). with_part l 0 p) c.room-name.ensures.zeros); ended = search rules }
