-- `codes::rows::look_up` meets its contract: what the first row with a code is, is what the rules find. Assumes nothing.
use Prim.Native.Nat.{ℕ}
use mathlib.Core.Path.{ap, ◌∙◌}
use native.Mathlib.Omega.{arith}
use Rattle.rules.specs.Codes.{codes}
use Rattle.codes.specs.Rows.{row_built}
use Rattle.codes.proofs.Found.{found, no_row}
use Rattle.codes.proofs.rows.look_up.Goals as goal

pub returns-then-i-lt40 : goal.returns-then-i-lt40
returns-then-i-lt40 c =
    c.row_at-row.ensures.1 ∙ ap (λ (n : ℕ). row_built n codes) c.row_of-i.ensures.0 ∙ found c.args.code codes

pub returns : goal.returns
returns c =
    no_row c.row_of-i.result (omega arith) ∙ ap (λ (n : ℕ). row_built n codes) c.row_of-i.ensures.0 ∙ found c.args.code codes
