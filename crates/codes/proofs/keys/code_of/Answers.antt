-- `codes::keys::code_of` meets its contract: its cases are those of the definition. Assumes nothing.
use mathlib.Core.Path.{◌∙◌}
use native.Mathlib.Omega.{arith}
use Rattle.codes.proofs.Keyed.{code_short, code_move, code_long}
use Rattle.codes.proofs.keys.code_of.Goals as goal

pub returns-then-key-lt1000 : goal.returns-then-key-lt1000
returns-then-key-lt1000 c = c.key_of-key.ensures ∙ code_short c.args.w (omega arith)

pub returns-then-key-gt9000 : goal.returns-then-key-gt9000
returns-then-key-gt9000 c = code_move c.args.w (omega arith)

pub returns : goal.returns
returns c = omega (arith, code_long c.args.w (omega arith) (omega arith))
