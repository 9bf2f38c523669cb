-- `codes::rows::name_of` meets its contract: the name of the first row with a code, or the dash behind the last. Assumes nothing.
use Prim.Native.Nat.{ℕ}
use mathlib.Core.Path.{◌≡◌, sym, ap, ◌∙◌}
use native.Mathlib.Omega.{arith}
use Rattle.rules.specs.Bytes.{bytes}
use Rattle.rules.specs.Codes.{codes}
use Rattle.codes.specs.Rows.{name_at}
use Rattle.codes.proofs.Found.{named}
use Rattle.codes.proofs.rows.name_of.Goals as goal

-- behind the last row
dash : (n : ℕ) → n ≡ 40 → bytes "-         " ≡ name_at n codes
unfolding codes
dash n e = ap (λ (i : ℕ). name_at i codes) (sym e)

pub returns-then-i-lt40 : goal.returns-then-i-lt40
returns-then-i-lt40 c =
    c.row_at.ensures.2 ∙ ap (λ (n : ℕ). name_at n codes) c.row_of-i.ensures.0 ∙ named c.args.code codes

pub returns : goal.returns
unfolding bytes
returns c =
    dash c.row_of-i.result (omega arith) ∙ ap (λ (n : ℕ). name_at n codes) c.row_of-i.ensures.0 ∙ named c.args.code codes
