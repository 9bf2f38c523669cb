-- `codes::rows::row_of` meets its contract: at each row what is left of the table has the answer of the whole. Assumes nothing.
use mathlib.Core.Path.{◌≡◌, sym, ◌∙◌}
use native.Mathlib.Omega.{arith}
use Rattle.codes.proofs.Found.{search_begin, search_found, search_more, search_end}
use Rattle.codes.proofs.rows.row_of.Goals as goal

pub loop-i-init : goal.loop-i-init
loop-i-init c = search_begin _

pub returns-then-code_at-code : goal.returns-then-code_at-code
returns-then-code_at-code c =
    (search_found _ _ c.loop-i.invariant (omega arith) (sym c.code_at.ensures ∙ c.if-code_at-code.true), omega arith)

pub loop-i-preserved : goal.loop-i-preserved
loop-i-preserved c = search_more _ _ c.loop-i.invariant (omega arith) (λ e. c.if-code_at-code.false (c.code_at.ensures ∙ e))

pub returns : goal.returns
returns c =
    let e : 40 ≡ c.loop-i.i = omega (arith, c.loop-i.invariant.upto) in
    (e ∙ search_end _ _ c.loop-i.invariant (omega arith), omega arith)
