-- `list::marked::size_of`: the cell is unmarked, there is no such address or word, or the line is whole. Assumes nothing.
use Rattle.rules.specs.Answers.{Cell}
use mathlib.Core.Path.{sym, ap, ◌∙◌}
use lib.ListN.{length}
use Rattle.list.specs.Marked.{line_of}
use Rattle.list.proofs.CellLines.{no_address, no_word, whole_line}
use Rattle.list.proofs.marked.size_of.Goals as goal

pub returns-then-address-gt999 : goal.returns-then-address-gt999
returns-then-address-gt999 c =
    let a = c.args.address in
    sym (ap (λ (x : Cell). length (line_of a x)) c.in-Some.is ∙ ap length (no_address a _ c.if-address-gt999.true))

pub returns-then-w-gt19999999999 : goal.returns-then-w-gt19999999999
returns-then-w-gt19999999999 c =
    let a = c.args.address in
    sym (ap (λ (x : Cell). length (line_of a x)) c.in-Some.is ∙ ap length (no_word a _ c.if-address-gt999.false c.if-w-gt19999999999.true))

pub returns : goal.returns
returns c =
    let a = c.args.address in
    sym (ap (λ (x : Cell). length (line_of a x)) c.in-Some.is ∙ whole_line a _ c.if-address-gt999.false c.if-w-gt19999999999.false)
