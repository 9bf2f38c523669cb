-- `list::ends::last_line` meets its contract, by what is wrong. Assumes nothing.
use mathlib.Core.Path.{refl, sym, ap, ◌∙◌}
use Rattle.faults.proofs.Says.{card_lines}
use Rattle.list.specs.Listing.{last_by, last_line}
use Rattle.list.proofs.ends.last_line.Goals as goal

pub returns-in-Bad : goal.returns-in-Bad
unfolding last_line
returns-in-Bad c =
    let a = c.args in
    c.of_card.ensures ∙ card_lines _ _ c.sum.ensures refl refl ∙ ap (last_by a.seen a.place a.rest.now) (sym c.in-Bad.is ∙ c.wrong_met.ensures)

pub returns-in-Data : goal.returns-in-Data
unfolding last_line
returns-in-Data c =
    let a = c.args in
    c.end_line.ensures ∙ ap (last_by a.seen a.place a.rest.now) (sym c.in-Data.is ∙ c.wrong_met.ensures)

pub returns-in-First : goal.returns-in-First
unfolding last_line
returns-in-First c =
    let a = c.args in
    c.end_line-in-First.ensures ∙ ap (last_by a.seen a.place a.rest.now) (sym c.in-First.is ∙ c.wrong_met.ensures)

pub returns-in-End : goal.returns-in-End
unfolding last_line
returns-in-End c =
    let a = c.args in
    c.end_line-in-End.ensures ∙ ap (last_by a.seen a.place a.rest.now) (sym c.in-End.is ∙ c.wrong_met.ensures)
