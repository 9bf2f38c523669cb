-- `machine::loading::load`: a refused call has changed nothing yet; else the cards are stored over the view of the drum, and then cell 000.
-- Assumes nothing.
use mathlib.Core.Path.{sym, ◌∙◌}
use borrow.Author.Tests.{not-true, not-false}
use Rattle.machine.proofs.Loads.{load_bad_drum, load_bad_deck, load_done}
use Rattle.machine.proofs.loading.load.Goals as goal

pub returns-then-not-is_fit : goal.returns-then-not-is_fit
returns-then-not-is_fit c =
    let a = c.args in
    load_bad_drum (record { drum = a.drum.now; marks = a.marks.now; deck = a.deck.now; state = a.state; traced = a.traced })
    (sym c.is_fit.ensures ∙ not-true _ c.if-not-is_fit.true-raw)

pub returns-in-Err : goal.returns-in-Err
returns-in-Err c =
    let a = c.args in
    load_bad_deck (record { drum = a.drum.now; marks = a.marks.now; deck = a.deck.now; state = a.state; traced = a.traced })
    (sym c.is_fit.ensures ∙ not-false _ c.if-not-is_fit.false-raw) c.in-Err.f (sym c.check_deck.ensures ∙ c.in-Err.is)

pub returns-in-Ok : goal.returns-in-Ok
returns-in-Ok c =
    let a = c.args in
    load_done (record { drum = a.drum.now; marks = a.marks.now; deck = a.deck.now; state = a.state; traced = a.traced })
    (sym c.is_fit.ensures ∙ not-false _ c.if-not-is_fit.false-raw) (sym c.check_deck.ensures ∙ c.in-Ok.is)
    c.store_cards.ensures c.keep.ensures c.begin.ensures
