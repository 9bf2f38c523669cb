-- `machine::running::run`: the three entry checks lead each to its refusal, and what passes them is run from the machine that drum and
-- marks show. Assumes nothing.
use Rattle.std.proofs.Common.{Ok}
use mathlib.Core.Path.{◌≡◌, refl, sym, subst, ◌∙◌}
use mathlib.Core.Bool.{true}
use lib.ListN.{length}
use borrow.Author.Tests.{not-true, not-false}
use Rattle.rules.specs.Drum.{view, drum_fits}
use Rattle.rules.specs.Decks.{deck_of}
use Rattle.rules.specs.Running.{ran}
use Rattle.machine.specs.Lent.{call_of, RunRight}
use Rattle.machine.specs.declared.Ran.{Ran}
use Rattle.machine.proofs.Runs.{small_by, run_bad_drum, run_bad_deck, run_bad_state, run_begins, run_right}
use Rattle.machine.proofs.running.run.Goals as goal
use Rattle.machine.proofs.running.run.Goals.{After-check_deck, In-Ok}

-- what the entry checks found of the call
fit_of : (c : After-check_deck) → (let a = c.args in drum_fits (length a.drum.now) a.marks.now (view a.drum.now a.marks.now) ≡ true)
fit_of c = sym c.is_fit.ensures ∙ not-false _ c.if-not-is_fit.false-raw

good_of : (c : In-Ok) → Ok c.in-Ok.start ≡ deck_of c.args.deck.now
good_of c = sym c.in-Ok.is ∙ c.check_deck.ensures

pub returns-then-not-is_fit : goal.returns-then-not-is_fit
returns-then-not-is_fit c =
    let a = c.args in
    let x = call_of a.drum.now a.marks.now a.out.now a.deck.now a.state a.budget a.switches in
    subst (λ (r : Ran). RunRight (ran x) x.drum x.marks x.out r) (sym c.not_run.ensures)
    (run_bad_drum x (sym c.is_fit.ensures ∙ not-true _ c.if-not-is_fit.true-raw))

pub invariant_of-desk : goal.invariant_of-desk
invariant_of-desk c =
    let s = small_by _ _ _ _ _ (sym c.state_fits.ensures ∙ c.if-state_fits.true) in
    record { a_fits = s.0; b_fits = s.1; c_fits = s.2; counter_fits = s.3; problem_fits = s.4 }

pub run_on-requires : goal.run_on-requires
run_on-requires c =
    let a = c.args in
    run_begins (call_of a.drum.now a.marks.now a.out.now a.deck.now a.state a.budget a.switches) (fit_of (goal.at.run_on-requires c).After-check_deck) refl refl

pub returns-then-state_fits : goal.returns-then-state_fits
returns-then-state_fits c =
    let a = c.args in
    run_right (call_of a.drum.now a.marks.now a.out.now a.deck.now a.state a.budget a.switches) (fit_of (goal.at.returns-then-state_fits c).After-check_deck) _
    (good_of (goal.at.returns-then-state_fits c).In-Ok) (sym c.state_fits.ensures ∙ c.if-state_fits.true) c.run_on.ensures

pub returns-in-Err : goal.returns-in-Err
returns-in-Err c =
    let a = c.args in
    let x = call_of a.drum.now a.marks.now a.out.now a.deck.now a.state a.budget a.switches in
    subst (λ (r : Ran). RunRight (ran x) x.drum x.marks x.out r) (sym c.not_run-in-Err.ensures)
    (run_bad_deck x (fit_of (goal.at.returns-in-Err c).After-check_deck) c.in-Err.f (sym c.in-Err.is ∙ c.check_deck.ensures))

pub returns-else-state_fits : goal.returns-else-state_fits
returns-else-state_fits c =
    let a = c.args in
    let x = call_of a.drum.now a.marks.now a.out.now a.deck.now a.state a.budget a.switches in
    subst (λ (r : Ran). RunRight (ran x) x.drum x.marks x.out r) (sym c.not_run-else-state_fits.ensures)
    (run_bad_state x (fit_of (goal.at.returns-else-state_fits c).After-check_deck) _ (good_of (goal.at.returns-else-state_fits c).In-Ok) (sym c.state_fits.ensures ∙ c.if-state_fits.false))
