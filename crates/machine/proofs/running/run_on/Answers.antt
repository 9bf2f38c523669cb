use Rattle.std.proofs.Common.{Ok}
use Prim.Native.Nat.{ℕ, ◌+◌, ◌-◌, ◌≤◌}
use mathlib.Core.Path.{◌≡◌, refl, sym, ap, subst, ◌∙◌}
use mathlib.Core.List.{List}
use native.Mathlib.Omega.{arith}
use lib.Dec.{eqb}
use lib.ListN.{length}
use borrow.Author.Tests.{not-true, not-false}
use Rattle.rules.specs.Numbers.{may_go_on, completed}
use Rattle.rules.specs.Machine.{Machine, Inputs, present}
use Rattle.rules.specs.Running.{Course, step, run_from, begun}
use Rattle.rules.specs.declared.State.{State}
use Rattle.rules.specs.declared.Switches.{Switches}
use Rattle.rules.specs.declared.Done.TheVariants.{GoesOn}
use Rattle.codes.specs.Slots.{Indexed}
use Rattle.drum.proofs.Cells.{drum_long, marks_long}
use Rattle.machine.specs.Lent.{Ended, Did, call_of}
use Rattle.machine.proofs.Sent.{out_long}
use Rattle.machine.proofs.Modes.{mode_kept}
use Rattle.machine.proofs.Runs.{run_more, run_end, run_out, at_most_one, ended_as_lem}
use Rattle.machine.proofs.running.run_on.Goals as goal
use Rattle.machine.proofs.running.run_on.Goals.{After-step-o}

same_budget : (n : ℕ) (i : Inputs) (m : Machine) → run_from i (n - 0) m 0 ≡ run_from i n m 0
same_budget n i m = let e : n - 0 ≡ n = omega arith in ap (λ (k : ℕ). run_from i k m 0) e

-- what the run is lent, and what a turn did to the machine before it
abbrev lent : List ℕ → List ℕ → Switches → Inputs
lent deck out switches = record { deck = deck; room = length out; switches = switches; requests = present }

did : (c : After-step-o)
    → (let a = c.args in
    let before = c.loop-count.invariant.1.0 in
    Did a.drum.now a.out.now c.step-o.new.drum c.step-o.new.marks c.step-o.new.out c.step-o.new.desk c.step-o.result
    (step (lent a.deck.now a.out.now a.switches) before))
did c =
    let a = c.args in
    c.step-o.ensures (lent a.deck.now a.out.now a.switches) (record { deck_is = refl; switches_are = refl; requests_are = refl }) _ _
    c.loop-count.invariant.1.0 refl c.loop-count.invariant.1.1

pub loop-count-init : goal.loop-count-init
loop-count-init c =
    let a = c.args in (
      c.index-index.ensures,
      (
        begun (call_of a.drum.now a.marks.now a.out.now a.deck.now a.desk.now.state a.budget a.switches),
        c.requires,
        omega arith,
        same_budget a.budget _ _,
      ),
    )

pub step-o-requires : goal.step-o-requires
step-o-requires c =
    let v = c.loop-count.invariant in
    record { shown = record { old_drum = _; old_out = _; machine = v.1.0; shows = v.1.1 }; indexed = v.0 }

pub loop-count-preserved : goal.loop-count-preserved
loop-count-preserved c =
    let i = lent c.args.deck.now c.args.out.now c.args.switches in
    let d = did (goal.at.loop-count-preserved c).After-step-o in
    let v = c.loop-count.invariant in
    let m = v.1.0 in (
      subst (λ (n : ℕ). Indexed (eqb n 1) c.index-index.result) (sym (ap (λ (s : State). s.mode) d.shows.state_is ∙ mode_kept i m ∙ sym (ap (λ (s : State). s.mode) v.1.1.state_is))) v.0,
      (
        (step i m).machine,
        d.shows,
        omega (arith, c.loop-count-test.true),
        run_more i _ c.loop-count.count m c.loop-count-test.true (ap may_go_on (sym d.outcome_is) ∙ sym c.may_go_on.ensures ∙ not-false _ c.if-not-may_go_on.false-raw) ∙ v.1.3,
      ),
    )

pub overflow_add-count : goal.overflow_add-count
overflow_add-count c =
    let one : c.completed_by.result ≤ 1 = rw c.completed_by.ensures (at_most_one c.step-o.result) in
    omega (arith, one, c.loop-count-test.true, c.ranges.budget.fits)

pub returns-then-not-may_go_on : goal.returns-then-not-may_go_on
returns-then-not-may_go_on c =
    let i = lent c.args.deck.now c.args.out.now c.args.switches in
    let at = c.loop-count in
    let d = did (goal.at.returns-then-not-may_go_on c).After-step-o in
    let y = step i at.invariant.1.0 in
    let x : Course = record { outcome = y.outcome; machine = y.machine; count = at.count + completed y.outcome } in
    subst (λ (y : Course). Ended c.args.drum.now c.args.out.now c.step-o.new.drum c.step-o.new.marks c.step-o.new.out c.ended.result y) (sym (sym at.invariant.1.3 ∙ run_end i _ at.count at.invariant.1.0 c.loop-count-test.true (ap may_go_on (sym d.outcome_is) ∙ sym c.may_go_on.ensures ∙ not-true _ c.if-not-may_go_on.true-raw)))
    (rw c.ended.ensures (ended_as_lem x c.step-o.result d.shows d.outcome_is (ap (λ (k : ℕ). at.count + k) (c.completed_by.ensures ∙ ap completed d.outcome_is))))

pub shape_of-drum : goal.shape_of-drum
shape_of-drum c = drum_long c.loop-count.invariant.1.1.memory ∙ sym (drum_long c.requires.memory)

pub shape_of-marks : goal.shape_of-marks
shape_of-marks c = marks_long c.loop-count.invariant.1.1.memory ∙ sym (marks_long c.requires.memory)

pub shape_of-out : goal.shape_of-out
shape_of-out c = out_long c.loop-count.invariant.1.1.output

pub returns : goal.returns
returns c =
    let i = lent c.args.deck.now c.args.out.now c.args.switches in
    let at = c.loop-count in
    let x : Course = record { outcome = Ok GoesOn; machine = at.invariant.1.0; count = at.count } in
    subst (λ (y : Course). Ended c.args.drum.now c.args.out.now c.loop-count.drum c.loop-count.marks c.loop-count.out c.ended-2.result y) (sym (sym at.invariant.1.3 ∙ run_out i _ at.count at.invariant.1.0 c.loop-count-test.false))
    (rw c.ended-2.ensures (ended_as_lem x (Ok GoesOn) at.invariant.1.1 refl (omega (arith, c.loop-count-test.false, at.invariant.1.2))))
