-- `machine::obeying::step`: each way out of the code is the way that the rules take at the same tests. Assumes nothing.
use Rattle.std.proofs.Common.{Some}
use Prim.Native.Nat.{ℕ, ◌≤◌}
use mathlib.Core.Path.{◌≡◌, sym, subst, ◌∙◌}
use mathlib.Core.Bool.{true}
use native.Mathlib.Omega.{arith}
use lib.Dec.{eqb}
use borrow.Author.Tests.{not-true, not-false}
use Rattle.rules.specs.Drum.{view, cell_at, shown}
use Rattle.rules.specs.Machine.{Answer}
use Rattle.rules.specs.Running.{order_fits}
use Rattle.rules.specs.Answers.{Cell, Checked}
use Rattle.rules.specs.declared.Refusal.TheVariants.{Unmarked}
use Rattle.codes.specs.Slots.{Indexed}
use Rattle.machine.specs.Lent.{Did}
use Rattle.machine.specs.Allowed.{ToldTo}
use Rattle.machine.proofs.Shown.{ready}
use Rattle.machine.proofs.Refusals.{refused_as, some_of, none_of}
use Rattle.machine.proofs.Steps.{inside, step_zero, step_past, step_unmarked, step_sums, step_told}
use Rattle.machine.proofs.obeying.step.Goals as goal
use Rattle.machine.proofs.obeying.step.Goals.{Else-not-order_fits, In_ok-w, then-l-eq0-via-then-l-eq0, then-l-eq0-via-else-l-eq0+then-l-gt999}

-- what is known of the order's word and of its sums
mine : (c : In_ok-w)
    → (Some c.in_ok-w.w ≡ cell_at (view c.args.drum.now c.args.marks.now) c.args.desk.now.state.location)
mine c =
    sym (some_of Unmarked c.cell.result c.ok_or.ensures.value c.in_ok-w.was) ∙ c.cell.ensures

word_fits : (c : In_ok-w) → c.in_ok-w.w ≤ 19999999999
word_fits c =
    subst (λ (x : Cell). shown x ≤ 19999999999) (sym (mine c)) (ready c.requires.shown.shows.memory c.args.desk.now.state.location)

add_up : (c : Else-not-order_fits) → (order_fits c.args.desk.now.state c.in_ok-w.w ≡ true)
add_up c =
    sym c.order_fits.ensures ∙ not-false _ c.if-not-order_fits.false-raw

pub returns-then-l-eq0 : goal.returns-then-l-eq0
returns-then-l-eq0 c =
    λ i l drum₀ out₀ m e h.
    elim c.then-l-eq0.branch [
      | then-l-eq0-via-then-l-eq0 w ↦ step_zero h i w.if-l-eq0.true
      | then-l-eq0-via-else-l-eq0+then-l-gt999 w ↦ step_past h i w.if-l-gt999.true
    ]

pub returns-in_err-w : goal.returns-in_err-w
returns-in_err-w c =
    λ i l drum₀ out₀ m e h.
    let n = none_of Unmarked c.cell.result c.from_residual.result c.ok_or.ensures.value c.in_err-w.was c.from_residual.ensures.1 in
    rw n.1 (step_unmarked h i c.if-l-eq0.false c.if-l-gt999.false (sym n.0 ∙ c.cell.ensures))

pub returns-then-not-order_fits : goal.returns-then-not-order_fits
returns-then-not-order_fits c =
    λ i l drum₀ out₀ m e h.
    step_sums h i c.if-l-eq0.false c.if-l-gt999.false (mine (goal.at.returns-then-not-order_fits c).In_ok-w) (sym c.order_fits.ensures ∙ not-true _ c.if-not-order_fits.true-raw)

pub as_done-x-requires : goal.as_done-x-requires
as_done-x-requires c =
    (word_fits (goal.at.as_done-x-requires c).In_ok-w, add_up (goal.at.as_done-x-requires c).Else-not-order_fits)

pub tell-requires : goal.tell-requires
tell-requires c =
    (record { located = omega (arith, c.if-l-gt999.false); inside = inside c.requires.shown.shows }, omega (arith, c.if-l-eq0.false), word_fits (goal.at.tell-requires c).In_ok-w, c.as_done-x.ensures.1)

pub obey-requires : goal.obey-requires
obey-requires c =
    let k = c.tell.ensures in
    record { ready = (ready c.requires.shown.shows.memory, k.begun); indexed = subst (λ (n : ℕ). Indexed (eqb n 1) c.args.given.index.now) (sym k.mode_is) c.requires.indexed }

pub returns-in_err-tell : goal.returns-in_err-tell
returns-in_err-tell c =
    λ i l drum₀ out₀ m e h.
    rw (refused_as c.from_residual-in_err-tell.result c.from_residual-in_err-tell.ensures.1)
    (step_told h i c.if-l-eq0.false c.if-l-gt999.false (mine (goal.at.returns-in_err-tell c).In_ok-w) (add_up (goal.at.returns-in_err-tell c).Else-not-order_fits) c.as_done-x.ensures.0
    (subst (λ (r : Checked). ToldTo r i drum₀ out₀ c.args.drum.now c.args.marks.now c.tell.new.out c.tell.new.desk m c.in_ok-w.w c.as_done-x.result)
    c.in_err-tell.was (c.tell.ensures.comes i drum₀ out₀ m e h)))

pub returns : goal.returns
returns c =
    λ i l drum₀ out₀ m e h.
    let r = c.obey in
    let t = subst (λ (r : Checked). ToldTo r i drum₀ out₀ c.args.drum.now c.args.marks.now c.tell.new.out c.tell.new.desk m c.in_ok-w.w c.as_done-x.result)
    c.in_ok-tell.was (c.tell.ensures.comes i drum₀ out₀ m e h) in
    step_told h i c.if-l-eq0.false c.if-l-gt999.false (mine (goal.at.returns c).In_ok-w) (add_up (goal.at.returns c).Else-not-order_fits) c.as_done-x.ensures.0
    (subst (λ (y : Answer). Did drum₀ out₀ r.new.drum r.new.marks r.new.out r.new.desk r.result y) (sym t.2) (r.ensures i l drum₀ out₀ t.0 e t.1))
