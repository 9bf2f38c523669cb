-- `l1::sessions::go_on` meets its contract: what is left to do in empty rooms is the whole, and each room takes some of the budget. Assumes nothing.
use Prim.Native.Nat.{◌-◌}
use mathlib.Core.Path.{◌≡◌, refl, sym, ◌∙◌}
use native.Mathlib.Omega.{arith}
use lib.ListN.{length}
use borrow.Author.Rules.{rules}
use borrow.Author.Tests.{not-true, not-false}
use Rattle.rules.specs.Running.{RunCall}
use Rattle.machine.specs.Lent.{call_of}
use Rattle.l1.proofs.Rooms.{count_fits, written_fits, room_full, run_over, refill_took}
use Rattle.l1.proofs.sessions.go_on.Goals as goal
use Rattle.l1.proofs.sessions.go_on.Goals.{After-run-x}
use Rattle.l1.proofs.sessions.go_on.Given.{Over}

-- the call of one room
abbrev call : (g : Over) → After-run-x g → RunCall
call g c =
    let l = c.loop-switches in
    call_of l.drum l.marks l.out c.args.deck.now l.st l.left c.args.switches

pub loop-switches-init : goal.loop-switches-init
loop-switches-init g c = (c.args.budget, omega arith, omega arith, refl, refl, refl, refl)

pub overflow_add-count : goal.overflow_add-count
overflow_add-count g c =
    omega (arith, c.loop-switches.invariant.2, count_fits (call g (goal.at.overflow_add-count g c).After-run-x) c.run-x.ensures, c.ranges.budget.fits)

pub send_cards-requires : goal.send_cards-requires
send_cards-requires g c =
    let e : length c.run-x.new.out ≡ length c.loop-switches.out = search rules in
    (refl, omega (arith, written_fits (call g (goal.at.send_cards-requires g c).After-run-x) c.run-x.ensures e, e))

pub returns-then-not-may_refill : goal.returns-then-not-may_refill
returns-then-not-may_refill g c =
    run_over (call g (goal.at.returns-then-not-may_refill g c).After-run-x) c.run-x.ensures c.loop-switches.count c.loop-switches.invariant.0 _ (sym c.may_refill.ensures ∙ not-true _ c.if-not-may_refill.true-raw) c.loop-switches.invariant.6

pub overflow_sub-left : goal.overflow_sub-left
overflow_sub-left g c =
    let h = count_fits (call g (goal.at.overflow_sub-left g c).After-run-x) c.run-x.ensures in
    omega arith

pub loop-switches-smaller : goal.loop-switches-smaller
loop-switches-smaller g c =
    let m = sym c.may_refill.ensures ∙ not-false _ c.if-not-may_refill.false-raw in
    let t = refill_took c.run-x.result.ending c.run-x.result.count m in
    let h = count_fits (call g (goal.at.loop-switches-smaller g c).After-run-x) c.run-x.ensures in
    omega (arith, t, h)

pub loop-switches-preserved : goal.loop-switches-preserved
loop-switches-preserved g c =
    let m = sym c.may_refill.ensures ∙ not-false _ c.if-not-may_refill.false-raw in
    let t = refill_took c.run-x.result.ending c.run-x.result.count m in
    let h = count_fits (call g (goal.at.loop-switches-preserved g c).After-run-x) c.run-x.ensures in
    let v = c.loop-switches.invariant in
    (v.0 - 1, omega (arith, t, h, v.1), omega (arith, h, v.2), search rules, search rules, search rules, room_full (call g (goal.at.loop-switches-preserved g c).After-run-x) c.run-x.ensures c.loop-switches.count v.0 _ (omega (arith, t, h, v.1)) m v.6)
