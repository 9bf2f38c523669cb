-- Why the stop 03 only stops: an order that stops with it has done what it does with the switch on RUN, or without this stop, and every other
-- order is the same with it and without. Assumes nothing.
use Rattle.std.proofs.Common.{Ok}
use Prim.Native.Nat.{ℕ, ◌≤◌}
use mathlib.Core.Path.{◌≡◌, refl, sym, ap, ◌∙◌}
use mathlib.Core.Bool.{Bool, true, false}
use native.Mathlib.Omega.{arith}
use lib.Dec.{leb}
use borrow.Author.Tests.{le-leb}
use Rattle.rules.specs.Words.{both}
use Rattle.rules.specs.Machine.{Requests, Inputs, present, without_loss_stops}
use Rattle.rules.specs.Orders.{stops_at}
use Rattle.rules.specs.Running.{RunCall, RunResult, begun, inputs, state_fits, ran_as, ran_by, ran}
use Rattle.rules.specs.declared.Switches.{Switches}
use Rattle.rules.specs.declared.Stop.TheVariants.{Lost}
use Rattle.rules.specs.declared.Done.TheVariants.{Stops}
use Rattle.rules.proofs.Tests.{false_true, both_second}
use Rattle.rules.proofs.Entered.{Entered, course, course_by, of_runs, ran_course, ran_course_by, ran_count, budget_small}
use Rattle.rules.proofs.Steps.{inputs_with}
use Rattle.rules.proofs.LossStops.{step_eased, some_cells, went_on, run_same, run_stopped}
use Rattle.promises.specs.Calls.{run_of}
use Rattle.promises.specs.LossStops.{OnRunAsBefore, OnStopAsBefore, run, with_budget_used, LossStopOnlyStops, order_on_run, LossStopLeavesResult}
use Rattle.promises.proofs.Entry.{entered}
use Rattle.promises.proofs.Again.{ran_outcome}
use Rattle.rules.proofs.Sides.{same_ok}

-- ---- orders

never_on_run : (i : Inputs) (n : ℕ) → stops_at (order_on_run i) n ≡ false
never_on_run i n = by_request i.requests.loss_stops
  where
    by_request : (b : Bool) → both b false ≡ false
    by_request true = refl
    by_request false = refl

pub loss_stop_leaves_result : LossStopLeavesResult
loss_stop_leaves_result i m w e =
    let r = (step_eased i run i.requests (never_on_run i) false_true refl m).stopped w e in
    record { on_stop = r.on_stop_lem; leaves = r.leaves; shown = r.first (some_cells i m w e); following = r.following }

-- ---- calls

pub on_stop_as_before : OnStopAsBefore
unfolding ran_as
on_stop_as_before c =
    of_runs (λ (r : Requests → RunResult). ((w : ℕ) → (r present).ending ≡ Ok (Ok (Stops Lost w)) → ⊥) → r present ≡ r (without_loss_stops present)) c (λ b f. refl)
    (λ h f. ap (ran_as c) (sym (run_same (inputs c) c.switches (without_loss_stops present) (λ n. refl) (λ e. e) refl refl c.budget (begun c) 0 (λ w e. f w (ap Ok e)))))

-- the same call for no more orders, with any switches, passes the same checks
fewer_entered : (c : RunCall) → Entered c → (n : ℕ) (s : Switches) → n ≤ c.budget → Entered (run_of c.drum c.marks c.deck c.out c.state n s)
unfolding state_fits
fewer_entered c h n s l =
    record {
      drum_fits_lem = h.drum_fits_lem;
      first = h.first;
      order = h.order;
      problem = h.problem;
      deck_good = h.deck_good;
      state_fits_lem = rw (le-leb n 999999 (omega (arith, budget_small c h, l))) (both_second (leb c.budget 999999) _ h.state_fits_lem);
    }

-- a run that 03 ended, and the same call for as many orders where no loss stops it
module _ (c : RunCall) (w : ℕ) (e : (ran c).ending ≡ Ok (Ok (Stops Lost w))) (s : Switches) (q : Requests)
    (never : (n : ℕ) → stops_at (inputs_with s q (inputs c)) n ≡ false) (less : s.stop ≡ true → c.switches.stop ≡ true)
    (sums : q.sums_carry ≡ true) where
  h : Entered c
  h = entered c (Ok (Stops Lost w)) e

  abbrev as_many : RunCall
  as_many = run_of c.drum c.marks c.deck c.out c.state (ran c).count s

  stopped : (c.switches.stop ≡ true) × (course_by q as_many ≡ went_on (course c))
  unfolding ran_as
  stopped =
      run_stopped (inputs c) s q never less sums c.budget (begun c) 0 (ran c).count w (same_ok (sym (ran_outcome c h) ∙ e))
      (ap (λ (x : RunResult). x.count) (sym (ran_course c h)) ∙ omega arith)

  goes_on : ran_by q as_many ≡ with_budget_used (ran c)
  unfolding ran_as
  goes_on =
      ran_course_by q as_many (fewer_entered c h (ran c).count s (ran_count c)) ∙ ap (ran_as as_many) stopped.1 ∙ ap with_budget_used (sym (ran_course c h))

pub on_run_as_before : OnRunAsBefore
on_run_as_before c t = on_stop_as_before c (λ w e. false_true (sym t ∙ (stopped c w e c.switches (without_loss_stops present) (λ n. refl) (λ e. e) refl).0))

pub loss_stop_only_stops : LossStopOnlyStops
loss_stop_only_stops c w e =
    (goes_on c w e run present (λ n. refl) false_true refl, goes_on c w e c.switches (without_loss_stops present) (λ n. refl) (λ e. e) refl)
