-- Why the next run goes on as it should: what a run leaves passes the entry checks again, and the machine that is seen in it is the one
-- that the run's last order left. Assumes nothing.
use Rattle.std.proofs.Common.{Ok}
use Prim.Native.Nat.{ℕ, ◌+◌}
use mathlib.Core.Path.{◌≡◌, refl, sym, ap, subst, ◌∙◌}
use mathlib.Core.List.{List, []}
use Rattle.rules.specs.Numbers.{completed, tries_again}
use Rattle.rules.specs.Machine.{Machine}
use Rattle.rules.specs.Running.{Course, RunCall, RunResult, begun, inputs, ran_as, ran}
use Rattle.rules.specs.Answers.{Cell, Outcome}
use Rattle.rules.specs.declared.Switches.{Switches}
use Rattle.rules.specs.declared.Done.TheVariants.{GoesOn}
use Rattle.rules.proofs.Tests.{false_true}
use Rattle.promises.specs.Undone.{AsBefore}
use Rattle.promises.specs.Counting.{Comes, used_up, ended}
use Rattle.promises.specs.Again.{following, again, MayGoOnLater, MetAgain, SameOrderNextRun}
use Rattle.rules.proofs.Sides.{same_ok}
use Rattle.promises.proofs.Undone.{same_order_again}
use Rattle.promises.proofs.Counting.{count_is_steps}
use Rattle.rules.proofs.Entered.{Entered, course, ran_course}
use Rattle.promises.proofs.Entry.{entered, left_view, again_entered}

-- how a run that was entered ended
pub ran_outcome : (c : RunCall) → Entered c → (ran c).ending ≡ Ok (course c).outcome
unfolding ran_as
ran_outcome c h = ap (λ (x : RunResult). x.ending) (ran_course c h)

pub may_go_on_later : MayGoOnLater
may_go_on_later c o e out budget switches l =
    let d : RunCall = again c out budget switches in
    ((course d).outcome, ran_outcome d (again_entered c (entered c o e) out budget switches l))

-- as before, whatever was sent
unsent : (m u : Machine) → AsBefore m u → AsBefore m (record { cells = u.cells; sent = []; state = u.state })
unsent m u h =
    record {
      cells_same = h.cells_same;
      counts_same = h.counts_same;
      reader_same = h.reader_same;
      location_same = h.location_same;
      problem_same = h.problem_same;
      mode_same = h.mode_same;
      tracing_same = h.tracing_same;
      order_same = h.order_same;
      done_same = h.done_same;
    }

-- the machine with which the run following c begins is the one that c left, with nothing sent
pub begun_behind : (c : RunCall) → Entered c → (out : List ℕ) (budget : ℕ) (switches : Switches)
    → begun (again c out budget switches) ≡ record { cells = (course c).machine.cells; sent = []; state = (course c).machine.state }
unfolding ran_as
begun_behind c h out budget switches =
    ap (λ (x : RunResult). begun (following c x out budget switches)) (ran_course c h)
    ∙ ap (λ (v : List Cell). record { cells = v; sent = []; state = (course c).machine.state }) (left_view c h)

pub same_order_next_run : SameOrderNextRun
unfolding ran_as
same_order_next_run c o e t out budget switches = by_course (course c) refl (count_is_steps (inputs c) c.budget (begun c))
  where
    h : Entered c
    h = entered c o e

    by_course : (x : Course) → course c ≡ x → Comes (inputs c) c.budget (begun c) x → MetAgain c o (again c out budget switches)
    by_course x q (used_up s g n) =
        let z : o ≡ (Ok GoesOn) = same_ok (sym e ∙ ran_outcome c h) ∙ ap (λ (y : Course). y.outcome) q ∙ g in
        false_true (sym (ap tries_again z) ∙ t)
    by_course x q (ended k u l s g m f n) =
        let z : o ≡ x.outcome = same_ok (sym e ∙ ran_outcome c h) ∙ ap (λ (y : Course). y.outcome) q in
        record {
          steps = k;
          front = u;
          comes = s;
          ends = sym g ∙ sym z;
          counted =
              ap (λ (y : RunResult). y.count) (ran_course c h) ∙ ap (λ (y : Course). y.count) q ∙ n ∙ ap (λ (y : Outcome). k + completed y) (sym z);
          met =
              subst (AsBefore u) (sym (begun_behind c h out budget switches))
              (unsent u (course c).machine
              (subst (AsBefore u) (sym m ∙ sym (ap (λ (y : Course). y.machine) q))
              (same_order_again (inputs c) u (ap tries_again (sym g ∙ sym z) ∙ t))));
        }
