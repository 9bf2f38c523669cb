-- Why refusals leave nothing: each order answers a refusal with the machine that it was given, and a call that is barred hands back
-- what it was lent. Assumes nothing.
use Rattle.std.proofs.Common.{Err, Ok, Some}
use Prim.Native.Nat.{ℕ}
use mathlib.Core.Path.{◌≡◌, refl, sym, ap, subst}
use mathlib.Core.Logic.{⊎_elim}
use mathlib.Core.List.{List}
use mathlib.Core.Bool.{Bool, true, false}
use lib.ListN.{length}
use Rattle.rules.specs.Numbers.{tries_again}
use Rattle.rules.specs.Drum.{view, cell_at, drum_fits}
use Rattle.rules.specs.Decks.{deck_of}
use Rattle.rules.specs.Machine.{Machine, present}
use Rattle.rules.specs.Running.{as_done, trace_sent, step, Left, RunCall, not_run, ran_as, state_fits, ran_on, ran_by, ran}
use Rattle.rules.specs.Loads.{LoadCall, not_loaded, loaded_from, loaded}
use Rattle.rules.specs.Answers.{Deck, good}
use Rattle.rules.specs.declared.Bar.{Bar}
use Rattle.rules.proofs.Undone.{step_leaves}
use Rattle.promises.specs.Undone.{AsBefore, RefusalUndone, SameOrderAgain, RefusedLoadChangesNothing, RefusedRunChangesNothing}
use Rattle.rules.proofs.Sides.{same_err, ok_no_err}

-- ---- orders

-- with other cards and another card counter, all the rest is as before
but_cards : (m : Machine) (sent : List ℕ) (n : ℕ)
    → AsBefore m
    (record {
      cells = m.cells;
      sent = sent;
      state = record {
        location = m.state.location;
        counts = m.state.counts;
        counter = n;
        problem = m.state.problem;
        reader = m.state.reader;
        mode = m.state.mode;
        tracing = m.state.tracing;
      };
    })
but_cards m sent n =
    record {
      cells_same = refl;
      counts_same = refl;
      reader_same = refl;
      location_same = refl;
      problem_same = refl;
      mode_same = refl;
      tracing_same = refl;
      order_same = refl;
      done_same = λ w. refl;
    }

as_before : (m u : Machine) → Left m u → AsBefore m u
as_before m u l =
    ⊎_elim (λ (e : u ≡ m). subst (λ (x : Machine). AsBefore m x) (sym e) (but_cards m m.sent m.state.counter))
    (λ (t : (w : ℕ) × (cell_at m.cells m.state.location ≡ Some w) × (u ≡ trace_sent m w (as_done m.state w))).
    subst (λ (x : Machine). AsBefore m x) (sym t.2) (but_cards m _ _)) l

pub same_order_again : SameOrderAgain
same_order_again i m e = as_before m (step i m).machine (step_leaves i m e)

pub refusal_undone : RefusalUndone
refusal_undone i m r e =
    let l : Left m (step i m).machine = step_leaves i m (ap tries_again e) in
    (as_before m (step i m).machine l, l)

-- ---- calls

module _ (c : LoadCall) (b : Bar) where
  load_barred : (k : Deck) → (loaded_from c k).loading ≡ Err b → loaded_from c k ≡ not_loaded c b
  unfolding loaded_from
  load_barred (Err f) e = ap (not_loaded c) (same_err e)
  load_barred (Ok start) e = ok_no_err e

pub refused_load_changes_nothing : RefusedLoadChangesNothing
unfolding loaded
refused_load_changes_nothing c b e = by_fit (drum_fits (length c.drum) c.marks (view c.drum c.marks)) refl
  where
    by_fit : (t : Bool) → drum_fits (length c.drum) c.marks (view c.drum c.marks) ≡ t → loaded c ≡ not_loaded c b
    by_fit true f = rw f (load_barred c b (deck_of c.deck) (rw f at e))
    by_fit false f = rw f (ap (not_loaded c) (same_err (rw f at e)))

module _ (c : RunCall) (b : Bar) where
  run_barred : (k : Deck) → (ran_on present c k).ending ≡ Err b → ran_on present c k ≡ not_run c b
  unfolding ran_on ran_as
  run_barred (Err f) e = ap (not_run c) (same_err e)
  run_barred (Ok start) e = by_state (state_fits (view c.drum c.marks) c.deck start.behind c.state c.budget) refl
    where
      by_state : (t : Bool) → state_fits (view c.drum c.marks) c.deck start.behind c.state c.budget ≡ t
          → ran_on present c (good start.behind start.order start.problem) ≡ not_run c b
      by_state true f = ok_no_err (rw f at e)
      by_state false f = rw f (ap (not_run c) (same_err (rw f at e)))

pub refused_run_changes_nothing : RefusedRunChangesNothing
unfolding ran_by
refused_run_changes_nothing c b e = by_fit (drum_fits (length c.drum) c.marks (view c.drum c.marks)) refl
  where
    by_fit : (t : Bool) → drum_fits (length c.drum) c.marks (view c.drum c.marks) ≡ t → ran c ≡ not_run c b
    by_fit true f = rw f (run_barred c b (deck_of c.deck) (rw f at e))
    by_fit false f = rw f (ap (not_run c) (same_err (rw f at e)))
