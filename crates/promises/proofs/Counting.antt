-- Why the count is the number of steps: a run is the step, repeated, with one added for each that lets it go on. Assumes nothing.
use Rattle.std.proofs.Common.{Err, Ok}
use Prim.Native.Nat.{ℕ, zero, suc, ◌+◌, ◌<◌}
use native.Mathlib.Nat.{zero-add, add-zero, zero-lt-suc}
use native.Mathlib.Omega.{arith}
use mathlib.Core.Path.{◌≡◌, refl, sym, ap, ◌∙◌}
use mathlib.Core.Bool.{Bool, true, false}
use lib.ListN.{length}
use Rattle.rules.specs.Numbers.{completed, may_go_on}
use Rattle.rules.specs.Drum.{view, drum_fits}
use Rattle.rules.specs.Decks.{deck_of}
use Rattle.rules.specs.Machine.{Machine, Inputs, present}
use Rattle.rules.specs.Running.{Course, step, run_from, RunCall, RunResult, begun, inputs, over, ran_as, state_fits, ran_on, ran_by, ran}
use Rattle.rules.specs.Answers.{Deck, Outcome, good}
use Rattle.rules.specs.declared.Done.TheVariants.{GoesOn, Stops}
use Rattle.rules.proofs.Views.{Fit, fit, overlay_view, marks_again}
use Rattle.promises.specs.Counting.{Steps, none, next, Comes, used_up, ended, CountIsSteps, ZeroBudgetDoesNothing}
use Rattle.rules.proofs.Sides.{err_no_ok}

-- only one outcome lets a run go on
goes_on : (o : Outcome) → may_go_on o ≡ true → o ≡ (Ok GoesOn)
goes_on (Ok GoesOn) e = refl
goes_on (Ok (Stops k w)) e = let z : ◌≡◌ {A = ℕ} 0 1 = cc in let y : ⊥ = omega arith in absurd y
goes_on (Err r) e = let z : ◌≡◌ {A = ℕ} 0 1 = cc in let y : ⊥ = omega arith in absurd y

-- the same with n orders completed before
data From (i : Inputs) (budget n : ℕ) (m : Machine) (x : Course) : Type 0 where
  all : Steps i budget m x.machine → x.outcome ≡ (Ok GoesOn) → x.count ≡ n + budget → From i budget n m x
  some :
      (k : ℕ) (u : Machine) → k < budget → Steps i k m u → x.outcome ≡ (step i u).outcome → x.machine ≡ (step i u).machine
      → may_go_on x.outcome ≡ false → x.count ≡ n + (k + completed x.outcome) → From i budget n m x

one_more : (i : Inputs) (k n : ℕ) (m : Machine) (x : Course) → (step i m).outcome ≡ (Ok GoesOn) → From i k (n + 1) (step i m).machine x
    → From i (suc k) n m x
one_more i k n m x e (all s o c) = all (next k m x.machine e s) o (c ∙ omega arith)
one_more i k n m x e (some j u l s o p f c) = some (suc j) u (omega arith) (next j m u e s) o p f (c ∙ omega arith)

from : (i : Inputs) (k : ℕ) (m : Machine) (n : ℕ) → From i k n m (run_from i k m n)
unfolding run_from
from i zero m n = all (none m) refl (sym (add-zero n))
from i (suc k) m n = go (may_go_on (step i m).outcome) refl (from i k (step i m).machine (n + 1))
  where
    go : (t : Bool) → may_go_on (step i m).outcome ≡ t → From i k (n + 1) (step i m).machine (run_from i k (step i m).machine (n + 1))
        → From i (suc k) n m (run_from i (suc k) m n)
    go true e g = rw (e, run_from) (one_more i k n m (run_from i k (step i m).machine (n + 1)) (goes_on (step i m).outcome e) g)
    go false e g = rw (e, run_from) (some 0 m (zero-lt-suc k) (none m) refl refl e (omega arith))

pub count_is_steps : CountIsSteps
count_is_steps i budget m = from_none (run_from i budget m 0) (from i budget m 0)
  where
    from_none : (x : Course) → From i budget 0 m x → Comes i budget m x
    from_none x (all s o c) = used_up s o (c ∙ zero-add budget)
    from_none x (some k u l s o p f c) = ended k u l s o p f (c ∙ zero-add (k + completed x.outcome))

-- ---- budget 0

abbrev idle : RunCall → RunResult
idle c =
    record { ending = Ok (Ok GoesOn); count = 0; written = 0; state = c.state; drum = c.drum; marks = c.marks; out = c.out }

module _ (c : RunCall) (o : Outcome) (z : c.budget ≡ 0) (h : Fit c.drum c.marks) where
  nothing_run : ran_as c (run_from (inputs c) c.budget (begun c) 0) ≡ idle c
  unfolding ran_as run_from over
  nothing_run =
      ap (λ (k : ℕ). ran_as c (run_from (inputs c) k (begun c) 0)) z ∙ rw (overlay_view c.drum c.marks, marks_again c.drum c.marks h)

  zero_from : (k : Deck) → (ran_on present c k).ending ≡ Ok o → ran_on present c k ≡ idle c
  unfolding ran_on
  zero_from (Err f) e = err_no_ok e
  zero_from (Ok start) e = by_state (state_fits (view c.drum c.marks) c.deck start.behind c.state c.budget) refl
    where
      by_state : (t : Bool) → state_fits (view c.drum c.marks) c.deck start.behind c.state c.budget ≡ t
          → ran_on present c (good start.behind start.order start.problem) ≡ idle c
      by_state true f = rw f nothing_run
      by_state false f = err_no_ok (rw f at e)

pub zero_budget_does_nothing : ZeroBudgetDoesNothing
unfolding ran_by
zero_budget_does_nothing c o z e = by_fit (drum_fits (length c.drum) c.marks (view c.drum c.marks)) refl
  where
    by_fit : (t : Bool) → drum_fits (length c.drum) c.marks (view c.drum c.marks) ≡ t → ran c ≡ idle c
    by_fit true f = rw f (zero_from c o z (fit c.drum c.marks f) (deck_of c.deck) (rw f at e))
    by_fit false f = err_no_ok (rw f at e)
