-- A call of run: what its entry checks found, and what then holds of the run that is made and of each run's result. Assumes nothing.
use Rattle.std.proofs.Common.{Err, Ok}
use Prim.Native.Nat.{ℕ, ◌≤◌}
use mathlib.Core.Path.{◌≡◌, refl, sym, ◌∙◌}
use mathlib.Core.Bool.{Bool, true, false}
use native.Mathlib.Omega.{arith}
use lib.ListN.{length}
use Rattle.rules.specs.Words.{pick}
use Rattle.rules.specs.Numbers.{outcome_shown}
use Rattle.rules.specs.Drum.{view, drum_fits}
use Rattle.rules.specs.Decks.{deck_of}
use Rattle.rules.specs.Machine.{Requests, present}
use Rattle.rules.specs.Running.{Course, run_from, RunCall, RunResult, not_run, begun, inputs_by, inputs, state_fits, ran_as, ran_on, ran_by, ran}
use Rattle.rules.specs.Answers.{Deck, good}
use Rattle.rules.specs.declared.Bar.{Bar}
use Rattle.rules.specs.declared.Bar.TheVariants.{BadDrum, BadDeck, BadState}
use Rattle.rules.proofs.Views.{Fit, fit, length-view}
use Rattle.rules.proofs.Tails.{Tail, good_tail}
use Rattle.rules.proofs.Sound.{cells_begun, steady_from}
use Rattle.rules.proofs.SoundChanges.{Sound}
use Rattle.rules.proofs.SoundOrders.{run_sound}
use Rattle.rules.proofs.ShownWords.{run_shows}
use Rattle.rules.proofs.RoomRuns.{count_within}

pub record Entered (c : RunCall) : Type 0 where
  pub drum_fits_lem : drum_fits (length c.drum) c.marks (view c.drum c.marks) ≡ true
  pub first : ℕ
  pub order : ℕ
  pub problem : ℕ
  pub deck_good : deck_of c.deck ≡ good first order problem
  pub state_fits_lem : state_fits (view c.drum c.marks) c.deck first c.state c.budget ≡ true

-- the run that is then made, by these requests and by all
abbrev pub course_by : Requests → RunCall → Course
course_by q c = run_from (inputs_by q c) c.budget (begun c) 0

abbrev pub course : RunCall → Course
course c = course_by present c

-- What is said of a run's results, by all kinds of requests, where no run is made, and where one is made, is said of each.
module _ (P : (Requests → RunResult) → Type 0) (c : RunCall) (not : (b : Bar) → P (λ q. not_run c b)) (did : Entered c → P (λ q. ran_as c (course_by q c))) where
  by_state : (first order problem : ℕ) → drum_fits (length c.drum) c.marks (view c.drum c.marks) ≡ true
      → deck_of c.deck ≡ good first order problem
      → (t : Bool) → state_fits (view c.drum c.marks) c.deck first c.state c.budget ≡ t
      → P (λ q. pick t (ran_as c (course_by q c)) (not_run c BadState))
  by_state first order problem d g true e =
      did (record { drum_fits_lem = d; first = first; order = order; problem = problem; deck_good = g; state_fits_lem = e })
  by_state first order problem d g false e = not BadState

  by_deck : drum_fits (length c.drum) c.marks (view c.drum c.marks) ≡ true → (d : Deck) → deck_of c.deck ≡ d → P (λ q. ran_on q c d)
  unfolding ran_on
  by_deck f (Err x) g = not (BadDeck x)
  by_deck f (Ok start) g =
      by_state start.behind start.order start.problem f g (state_fits (view c.drum c.marks) c.deck start.behind c.state c.budget) refl

  by_drum : (t : Bool) → drum_fits (length c.drum) c.marks (view c.drum c.marks) ≡ t
      → P (λ q. pick t (ran_on q c (deck_of c.deck)) (not_run c BadDrum))
  by_drum true e = by_deck e (deck_of c.deck) refl
  by_drum false e = not BadDrum

  pub of_runs : P (λ q. ran_by q c)
  unfolding ran_by
  of_runs = by_drum (drum_fits (length c.drum) c.marks (view c.drum c.marks)) refl

pub of_run_lem : (P : RunResult → Type 0) (c : RunCall) → ((b : Bar) → P (not_run c b)) → (Entered c → P (ran_as c (course c))) → P (ran c)
of_run_lem P c not did = of_runs (λ (r : Requests → RunResult). P (r present)) c not did

pub ran_course_by : (q : Requests) (c : RunCall) → Entered c → ran_by q c ≡ ran_as c (course_by q c)
unfolding ran_by ran_on
ran_course_by q c h = rw (h.drum_fits_lem, h.deck_good, h.state_fits_lem)

pub ran_course : (c : RunCall) → Entered c → ran c ≡ ran_as c (course c)
ran_course c h = ran_course_by present c h

-- ---- the machine that it begins with, and the one that it leaves

module _ (c : RunCall) (h : Entered c) where
  pub lent : Fit c.drum c.marks
  lent = fit c.drum c.marks h.drum_fits_lem

  tail : Tail c.deck h.first
  tail = good_tail c.deck h.first h.order h.problem h.deck_good

  pub budget_small : c.budget ≤ 999999
  budget_small = (steady_from (view c.drum c.marks) c.deck h.first c.state c.budget h.state_fits_lem).0

  pub begun_sound : Sound c.deck h.first (begun c)
  begun_sound =
      let s = steady_from (view c.drum c.marks) c.deck h.first c.state c.budget h.state_fits_lem in
      record {
        cells =
            cells_begun (view c.drum c.marks) (length-view c.drum c.marks (lent.drum_long ∙ sym lent.marks_long) ∙ lent.drum_long)
            lent.words_fit_lem s.2;
        state = s.1;
      }

  pub left_sound : Sound c.deck h.first (course c).machine
  left_sound = run_sound (inputs c) h.first tail c.budget (begun c) 0 begun_sound

  pub shown_word : outcome_shown (course c).outcome ≤ 19999999999
  shown_word = run_shows (inputs c) h.first tail c.budget (begun c) 0 begun_sound

-- ---- its count is within its budget

pub ran_count : (c : RunCall) → (ran c).count ≤ c.budget
unfolding ran_as
ran_count c =
    of_run_lem (λ (r : RunResult). r.count ≤ c.budget) c (λ b. omega arith)
    (λ f. let h : (course c).count ≤ c.budget = omega (arith, (count_within (inputs c) c.budget (begun c) 0).1) in h)
