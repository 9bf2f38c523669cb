-- The budget's loop: a step that lets the run go on leaves the rest of the budget, and what the whole call then answers.
-- Assumes nothing.
use Rattle.std.proofs.Common.{Err, Ok}
use Prim.Native.Nat.{ℕ, suc, ◌+◌, ◌-◌, ◌≤◌, ◌<◌}
use mathlib.Core.Path.{◌≡◌, refl, sym, ap, ◌∙◌}
use mathlib.Core.List.{List}
use mathlib.Core.Bool.{Bool, true, false}
use native.Mathlib.Omega.{arith}
use lib.Dec.{leb}
use lib.ListN.{length}
use borrow.Author.Tests.{leb-true}
use Rattle.rules.specs.Words.{pick}
use Rattle.rules.specs.Numbers.{may_go_on, completed}
use Rattle.rules.specs.Drum.{view, drum_fits}
use Rattle.rules.specs.Decks.{deck_of}
use Rattle.rules.specs.Machine.{Machine, Inputs, count_a, count_b, count_c, present}
use Rattle.rules.specs.Running.{RunCall, Course, step, run_from, over, begun, box_fits, state_fits, not_run, ran_as, ran_on, ran_by, ran}
use Rattle.rules.specs.Answers.{Cell, Deck, Outcome}
use Rattle.rules.specs.declared.Start.{Start}
use Rattle.rules.specs.declared.State.{State}
use Rattle.rules.specs.declared.DeckFault.{DeckFault}
use Rattle.rules.specs.declared.Bar.{Bar}
use Rattle.rules.specs.declared.Bar.TheVariants.{BadDrum, BadDeck, BadState}
use Rattle.rules.specs.declared.Done.TheVariants.{GoesOn, Stops}
use Rattle.rules.proofs.Tests.{both_first, both_second}
use Rattle.drum.proofs.Begins.{begins}
use Rattle.machine.specs.Lent.{Shows, Ended, RunRight, barred_as, ended_as, run_of}
use Rattle.machine.specs.declared.Ran.{Ran}
use Rattle.machine.specs.declared.desk.Desk.{Desk}

-- ---- the loop

module _ (i : Inputs) (budget count : ℕ) (m : Machine) where
  left : count < budget → budget - count ≡ suc (budget - (count + 1))
  left l = omega arith

  pub run_more : count < budget → may_go_on (step i m).outcome ≡ true
      → run_from i (budget - (count + 1)) (step i m).machine (count + 1) ≡ run_from i (budget - count) m count
  unfolding run_from
  run_more l e = sym (ap (λ (k : ℕ). run_from i k m count) (left l) ∙ rw (e, run_from))

  pub run_end : count < budget → may_go_on (step i m).outcome ≡ false
      → run_from i (budget - count) m count ≡ record { outcome = (step i m).outcome; machine = (step i m).machine; count = count + completed (step i m).outcome }
  unfolding run_from
  run_end l e = ap (λ (k : ℕ). run_from i k m count) (left l) ∙ rw (e, run_from)

  pub run_out : budget ≤ count → run_from i (budget - count) m count ≡ record { outcome = Ok GoesOn; machine = m; count = count }
  unfolding run_from
  run_out l = ap (λ (k : ℕ). run_from i k m count) (none l)
    where
      none : budget ≤ count → budget - count ≡ 0
      none l = omega arith

pub at_most_one : (o : Outcome) → completed o ≤ 1
at_most_one (Ok GoesOn) = omega arith
at_most_one (Ok (Stops k w)) = omega arith
at_most_one (Err r) = omega arith

-- ---- the state that passed

pub small_by : (v : List Cell) (deck : List ℕ) (behind : ℕ) (s : State) (budget : ℕ) → state_fits v deck behind s budget ≡ true
    → (count_a s ≤ 999) × (count_b s ≤ 999) × (count_c s ≤ 999) × (s.counter ≤ 9999) × (s.problem ≤ 999)
unfolding state_fits
small_by v deck behind s budget e =
    let e₁ = both_second (leb budget 999999) _ e in
    let e₂ = both_second (leb s.location 1000) _ e₁ in
    let box = both_first (box_fits s) _ e₂ in
    let e₃ = both_second (box_fits s) _ e₂ in
    let e₄ = both_second (leb s.counter 9999) _ e₃ in
    let rest = both_second (leb (count_a s) 999) _ box in (
      leb-true (count_a s) 999 (both_first (leb (count_a s) 999) _ box),
      leb-true (count_b s) 999 (both_first (leb (count_b s) 999) _ rest),
      leb-true (count_c s) 999 (both_second (leb (count_b s) 999) _ rest),
      leb-true s.counter 9999 (both_first (leb s.counter 9999) _ e₃),
      leb-true s.problem 999 (both_first (leb s.problem 999) _ e₄),
    )

-- ---- the call

module _ (x : RunCall) where
  barred_right : (b : Bar) → ran x ≡ not_run x b → RunRight (ran x) x.drum x.marks x.out (barred_as b x.state)
  barred_right b e =
      rw e (record { ending_is = refl; count_is = refl; written_is = refl; state_is = refl; drum_is = refl; marks_are = refl; out_is = refl })

  pub run_bad_drum : drum_fits (length x.drum) x.marks (view x.drum x.marks) ≡ false
      → RunRight (ran x) x.drum x.marks x.out (barred_as BadDrum x.state)
  unfolding ran_by
  run_bad_drum e = barred_right BadDrum (rw e)

  module _ (fit : drum_fits (length x.drum) x.marks (view x.drum x.marks) ≡ true) where
    ran_is : (d : Deck) → d ≡ deck_of x.deck → ran x ≡ ran_on present x d
    unfolding ran_by
    ran_is d e = ap (λ (t : Bool). pick t (ran_on present x (deck_of x.deck)) (not_run x BadDrum)) fit ∙ ap (ran_on present x) (sym e)

    pub run_begins : {desk : Desk} → desk.state ≡ x.state → desk.written ≡ 0 → Shows x.drum x.out x.drum x.marks x.out desk (begun x)
    unfolding over
    run_begins e f =
        record { memory = begins x.drum x.marks fit; output = record { out_is = refl; fits = omega arith }; state_is = e; written_is = f }

    pub run_bad_deck : (f : DeckFault) → Err f ≡ deck_of x.deck → RunRight (ran x) x.drum x.marks x.out (barred_as (BadDeck f) x.state)
    unfolding ran_on
    run_bad_deck f e = barred_right (BadDeck f) (ran_is (Err f) e)

    module _ (start : Start) (is_good : Ok start ≡ deck_of x.deck) where
      pub run_bad_state : state_fits (view x.drum x.marks) x.deck start.behind x.state x.budget ≡ false
          → RunRight (ran x) x.drum x.marks x.out (barred_as BadState x.state)
      unfolding ran_on
      run_bad_state e = barred_right BadState (ran_is (Ok start) is_good ∙ rw e)

      module _ (fits : state_fits (view x.drum x.marks) x.deck start.behind x.state x.budget ≡ true) where
        pub run_right : {d k o : List ℕ} {r : Ran} → Ended x.drum x.out d k o r (run_of x) → RunRight (ran x) d k o r
        unfolding ran_on ran_as
        run_right y =
            rw (ran_is (Ok start) is_good, fits)
            (record {
              ending_is = y.ending_is;
              count_is = y.count_is;
              written_is = y.written_is;
              state_is = y.state_is;
              drum_is = y.memory.drum_is;
              marks_are = y.memory.marks_are;
              out_is = y.output.out_is;
            })

-- what a run that ended with this desk answers
pub ended_as_lem : {drum₀ out₀ drum marks out : List ℕ} {desk : Desk} {count : ℕ} (x : Course) (o : Outcome) → Shows drum₀ out₀ drum marks out desk x.machine
    → o ≡ x.outcome → count ≡ x.count → Ended drum₀ out₀ drum marks out (ended_as o count desk) x
ended_as_lem x o h e f =
    record {
      ending_is = ap Ok e;
      count_is = f;
      written_is = h.written_is;
      state_is = h.state_is;
      memory = h.memory;
      output = h.output;
    }
