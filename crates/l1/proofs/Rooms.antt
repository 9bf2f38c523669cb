-- Laws of a run in a room that is emptied when it is full: each room takes some of the budget, so they come to an end. Assumes nothing.
use Prim.Native.Nat.{ℕ, zero, suc, ◌+◌, ◌-◌, ◌≤◌, ◌<◌}
use mathlib.Core.Path.{◌≡◌, refl, sym, ap, ap₂, subst, ◌∙◌}
use mathlib.Core.List.{List}
use mathlib.Core.Bool.{Bool, true, false, true≢false}
use native.Mathlib.Omega.{arith}
use lib.ListN.{length, length-append, length-drop}
use Rattle.rules.specs.Numbers.{outcome_number, outcome_shown}
use Rattle.rules.specs.Running.{RunCall, RunResult, run_from, over, begun, inputs, ran_as, ran}
use Rattle.rules.specs.Answers.{Ending}
use Rattle.rules.proofs.Tests.{false_true}
use Rattle.machine.specs.Lent.{RunRight, call_of}
use Rattle.machine.specs.declared.Ran.{Ran}
use Rattle.says.specs.Told.{may_close}
use Rattle.rules.proofs.RoomRuns.{count_within}
use Rattle.rules.proofs.Entered.{of_run_lem, ran_count, budget_small, left_sound, shown_word}
use Rattle.says.proofs.Fields.{outcome_small, stop_closes}
use Rattle.l1.specs.Going.{Whole, may_refill, ended_as, refilled, gone_on, WentOn}
use Rattle.l1.specs.declared.sessions.Gone.{Gone}

-- ---- what was written is within the room, since the room is as long as before

over_within : (sent out : List ℕ) → length (over sent out) ≡ length out → length sent ≤ length out
unfolding over
over_within sent out e = omega (arith, simp (length-append, length-drop) at e)

ran_written : (c : RunCall) → length (ran c).out ≡ length c.out → (ran c).written ≤ length c.out
unfolding ran_as
ran_written c =
    of_run_lem (λ (r : RunResult). length r.out ≡ length c.out → r.written ≤ length c.out) c (λ b h. omega arith)
    (λ f. over_within _ c.out)

-- ---- room after room

module _ (c : RunCall) (n : ℕ) where
  gone_none : gone_on 0 c n ≡ ended_as (ran c) n
  unfolding gone_on
  gone_none = refl

  pub gone_end : (k : ℕ) → may_refill (ran c).ending (ran c).count ≡ false → gone_on k c n ≡ ended_as (ran c) n
  unfolding gone_on
  gone_end zero e = refl
  gone_end (suc k) e = rw (e, gone_on)

  pub gone_more : (k : ℕ) → may_refill (ran c).ending (ran c).count ≡ true → gone_on (suc k) c n ≡ gone_on k (refilled c (ran c)) (n + (ran c).count)
  unfolding gone_on
  gone_more k e = rw (e, gone_on)

-- one room's run, as it was made: the answer r, and drum, marks and output after it
module _ (c : RunCall) {drum marks out : List ℕ} {r : Ran} (right : RunRight (ran c) drum marks out r) where
  refill_is : (t : Bool) → may_refill r.ending r.count ≡ t → may_refill (ran c).ending (ran c).count ≡ t
  refill_is t e = ap₂ may_refill (sym right.ending_is) (sym right.count_is) ∙ e

  pub count_fits : r.count ≤ c.budget
  count_fits = rw right.count_is (ran_count c)

  pub written_fits : length out ≡ length c.out → r.written ≤ length c.out
  written_fits e = rw right.written_is (ran_written c (ap length (sym right.out_is) ∙ e))

  pub room_full : (n f : ℕ) (w : Whole) → 0 < f → may_refill r.ending r.count ≡ true → gone_on f c n ≡ w
      → gone_on (f - 1) (call_of drum marks out c.deck r.state (c.budget - r.count) c.switches) (n + r.count) ≡ w
  room_full n f w h e g =
      rw (right.drum_is, right.marks_are, right.out_is, right.state_is, right.count_is)
      (sym (gone_more c n (f - 1) (refill_is true e)) ∙ ap (λ (k : ℕ). gone_on k c n) (let z : suc (f - 1) ≡ f = omega arith in z) ∙ g)

  pub run_over : (n f : ℕ) (w : Whole) → may_refill r.ending r.count ≡ false → gone_on f c n ≡ w
      → WentOn w drum marks (record { ending = r.ending; count = n + r.count; state = r.state })
  run_over n f w e g =
      let q = sym g ∙ gone_end c n f (refill_is false e) in
      record {
        ending_is = right.ending_is ∙ sym (ap (λ (x : Whole). x.ending) q);
        count_is = ap (λ (k : ℕ). n + k) right.count_is ∙ sym (ap (λ (x : Whole). x.count) q);
        state_is = right.state_is ∙ sym (ap (λ (x : Whole). x.state) q);
        drum_is = right.drum_is ∙ sym (ap (λ (x : Whole). x.drum) q);
        marks_are = right.marks_are ∙ sym (ap (λ (x : Whole). x.marks) q);
      }

-- a room that is to be filled again took some of the budget
pub refill_took : (e : Ending) (count : ℕ) → may_refill e count ≡ true → 0 < count
refill_took e zero h = absurd (true≢false (sym h))
refill_took e (suc k) h = omega arith

-- ---- the closing of the whole can be written

small : (n b : ℕ) → b ≤ 999999 → (0 < n → n + b ≤ 999999) → n + b ≤ 999999
small zero b l h = omega arith
small (suc n) b l h = h (omega arith)

ended_closes : (c : RunCall) (n : ℕ) → (0 < n → n + c.budget ≤ 999999)
    → may_close (ran c).ending (ran c).state (n + (ran c).count) ≡ true
unfolding ran_as
ended_closes c n h =
    of_run_lem (λ (r : RunResult). may_close r.ending r.state (n + r.count) ≡ true) c (λ b. refl)
    (λ f.
    let x = run_from (inputs c) c.budget (begun c) 0 in
    stop_closes (outcome_number x.outcome) x.machine.state.location (n + x.count) (outcome_shown x.outcome)
    (outcome_small x.outcome) (left_sound c f).state.location
    (omega (arith, small n c.budget (budget_small c f) h, (count_within (inputs c) c.budget (begun c) 0).1))
    (shown_word c f))

refill_budget : (c : RunCall) → may_refill (ran c).ending (ran c).count ≡ true → c.budget ≤ 999999
unfolding ran_as
refill_budget c =
    of_run_lem (λ (r : RunResult). may_refill r.ending r.count ≡ true → c.budget ≤ 999999) c (λ b e. false_true e) (λ f e. budget_small c f)

abbrev Closes : Whole → Type 0
Closes w = may_close w.ending w.state w.count ≡ true

gone_closes : (k : ℕ) (c : RunCall) (n : ℕ) → (0 < n → n + c.budget ≤ 999999) → Closes (gone_on k c n)
gone_closes zero c n h = subst Closes (sym (gone_none c n)) (ended_closes c n h)
gone_closes (suc k) c n h =
    go (may_refill (ran c).ending (ran c).count) refl (λ g. gone_closes k (refilled c (ran c)) (n + (ran c).count) g)
  where
    go : (t : Bool) → may_refill (ran c).ending (ran c).count ≡ t
        → ((0 < n + (ran c).count → n + (ran c).count + (c.budget - (ran c).count) ≤ 999999) → Closes (gone_on k (refilled c (ran c)) (n + (ran c).count)))
        → Closes (gone_on (suc k) c n)
    go true e g =
        subst Closes (sym (gone_more c n k e)) (g (λ l. omega (arith, ran_count c, small n c.budget (refill_budget c e) h)))
    go false e g = subst Closes (sym (gone_end c n (suc k) e)) (ended_closes c n h)

pub went_closes : (k : ℕ) (c : RunCall) (drum marks : List ℕ) (r : Gone) → WentOn (gone_on k c 0) drum marks r
    → may_close r.ending r.state r.count ≡ true
went_closes k c drum marks r w =
    rw (w.ending_is, w.state_is, w.count_is) (gone_closes k c 0 (λ l. let z : ⊥ = omega arith in absurd z))
