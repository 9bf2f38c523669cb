-- Runs in rooms: where neither ends with 22, runs in two rooms are the same; a run that ends with 22 is the beginning of the run in a
-- larger room; and where the room holds the most that so many orders can write, no run ends with 22. Assumes nothing.
use Rattle.std.proofs.Common.{Err, Ok}
use Prim.Native.Nat.{ℕ, zero, suc, ◌+◌, ◌*◌, ◌≤◌, ◌<◌}
use mathlib.Core.Path.{◌≡◌, refl, sym, ap, ◌∙◌}
use mathlib.Core.List.{List}
use mathlib.Core.Bool.{Bool, true, false}
use native.Mathlib.Omega.{arith}
use lib.ListN.{length}
use Rattle.rules.specs.Numbers.{completed, may_go_on}
use Rattle.rules.specs.Machine.{Machine, Inputs, Answer}
use Rattle.rules.specs.Running.{Course, step, run_from}
use Rattle.rules.specs.Answers.{Outcome}
use Rattle.rules.specs.declared.Refusal.TheVariants.{NoRoom}
use Rattle.rules.specs.declared.Done.TheVariants.{GoesOn, Stops}
use Rattle.rules.proofs.Tests.{false_true}
use Rattle.rules.proofs.Sides.{ok_no_err}
use Rattle.rules.proofs.Tails.{Tail}
use Rattle.rules.proofs.SoundChanges.{Sound}
use Rattle.rules.proofs.SoundOrders.{step_sound}
use Rattle.rules.proofs.Rooms.{in_room, sent_before, Alike, first_full, second_full, alike, step_alike}
use Rattle.rules.proofs.Full.{most_sent, step_stepped, traced_only}

-- a run that did not end with 22
abbrev pub NotFull : Outcome → Type 0
NotFull o = o ≡ Err NoRoom → ⊥

-- the same course with p sent and n orders completed before
abbrev pub course_behind : List ℕ → ℕ → Course → Course
course_behind p n x = record { outcome = x.outcome; machine = sent_before p x.machine; count = n + x.count }

-- a run whose next order is the last
abbrev ended_at : Answer → ℕ → Course
ended_at x n = record { outcome = x.outcome; machine = x.machine; count = n + completed x.outcome }

full_ends : (o : Outcome) → o ≡ Err NoRoom → may_go_on o ≡ false
full_ends o e = ap may_go_on e

-- ---- one order of a run

module _ (i : Inputs) (k : ℕ) (m : Machine) (n : ℕ) where
  pub run_on : may_go_on (step i m).outcome ≡ true → run_from i (suc k) m n ≡ run_from i k (step i m).machine (n + 1)
  unfolding run_from
  run_on e = rw (e, run_from)

  pub run_ends : may_go_on (step i m).outcome ≡ false → run_from i (suc k) m n ≡ ended_at (step i m) n
  unfolding run_from
  run_ends e = rw (e, run_from)

  run_full : (step i m).outcome ≡ Err NoRoom → (run_from i (suc k) m n).outcome ≡ Err NoRoom
  run_full e = ap (λ (x : Course). x.outcome) (run_ends (full_ends (step i m).outcome e)) ∙ e

-- ---- counts

one_at_most : (o : Outcome) → completed o ≤ 1
one_at_most (Ok (Stops k w)) = omega arith
one_at_most (Ok GoesOn) = omega arith
one_at_most (Err r) = omega arith

pub count_within : (i : Inputs) (k : ℕ) (m : Machine) (n : ℕ) → (n ≤ (run_from i k m n).count) × ((run_from i k m n).count ≤ n + k)
unfolding run_from
count_within i zero m n = (omega arith, omega arith)
count_within i (suc k) m n = go (may_go_on (step i m).outcome) refl (count_within i k (step i m).machine (n + 1))
  where
    go : (t : Bool) → may_go_on (step i m).outcome ≡ t
        → (n + 1 ≤ (run_from i k (step i m).machine (n + 1)).count) × ((run_from i k (step i m).machine (n + 1)).count ≤ n + 1 + k)
        → (n ≤ (run_from i (suc k) m n).count) × ((run_from i (suc k) m n).count ≤ n + suc k)
    go true e h = rw (e, run_from) (omega (arith, h.0), omega (arith, h.1))
    go false e h = rw (e, run_from) (omega arith, omega (arith, one_at_most (step i m).outcome))

-- ---- two rooms, of which none becomes full

module _ (p : List ℕ) (r : ℕ) (i : Inputs) (a : ℕ) where
  pub run_alike : (k : ℕ) (m : Machine) (n : ℕ) → NotFull (run_from i k m n).outcome
      → NotFull (run_from (in_room r i) k (sent_before p m) (a + n)).outcome
      → run_from (in_room r i) k (sent_before p m) (a + n) ≡ course_behind p a (run_from i k m n)
  unfolding run_from
  run_alike zero m n f g = refl
  run_alike (suc k) m n f g =
      by_step (step_alike p r i m) (may_go_on (step i m).outcome) refl (λ e. run_alike k (step i m).machine (n + 1) e)
    where
      by_step : Alike p (step i m) (step (in_room r i) (sent_before p m)) → (t : Bool) → may_go_on (step i m).outcome ≡ t
          → (NotFull (run_from i k (step i m).machine (n + 1)).outcome
          → NotFull (run_from (in_room r i) k (sent_before p (step i m).machine) (a + (n + 1))).outcome
          → run_from (in_room r i) k (sent_before p (step i m).machine) (a + (n + 1)) ≡ course_behind p a (run_from i k (step i m).machine (n + 1)))
          → run_from (in_room r i) (suc k) (sent_before p m) (a + n) ≡ course_behind p a (run_from i (suc k) m n)
      by_step (first_full e) t u h = absurd (f (run_full i k m n e))
      by_step (second_full e) t u h = absurd (g (run_full (in_room r i) k (sent_before p m) (a + n) e))
      by_step (alike e) true u h =
          let v : may_go_on (step (in_room r i) (sent_before p m)).outcome ≡ true = ap (λ (x : Answer). may_go_on x.outcome) e ∙ u in
          let q : run_from (in_room r i) (suc k) (sent_before p m) (a + n) ≡ run_from (in_room r i) k (sent_before p (step i m).machine) (a + (n + 1)) =
          run_on (in_room r i) k (sent_before p m) (a + n) v
          ∙ ap (λ (x : Answer). run_from (in_room r i) k x.machine (a + n + 1)) e
          ∙ ap (run_from (in_room r i) k (sent_before p (step i m).machine)) (omega arith) in
          let o = run_on i k m n u in
          q
          ∙ h (λ z. f (ap (λ (x : Course). x.outcome) o ∙ z)) (λ z. g (ap (λ (x : Course). x.outcome) q ∙ z))
          ∙ ap (course_behind p a) (sym o)
      by_step (alike e) false u h =
          let v : may_go_on (step (in_room r i) (sent_before p m)).outcome ≡ false = ap (λ (x : Answer). may_go_on x.outcome) e ∙ u in
          run_ends (in_room r i) k (sent_before p m) (a + n) v
          ∙ ap (λ (x : Answer). ended_at x (a + n)) e
          ∙ ap (λ (c : ℕ). record { outcome = (step i m).outcome; machine = sent_before p (step i m).machine; count = c }) (omega arith)
          ∙ ap (course_behind p a) (sym (run_ends i k m n u))

-- ---- the first room becomes full, the other does not: what is left to do in the other is done from where the first was left

module _ (p : List ℕ) (r : ℕ) (i : Inputs) (a behind : ℕ) (tail : Tail i.deck behind) where
  pub run_left : (k : ℕ) (m : Machine) (n l : ℕ) → Sound i.deck behind m → (run_from i k m n).outcome ≡ Err NoRoom
      → NotFull (run_from (in_room r i) k (sent_before p m) (a + n)).outcome → (run_from i k m n).count + l ≡ n + k
      → run_from (in_room r i) k (sent_before p m) (a + n)
      ≡ run_from (in_room r i) l (sent_before p (run_from i k m n).machine) (a + (run_from i k m n).count)
  unfolding run_from
  run_left zero m n l s f g b = ok_no_err f
  run_left (suc k) m n l s f g b =
      by_step (may_go_on (step i m).outcome) refl (step_alike p r i m) (run_left k (step i m).machine (n + 1) l (step_sound i behind tail m s))
    where
      by_step : (t : Bool) → may_go_on (step i m).outcome ≡ t → Alike p (step i m) (step (in_room r i) (sent_before p m))
          → ((run_from i k (step i m).machine (n + 1)).outcome ≡ Err NoRoom
          → NotFull (run_from (in_room r i) k (sent_before p (step i m).machine) (a + (n + 1))).outcome
          → (run_from i k (step i m).machine (n + 1)).count + l ≡ n + 1 + k
          → run_from (in_room r i) k (sent_before p (step i m).machine) (a + (n + 1))
          ≡ run_from (in_room r i) l (sent_before p (run_from i k (step i m).machine (n + 1)).machine) (a + (run_from i k (step i m).machine (n + 1)).count))
          → run_from (in_room r i) (suc k) (sent_before p m) (a + n)
          ≡ run_from (in_room r i) l (sent_before p (run_from i (suc k) m n).machine) (a + (run_from i (suc k) m n).count)
      by_step true u (first_full e) h = false_true (sym (full_ends (step i m).outcome e) ∙ u)
      by_step true u (second_full e) h = absurd (g (run_full (in_room r i) k (sent_before p m) (a + n) e))
      by_step true u (alike e) h =
          let v : may_go_on (step (in_room r i) (sent_before p m)).outcome ≡ true = ap (λ (x : Answer). may_go_on x.outcome) e ∙ u in
          let q : run_from (in_room r i) (suc k) (sent_before p m) (a + n) ≡ run_from (in_room r i) k (sent_before p (step i m).machine) (a + (n + 1)) =
          run_on (in_room r i) k (sent_before p m) (a + n) v
          ∙ ap (λ (x : Answer). run_from (in_room r i) k x.machine (a + n + 1)) e
          ∙ ap (run_from (in_room r i) k (sent_before p (step i m).machine)) (omega arith) in
          let o = run_on i k m n u in
          q
          ∙ h (sym (ap (λ (x : Course). x.outcome) o) ∙ f) (λ z. g (ap (λ (x : Course). x.outcome) q ∙ z))
          (ap (λ (x : Course). x.count + l) (sym o) ∙ b ∙ omega arith)
          ∙ ap (λ (x : Course). run_from (in_room r i) l (sent_before p x.machine) (a + x.count)) (sym o)
      by_step false u w h =
          let o = run_ends i k m n u in
          let e : (step i m).outcome ≡ Err NoRoom = sym (ap (λ (x : Course). x.outcome) o) ∙ f in
          let same : (step i m).machine ≡ m = ((step_stepped i m (traced_only m s.state)).full e).0 in
          let c : (run_from i (suc k) m n).count ≡ n = ap (λ (x : Course). x.count) o ∙ ap (λ (x : Outcome). n + completed x) e ∙ omega arith in
          let d : suc k ≡ l = omega (arith, c, b) in
          ap (λ (x : Machine). run_from (in_room r i) (suc k) (sent_before p x) (a + n)) (sym same ∙ sym (ap (λ (x : Course). x.machine) o))
          ∙ ap (λ (x : ℕ). run_from (in_room r i) (suc k) (sent_before p (run_from i (suc k) m n).machine) (a + x)) (sym c)
          ∙ ap (λ (x : ℕ). run_from (in_room r i) x (sent_before p (run_from i (suc k) m n).machine) (a + (run_from i (suc k) m n).count)) d

-- ---- room enough

module _ (i : Inputs) (behind : ℕ) (tail : Tail i.deck behind) where
  -- for the most that all orders of the budget can write
  pub run_fits : (k : ℕ) (m : Machine) (n : ℕ) → Sound i.deck behind m → length m.sent + most_sent * k ≤ i.room → NotFull (run_from i k m n).outcome
  unfolding run_from
  run_fits zero m n s l = ok_no_err
  run_fits (suc k) m n s l =
      let x = step_stepped i m (traced_only m s.state) in
      by_step (may_go_on (step i m).outcome) refl
      (run_fits k (step i m).machine (n + 1) (step_sound i behind tail m s) (omega (arith, x.more, l)))
    where
      by_step : (t : Bool) → may_go_on (step i m).outcome ≡ t → NotFull (run_from i k (step i m).machine (n + 1)).outcome
          → NotFull (run_from i (suc k) m n).outcome
      by_step true u h = λ e. h (sym (ap (λ (x : Course). x.outcome) (run_on i k m n u)) ∙ e)
      by_step false u h =
          λ e.
          let z = ((step_stepped i m (traced_only m s.state)).full (sym (ap (λ (x : Course). x.outcome) (run_ends i k m n u)) ∙ e)).1 in
          let y : ⊥ = omega (arith, z, l) in y

  -- for the most that one order can write: some order is done before the room is full
  pub full_took : (k : ℕ) (m : Machine) (n : ℕ) → Sound i.deck behind m → length m.sent + most_sent ≤ i.room
      → (run_from i k m n).outcome ≡ Err NoRoom → n < (run_from i k m n).count
  unfolding run_from
  full_took zero m n s l e = ok_no_err e
  full_took (suc k) m n s l e = by_step (may_go_on (step i m).outcome) refl
    where
      by_step : (t : Bool) → may_go_on (step i m).outcome ≡ t → n < (run_from i (suc k) m n).count
      by_step true u = rw (run_on i k m n u) (omega (arith, (count_within i k (step i m).machine (n + 1)).0))
      by_step false u =
          let z = ((step_stepped i m (traced_only m s.state)).full (sym (ap (λ (x : Course). x.outcome) (run_ends i k m n u)) ∙ e)).1 in
          let y : ⊥ = omega (arith, z, l) in absurd y
