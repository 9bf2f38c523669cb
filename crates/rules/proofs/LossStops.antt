-- The stop 03, held against inputs by which no loss stops a run: by these an order does the same, but that the run goes on where 03 would stop
-- it. By a walk over all orders; and what follows for runs. Assumes nothing.
use Rattle.std.proofs.Common.{Err, Ok, Some}
use Prim.Native.Nat.{ℕ, zero, suc, ◌+◌, ◌-◌, ◌<◌}
use mathlib.Core.Path.{◌≡◌, refl, sym, ap, ◌∙◌}
use mathlib.Core.List.{List, [], ◌∷◌}
use mathlib.Core.Bool.{Bool, true, false}
use native.Mathlib.Omega.{arith}
use lib.Dec.{leb, ltb}
use lib.ListN.{length}
use Rattle.rules.specs.Words.{pick, both, a_in, b_in, c_in}
use Rattle.rules.specs.Numbers.{completed, may_go_on}
use Rattle.rules.specs.Drum.{cell_at, word_at, store}
use Rattle.rules.specs.Decks.{judged_from}
use Rattle.rules.specs.Machine.{Machine, Requests, Inputs, Answer, onward, done, undone}
use Rattle.rules.specs.Orders.{reckoned_by, loss_by, stops_at, reckoned, cond_stopped, gone, changed_word, changed, cards_punched, punch_size, punched, read, performed}
use Rattle.rules.specs.Running.{fetched, step, Course, run_from}
use Rattle.rules.specs.Answers.{Cell, Judged, Outcome, Reckoned}
use Rattle.rules.specs.declared.Switches.{Switches}
use Rattle.rules.specs.declared.Refusal.TheVariants.{BadAddress, NoRoom}
use Rattle.rules.specs.declared.Stop.{Stop}
use Rattle.rules.specs.declared.Stop.TheVariants.{Unconditional, Conditional, Lost}
use Rattle.rules.specs.declared.Operation.{Operation}
use Rattle.rules.specs.declared.Operation.TheVariants.{Reckon, Move, Go, Loop, Change, Read, Pch, Trace, MoveBlock, Compare}
use Rattle.rules.specs.declared.Going.{Going}
use Rattle.rules.specs.declared.Going.TheVariants.{UncStop, CondStop, TrSgn, TrExp, Tr, TrSubr, Noop}
use Rattle.rules.specs.declared.Done.TheVariants.{GoesOn, Stops}
use Rattle.rules.proofs.Tests.{false_true, both_first, both_second}
use Rattle.rules.proofs.Steps.{inputs_with, of_step}
use Rattle.rules.proofs.RoomRuns.{run_on, run_ends, count_within}

-- the same course as far as it went, and the run may go on
abbrev pub went_on : Course → Course
went_on x = record { outcome = Ok GoesOn; machine = x.machine; count = x.count }

-- ---- an order by two inputs

abbrev loss_stop : Stop → Bool
loss_stop Unconditional = false
loss_stop Conditional = false
loss_stop Lost = true

abbrev is_loss : Outcome → Bool
is_loss (Ok (Stops k w)) = loss_stop k
is_loss (Ok GoesOn) = false
is_loss (Err r) = false

abbrev pub NotLoss : Outcome → Type 0
NotLoss o = (w : ℕ) → o ≡ Ok (Stops Lost w) → ⊥

-- An order at the location l of the cells v, with the switch at u, stops the run with 03: u is STOP, by the other inputs the run goes on with
-- the same machine, the result w is in cell 000, if there is one, and the next order is the one behind.
pub record Stopped (u : Bool) (v : List Cell) (l w : ℕ) (x y : Answer) : Type 0 where
  pub on_stop_lem : u ≡ true
  pub leaves : y ≡ done x.machine
  pub first : 0 < length v → cell_at x.machine.cells 0 ≡ Some w
  pub following : x.machine.state.location ≡ l + 1

-- The answer x of that order and its answer y by the other inputs, which have the switch at t: they are the same if the run goes on, or if
-- the switches are the same and it is not 03 that stops it.
pub record Eased (u t : Bool) (v : List Cell) (l : ℕ) (x y : Answer) : Type 0 where
  pub going : may_go_on x.outcome ≡ true → y ≡ x
  pub alike : t ≡ u → NotLoss x.outcome → y ≡ x
  pub stopped : (w : ℕ) → x.outcome ≡ Ok (Stops Lost w) → Stopped u v l w x y

module _ {u t : Bool} {v : List Cell} {l : ℕ} where
  -- the same order by both, and not stopped with 03
  same : {x : Answer} → is_loss x.outcome ≡ false → Eased u t v l x x
  same f = record { going = λ e. refl; alike = λ e g. refl; stopped = λ w e. false_true (sym f ∙ ap is_loss e) }

  -- a choice by a test that is the same for both
  either_eased : (b : Bool) (x y x' y' : Answer) → Eased u t v l x x' → Eased u t v l y y' → Eased u t v l (pick b x y) (pick b x' y')
  either_eased true x y x' y' p q = p
  either_eased false x y x' y' p q = q

-- the result is stored at 000 last
result_first : (v : List Cell) (c w : ℕ) → 0 < length v → cell_at (store (store v c w) 0 w) 0 ≡ Some w
result_first [] c w h = let z : ⊥ = omega arith in absurd z
result_first (x ∷ v) zero w h = refl
result_first (x ∷ v) (suc c) w h = refl

-- j: inputs by which no loss stops a run, whose switch is on STOP only where i's is, and by which sums of addresses carry as by i
module _ (i : Inputs) (s : Switches) (q : Requests) (never : (n : ℕ) → stops_at (inputs_with s q i) n ≡ false) (less : s.stop ≡ true → i.switches.stop ≡ true)
    (sums : q.sums_carry ≡ i.requests.sums_carry) where
  abbrev j : Inputs
  j = inputs_with s q i

  abbrev Eases : Machine → Answer → Answer → Type 0
  Eases m x y = Eased i.switches.stop s.stop m.cells m.state.location x y

  reckoned_eased : (t : Bool) → (t ≡ true → i.switches.stop ≡ true) → (m : Machine) (c : ℕ) (r : Reckoned)
      → Eases m (reckoned t m c r) (reckoned false m c r)
  reckoned_eased true h m c (Ok w) =
      record {
        going = false_true;
        alike = λ e f. absurd (f w refl);
        stopped =
            λ w' e.
            let z : w ≡ w' = cc in
            record { on_stop_lem = h refl; leaves = refl; first = λ l. result_first m.cells c w l ∙ ap Some z; following = refl };
      }
  reckoned_eased false h m c (Ok w) = same refl
  reckoned_eased t h m c (Err r) = same refl

  cond_eased : (m : Machine) (b c : ℕ) (t t' : Bool) → i.switches.stop ≡ t → s.stop ≡ t' → Eases m (cond_stopped t m b c) (cond_stopped t' m b c)
  cond_eased m b c true true e f = same refl
  cond_eased m b c true false e f =
      record { going = false_true; alike = λ z g. false_true (sym f ∙ z ∙ e); stopped = λ w g. false_true (ap is_loss g) }
  cond_eased m b c false true e f = false_true (sym e ∙ less f)
  cond_eased m b c false false e f = same refl

  gone_eased : (m : Machine) (g : Going) (b c : ℕ) → Eases m (gone i m g b c) (gone j m g b c)
  unfolding gone
  gone_eased m UncStop b c = same refl
  gone_eased m CondStop b c = cond_eased m b c i.switches.stop s.stop refl refl
  gone_eased m TrSgn b c = same refl
  gone_eased m TrExp b c = same refl
  gone_eased m Tr b c = same refl
  gone_eased m TrSubr b c = same refl
  gone_eased m Noop b c = same refl

  changed_eased : (m : Machine) (b : ℕ) (r : Reckoned) → Eases m (changed m b r) (changed m b r)
  changed_eased m b (Ok w) = same refl
  changed_eased m b (Err r) = same refl

  read_eased : (m : Machine) (d : Judged) → Eases m (read i m d) (read j m d)
  read_eased m (Ok end) = same refl
  read_eased m (Err r) = same refl

  performed_eased : (m : Machine) (o : Operation) (a b c : ℕ) → Eases m (performed i m o a b c) (performed j m o a b c)
  unfolding performed punched
  performed_eased m (Reckon k) a b c =
      let x : ℕ = word_at m.cells a in
      let y : ℕ = word_at m.cells b in
      let n : ℕ = loss_by k x y (reckoned_by k x y) in
      rw (never n)
      (reckoned_eased (stops_at i n) (λ e. both_first i.switches.stop (ltb 2 n) (both_second i.requests.loss_stops (both i.switches.stop (ltb 2 n)) e)) m c
      (reckoned_by k x y))
  performed_eased m Move a b c = same refl
  performed_eased m (Go g) a b c = gone_eased m g b c
  performed_eased m (Loop x y z) a b c = same refl
  performed_eased m (Change k x) a b c =
      rw sums (changed_eased m b (changed_word i.requests.sums_carry k x (word_at m.cells b) c))
  performed_eased m Read a b c = read_eased m (judged_from i.deck m.state.reader b c)
  performed_eased m Pch a b c =
      let n : ℕ = c + 1 - b in
      let x : Answer = done (onward (cards_punched n m b n)) in
      either_eased (leb (length m.sent + punch_size n) i.room) x (undone NoRoom m) x (undone NoRoom m) (same refl) (same refl)
  performed_eased m (Trace t) a b c = same refl
  performed_eased m MoveBlock a b c = same refl
  performed_eased m (Compare x) a b c = same refl

  pub step_eased : (m : Machine) → Eases m (step i m) (step j m)
  step_eased m =
      of_step i (λ (f : Switches → Requests → Answer). Eases m (f i.switches i.requests) (f s q)) m (λ r u. same refl)
      (λ u w o h. rw (sym h.same_cells, sym h.same_location) (performed_eased u o (a_in w) (b_in w) (c_in w)))

  -- ---- runs

  run_on_both : (k : ℕ) (m : Machine) (n : ℕ) → may_go_on (step i m).outcome ≡ true → run_from j (suc k) m n ≡ run_from j k (step i m).machine (n + 1)
  run_on_both k m n u =
      let e : step j m ≡ step i m = (step_eased m).going u in
      run_on j k m n (ap (λ (x : Answer). may_go_on x.outcome) e ∙ u) ∙ ap (λ (x : Answer). run_from j k x.machine (n + 1)) e

  -- a run that 03 did not end is the same with the same switch
  pub run_same : s.stop ≡ i.switches.stop → (k : ℕ) (m : Machine) (n : ℕ) → NotLoss (run_from i k m n).outcome → run_from j k m n ≡ run_from i k m n
  unfolding run_from
  run_same z zero m n f = refl
  run_same z (suc k) m n f = by_step (may_go_on (step i m).outcome) refl (run_same z k (step i m).machine (n + 1))
    where
      by_step : (t : Bool) → may_go_on (step i m).outcome ≡ t
          → (NotLoss (run_from i k (step i m).machine (n + 1)).outcome → run_from j k (step i m).machine (n + 1) ≡ run_from i k (step i m).machine (n + 1))
          → run_from j (suc k) m n ≡ run_from i (suc k) m n
      by_step true u h =
          let o = run_on i k m n u in
          run_on_both k m n u ∙ h (λ w e. f w (ap (λ (x : Course). x.outcome) o ∙ e)) ∙ sym o
      by_step false u h =
          let e : step j m ≡ step i m = (step_eased m).alike z (λ w e. f w (ap (λ (x : Course). x.outcome) (run_ends i k m n u) ∙ e)) in
          rw (e, u, run_from, e)

  -- 03 ends a run on STOP only; and what that run left, as many orders leave by the other inputs
  pub run_stopped : (k : ℕ) (m : Machine) (n d w : ℕ) → (run_from i k m n).outcome ≡ Ok (Stops Lost w) → (run_from i k m n).count ≡ n + d
      → (i.switches.stop ≡ true) × (run_from j d m n ≡ went_on (run_from i k m n))
  unfolding run_from
  run_stopped zero m n d w e c = false_true (ap is_loss e)
  run_stopped (suc k) m n d w e c = by_step (may_go_on (step i m).outcome) refl d c (λ g. run_stopped k (step i m).machine (n + 1) g w)
    where
      by_step : (t : Bool) → may_go_on (step i m).outcome ≡ t → (d : ℕ) → (run_from i (suc k) m n).count ≡ n + d
          → ((g : ℕ) → (run_from i k (step i m).machine (n + 1)).outcome ≡ Ok (Stops Lost w) → (run_from i k (step i m).machine (n + 1)).count ≡ n + 1 + g
          → (i.switches.stop ≡ true) × (run_from j g (step i m).machine (n + 1) ≡ went_on (run_from i k (step i m).machine (n + 1))))
          → (i.switches.stop ≡ true) × (run_from j d m n ≡ went_on (run_from i (suc k) m n))
      by_step true u zero f h =
          let z : ⊥ = omega (arith, (count_within i k (step i m).machine (n + 1)).0, ap (λ (x : Course). x.count) (run_on i k m n u), f) in absurd z
      by_step true u (suc g) f h =
          let o = run_on i k m n u in
          let r = h g (sym (ap (λ (x : Course). x.outcome) o) ∙ e) (sym (ap (λ (x : Course). x.count) o) ∙ f ∙ omega arith) in
          (r.0, run_on_both g m n u ∙ r.1 ∙ ap went_on (sym o))
      by_step false u g f h =
          let o = run_ends i k m n u in
          let z : (step i m).outcome ≡ Ok (Stops Lost w) = sym (ap (λ (x : Course). x.outcome) o) ∙ e in
          let r = (step_eased m).stopped w z in
          let y : (run_from i (suc k) m n).count ≡ n + 1 = ap (λ (x : Course). x.count) o ∙ ap (λ (x : Outcome). n + completed x) z in
          let once : g ≡ 1 = omega (arith, f, y) in (
            r.on_stop_lem,
            ap (λ (x : ℕ). run_from j x m n) once
                ∙ run_on j 0 m n (ap (λ (x : Answer). may_go_on x.outcome) r.leaves)
                ∙ ap (λ (x : Answer). record { outcome = Ok GoesOn; machine = x.machine; count = n + 1 }) r.leaves
                ∙ ap (λ (x : Outcome). record { outcome = Ok GoesOn; machine = (step i m).machine; count = n + completed x }) (sym z)
                ∙ ap went_on (sym o),
          )

-- ---- cells

-- what stops a run is an order in a cell, so there are cells
pub some_cells : (i : Inputs) (m : Machine) (w : ℕ) → (step i m).outcome ≡ Ok (Stops Lost w) → 0 < length m.cells
unfolding step fetched
some_cells i m w e = by_cells m.cells (both (leb 1 m.state.location) (leb m.state.location 999)) e
  where
    by_cells : (v : List Cell) (t : Bool) → (pick t (fetched i m (cell_at v m.state.location)) (undone BadAddress m)).outcome ≡ Ok (Stops Lost w) → 0 < length v
    by_cells [] true g = false_true (ap is_loss g)
    by_cells [] false g = false_true (ap is_loss g)
    by_cells (x ∷ v) t g = omega arith
