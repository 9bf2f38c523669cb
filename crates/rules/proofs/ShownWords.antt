-- What a stop shows is a word, where each cell holds one: by a walk over all orders. Assumes nothing.
use Rattle.std.proofs.Common.{Err, None, Ok, Some}
use Prim.Native.Nat.{ℕ, zero, suc, ◌+◌, ◌-◌, ◌≤◌}
use mathlib.Core.Path.{◌≡◌, refl}
use mathlib.Core.Bool.{Bool, true, false}
use native.Mathlib.Omega.{arith}
use lib.Dec.{leb}
use lib.ListN.{length}
use Rattle.rules.specs.Words.{pick, both, a_in, b_in, c_in}
use Rattle.rules.specs.Numbers.{may_go_on, outcome_shown}
use Rattle.rules.specs.Drum.{cell_at, word_at}
use Rattle.rules.specs.Decks.{judged_from}
use Rattle.rules.specs.Codes.{codes, lookup, checked}
use Rattle.rules.specs.Machine.{Machine, Inputs, Answer, is_traced, is_tracing, onward, done, undone}
use Rattle.rules.specs.Orders.{reckoned_by, stops_by_loss, reckoned, cond_stopped, gone, changed_word, changed, cards_punched, punch_size, punched, read, performed}
use Rattle.rules.specs.Running.{allowed, obeyed_as, code_done, obeyed, as_done, order_fits, trace_sent, trace_size, traced, fetched, step, run_from}
use Rattle.rules.specs.Answers.{Built, Cell, Checked, Judged, Reckoned}
use Rattle.rules.specs.declared.Refusal.TheVariants.{BadAddress, NoRoom}
use Rattle.rules.specs.declared.Operation.{Operation}
use Rattle.rules.specs.declared.Operation.TheVariants.{Reckon, Move, Go, Loop, Change, Read, Pch, Trace, MoveBlock, Compare}
use Rattle.rules.specs.declared.Going.{Going}
use Rattle.rules.specs.declared.Going.TheVariants.{UncStop, CondStop, TrSgn, TrExp, Tr, TrSubr, Noop}
use Rattle.rules.proofs.Results.{Fits as IsWord, reckoned_fits}
use Rattle.rules.proofs.Tails.{Tail}
use Rattle.rules.proofs.SoundChanges.{Sound}
use Rattle.rules.proofs.SoundOrders.{step_sound}

abbrev ShowsWord : Answer → Type 0
ShowsWord x = outcome_shown x.outcome ≤ 19999999999

abbrev Words : Machine → Type 0
Words m = (a : ℕ) → word_at m.cells a ≤ 19999999999

either_shows : (t : Bool) (x y : Answer) → ShowsWord x → ShowsWord y → ShowsWord (pick t x y)
either_shows true x y p q = p
either_shows false x y p q = q

module _ (i : Inputs) where
  reckoning_shows : (t : Bool) (m : Machine) (c : ℕ) (r : Reckoned) → IsWord r → ShowsWord (reckoned t m c r)
  reckoning_shows true m c (Ok w) f = f
  reckoning_shows false m c (Ok w) f = omega arith
  reckoning_shows t m c (Err r) f = omega arith

  stop_shows : (m : Machine) (t : Bool) (b c : ℕ) → Words m → ShowsWord (cond_stopped t m b c)
  stop_shows m true b c h = h b
  stop_shows m false b c h = omega arith

  going_shows : (m : Machine) (g : Going) (b c : ℕ) → Words m → ShowsWord (gone i m g b c)
  unfolding gone
  going_shows m UncStop b c h = h b
  going_shows m CondStop b c h = stop_shows m i.switches.stop b c h
  going_shows m TrSgn b c h = omega arith
  going_shows m TrExp b c h = omega arith
  going_shows m Tr b c h = omega arith
  going_shows m TrSubr b c h = omega arith
  going_shows m Noop b c h = omega arith

  changing_shows : (m : Machine) (b : ℕ) (r : Reckoned) → ShowsWord (changed m b r)
  changing_shows m b (Ok w) = omega arith
  changing_shows m b (Err r) = omega arith

  reading_shows : (m : Machine) (j : Judged) → ShowsWord (read i m j)
  reading_shows m (Ok end) = omega arith
  reading_shows m (Err r) = omega arith

  performed_shows : (m : Machine) (o : Operation) (a b c : ℕ) → Words m → ShowsWord (performed i m o a b c)
  unfolding performed punched
  performed_shows m (Reckon r) a b c h =
      reckoning_shows (stops_by_loss i r (word_at m.cells a) (word_at m.cells b)) m c (reckoned_by r (word_at m.cells a) (word_at m.cells b))
      (reckoned_fits r (word_at m.cells a) (word_at m.cells b))
  performed_shows m Move a b c h = omega arith
  performed_shows m (Go g) a b c h = going_shows m g b c h
  performed_shows m (Loop x y z) a b c h = omega arith
  performed_shows m (Change k x) a b c h = changing_shows m b (changed_word i.requests.sums_carry k x (word_at m.cells b) c)
  performed_shows m Read a b c h = reading_shows m (judged_from i.deck m.state.reader b c)
  performed_shows m Pch a b c h =
      let n : ℕ = c + 1 - b in
      either_shows (leb (length m.sent + punch_size n) i.room) (done (onward (cards_punched n m b n))) (undone NoRoom m) (omega arith) (omega arith)
  performed_shows m (Trace t) a b c h = omega arith
  performed_shows m MoveBlock a b c h = omega arith
  performed_shows m (Compare x) a b c h = omega arith

  allowed_shows : (m : Machine) (o : Operation) (a b c : ℕ) (k : Checked) → Words m → ShowsWord (allowed i m o a b c k)
  allowed_shows m o a b c (Ok _) h = performed_shows m o a b c h
  allowed_shows m o a b c (Err r) h = omega arith

  obeyed_as_shows : (m : Machine) (a b c : ℕ) (k : Built) → Words m → ShowsWord (obeyed_as i m a b c k)
  obeyed_as_shows m a b c None h = omega arith
  obeyed_as_shows m a b c (Some (o, k)) h = allowed_shows m o a b c (checked k m.cells a b c) h

  obeyed_shows : (m : Machine) (w : ℕ) → Words m → ShowsWord (obeyed i m w)
  unfolding obeyed
  obeyed_shows m w h = obeyed_as_shows m (a_in w) (b_in w) (c_in w) (lookup (code_done (is_traced m.state) w) codes) h

  traced_shows : (m : Machine) (w w' : ℕ) → Words m → ShowsWord (traced i m w w')
  unfolding traced
  traced_shows m w w' h =
      either_shows (is_tracing m.state)
      (pick (leb (length m.sent + trace_size) i.room) (obeyed i (trace_sent m w w') w') (undone NoRoom m)) (obeyed i m w')
      (either_shows (leb (length m.sent + trace_size) i.room) (obeyed i (trace_sent m w w') w') (undone NoRoom m)
      (obeyed_shows (trace_sent m w w') w' h) (omega arith))
      (obeyed_shows m w' h)

  fetched_shows : (m : Machine) (x : Cell) → Words m → ShowsWord (fetched i m x)
  unfolding fetched
  fetched_shows m None h = omega arith
  fetched_shows m (Some w) h =
      either_shows (order_fits m.state w) (traced i m w (as_done m.state w)) (undone BadAddress m) (traced_shows m w (as_done m.state w) h)
      (omega arith)

  step_shows : (m : Machine) → Words m → ShowsWord (step i m)
  unfolding step
  step_shows m h =
      either_shows (both (leb 1 m.state.location) (leb m.state.location 999)) (fetched i m (cell_at m.cells m.state.location))
      (undone BadAddress m) (fetched_shows m (cell_at m.cells m.state.location) h) (omega arith)

  -- and so what a run ends with
  pub run_shows : (behind : ℕ) → Tail i.deck behind → (k : ℕ) (m : Machine) (n : ℕ) → Sound i.deck behind m
      → outcome_shown (run_from i k m n).outcome ≤ 19999999999
  unfolding run_from
  run_shows behind t zero m n h = omega arith
  run_shows behind t (suc k) m n h =
      go (may_go_on (step i m).outcome) refl (run_shows behind t k (step i m).machine (n + 1) (step_sound i behind t m h))
    where
      go : (s : Bool) → may_go_on (step i m).outcome ≡ s → outcome_shown (run_from i k (step i m).machine (n + 1)).outcome ≤ 19999999999
          → outcome_shown (run_from i (suc k) m n).outcome ≤ 19999999999
      go true e g = rw (e, run_from) g
      go false e g = rw (e, run_from) (step_shows m h.cells.words)
