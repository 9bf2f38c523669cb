-- Every order, and so every run, keeps the machine sound: by a walk over all orders. Assumes nothing.
use Rattle.std.proofs.Common.{Err, None, Ok, Some}
use Prim.Native.Nat.{ℕ, zero, suc, ◌+◌, ◌-◌, ◌≤◌}
use mathlib.Core.Path.{◌≡◌, refl}
use mathlib.Core.Bool.{Bool, true, false}
use native.Mathlib.Omega.{arith}
use lib.Dec.{leb, ltb}
use lib.ListN.{length}
use borrow.Author.Tests.{leb-true}
use Rattle.rules.specs.Words.{pick, both, a_in, b_in, c_in}
use Rattle.rules.specs.Numbers.{may_go_on}
use Rattle.rules.specs.Drum.{cell_at, word_at}
use Rattle.rules.specs.Decks.{data_from, cards_stored, judged_from}
use Rattle.rules.specs.Codes.{codes, lookup, checked}
use Rattle.rules.specs.Machine.{Machine, Inputs, Answer, is_traced, is_tracing, onward, done, undone}
use Rattle.rules.specs.Orders.{reckoned_by, stops_by_loss, largest, changed_word, cards_punched, punch_size, punched, read, performed}
use Rattle.rules.specs.Running.{allowed, obeyed_as, code_done, obeyed, as_done, order_fits, trace_sent, trace_size, traced, fetched, step, run_from}
use Rattle.rules.specs.Answers.{Built, Cell, Checked, Judged}
use Rattle.rules.specs.declared.Refusal.TheVariants.{BadAddress, NoRoom}
use Rattle.rules.specs.declared.Operation.{Operation}
use Rattle.rules.specs.declared.Operation.TheVariants.{Reckon, Move, Go, Loop, Change, Read, Pch, Trace, MoveBlock, Compare}
use Rattle.rules.proofs.Tests.{both_second}
use Rattle.rules.proofs.Results.{reckoned_fits}
use Rattle.rules.proofs.Changes.{changed_fits}
use Rattle.rules.proofs.Tails.{Tail}
use Rattle.rules.proofs.Readers.{tail_from, read_leaves}
use Rattle.rules.proofs.SoundChanges.{Sound, cards_stored_lem, punched_location, either_sound, goes_on, stores, sends, reckons, goings, loops, changes, compares, punches, moves, retraces, reads_to}

module _ (i : Inputs) (behind : ℕ) (tail : Tail i.deck behind) where
  abbrev Keeps : Machine → Answer → Type 0
  Keeps m x = Sound i.deck behind m → Sound i.deck behind x.machine

  reads : (m : Machine) (b c : ℕ) → m.state.location ≤ 999 → (j : Judged) → judged_from i.deck m.state.reader b c ≡ j → Keeps m (read i m j)
  reads m b c l (Ok end) e h =
      let f = tail_from i.deck behind m.state.reader tail h.state.reader in
      goes_on l
      (reads_to m (cards_stored end (data_from i.deck m.state.reader) m.cells) end
      (cards_stored_lem i.deck m.state.reader end f.tail h.cells)
      (read_leaves i.deck behind m.state.reader b c end tail h.state.reader e) h)
  reads m b c l (Err r) e h = h

  performs : (m : Machine) (o : Operation) (a b c : ℕ) → b ≤ 999 → c ≤ 999 → m.state.location ≤ 999 → Keeps m (performed i m o a b c)
  unfolding performed punched
  performs m (Reckon r) a b c j k l h =
      reckons (stops_by_loss i r (word_at m.cells a) (word_at m.cells b)) m c (reckoned_by r (word_at m.cells a) (word_at m.cells b))
      (reckoned_fits r (word_at m.cells a) (word_at m.cells b)) l h
  performs m Move a b c j k l h =
      let w : ℕ = word_at m.cells b in
      goes_on l (stores 0 w (h.cells.words b) (stores c w (h.cells.words b) h))
  performs m (Go g) a b c j k l h = goings i m g b c j k l h
  performs m (Loop x y z) a b c j k l h = loops m x y z b c j k l h (ltb (largest m.state x y z) b) refl
  performs m (Change k x) a b c j n l h =
      let w : ℕ = word_at m.cells b in
      changes m b (changed_word i.requests.sums_carry k x w c) (changed_fits i.requests.sums_carry k x w c (h.cells.words b) n) l h
  performs m Read a b c j k l h = reads m b c l (judged_from i.deck m.state.reader b c) refl h
  performs m Pch a b c j k l h =
      let n : ℕ = c + 1 - b in
      either_sound (leb (length m.sent + punch_size n) i.room) (done (onward (cards_punched n m b n))) (undone NoRoom m)
      (goes_on (rw (punched_location n m b n) l) (punches n m b n h)) h
  performs m (Trace t) a b c j k l h = retraces m t l h
  performs m MoveBlock a b c j k l h = goes_on l (moves m a b c h)
  performs m (Compare x) a b c j k l h = compares m x a b c k l h

  alloweds : (m : Machine) (o : Operation) (a b c : ℕ) (k : Checked) → b ≤ 999 → c ≤ 999 → m.state.location ≤ 999 → Keeps m (allowed i m o a b c k)
  alloweds m o a b c (Ok _) p q l h = performs m o a b c p q l h
  alloweds m o a b c (Err r) p q l h = h

  obeys_as : (m : Machine) (a b c : ℕ) (k : Built) → b ≤ 999 → c ≤ 999 → m.state.location ≤ 999 → Keeps m (obeyed_as i m a b c k)
  obeys_as m a b c None p q l h = h
  obeys_as m a b c (Some (o, k)) p q l h = alloweds m o a b c (checked k m.cells a b c) p q l h

  obeys : (m : Machine) (w : ℕ) → m.state.location ≤ 999 → Keeps m (obeyed i m w)
  unfolding obeyed
  obeys m w l h = obeys_as m (a_in w) (b_in w) (c_in w) (lookup (code_done (is_traced m.state) w) codes) (omega arith) (omega arith) l h

  traceds : (m : Machine) (w w' : ℕ) → m.state.location ≤ 999 → Keeps m (traced i m w w')
  unfolding traced
  traceds m w w' l h =
      either_sound (is_tracing m.state)
      (pick (leb (length m.sent + trace_size) i.room) (obeyed i (trace_sent m w w') w') (undone NoRoom m)) (obeyed i m w')
      (either_sound (leb (length m.sent + trace_size) i.room) (obeyed i (trace_sent m w w') w') (undone NoRoom m)
      (obeys (trace_sent m w w') w' l (sends _ h)) h)
      (obeys m w' l h)

  fetches : (m : Machine) (x : Cell) → m.state.location ≤ 999 → Keeps m (fetched i m x)
  unfolding fetched
  fetches m None l h = h
  fetches m (Some w) l h =
      either_sound (order_fits m.state w) (traced i m w (as_done m.state w)) (undone BadAddress m) (traceds m w (as_done m.state w) l h) h

  pub step_sound : (m : Machine) → Keeps m (step i m)
  unfolding step
  step_sound m h = by_place (both (leb 1 m.state.location) (leb m.state.location 999)) refl
    where
      by_place : (t : Bool) → both (leb 1 m.state.location) (leb m.state.location 999) ≡ t
          → Sound i.deck behind (pick t (fetched i m (cell_at m.cells m.state.location)) (undone BadAddress m)).machine
      by_place true e =
          fetches m (cell_at m.cells m.state.location)
          (leb-true m.state.location 999 (both_second (leb 1 m.state.location) (leb m.state.location 999) e)) h
      by_place false e = h

  pub run_sound : (k : ℕ) (m : Machine) (n : ℕ) → Sound i.deck behind m → Sound i.deck behind (run_from i k m n).machine
  unfolding run_from
  run_sound zero m n h = h
  run_sound (suc k) m n h = go (may_go_on (step i m).outcome) refl (run_sound k (step i m).machine (n + 1) (step_sound m h))
    where
      go : (t : Bool) → may_go_on (step i m).outcome ≡ t → Sound i.deck behind (run_from i k (step i m).machine (n + 1)).machine
          → Sound i.deck behind (run_from i (suc k) m n).machine
      go true e g = rw (e, run_from) g
      go false e g = rw (e, run_from) (step_sound m h)
