-- No order changes the mode: so the table of codes is laid out for it once a run. Assumes nothing.
use Rattle.std.proofs.Common.{Err, None, Ok, Some}
use Prim.Native.Nat.{ℕ, zero, suc, ◌+◌, ◌-◌}
use mathlib.Core.Path.{◌≡◌, refl}
use mathlib.Core.Bool.{Bool, true, false}
use lib.Dec.{eqb, leb, ltb}
use lib.ListN.{length}
use Rattle.rules.specs.Words.{pick, both, a_in, b_in, c_in}
use Rattle.rules.specs.Drum.{cell_at, word_at}
use Rattle.rules.specs.Decks.{judged_from}
use Rattle.rules.specs.Codes.{codes, lookup, checked}
use Rattle.rules.specs.Machine.{Machine, Inputs, Answer, counting, clear_box, is_traced, is_tracing, with_state, tracing_set, going_to, onward, done, undone}
use Rattle.rules.specs.Orders.{reckoned_by, stops_by_loss, reckoned, cond_stopped, gone, largest, raised, changed_word, changed, five, card_punched, cards_punched, punch_size, punched, read, retraced, performed}
use Rattle.rules.specs.Running.{order_fits, as_done, allowed, obeyed_as, code_done, obeyed, trace_size, trace_sent, traced, fetched, step}
use Rattle.rules.specs.Answers.{Built, Cell, Checked, Judged, Reckoned}
use Rattle.rules.specs.declared.Refusal.TheVariants.{BadAddress, NoRoom}
use Rattle.rules.specs.declared.Going.{Going}
use Rattle.rules.specs.declared.Going.TheVariants.{UncStop, CondStop, TrSgn, TrExp, Tr, TrSubr, Noop}
use Rattle.rules.specs.declared.Tracing.{Tracing}
use Rattle.rules.specs.declared.Tracing.TheVariants.{StartTr, StopTr, StTrEras}
use Rattle.rules.specs.declared.Operation.{Operation}
use Rattle.rules.specs.declared.Operation.TheVariants.{Reckon, Move, Go, Loop, Change, Read, Pch, Trace, MoveBlock, Compare}

-- the mode after it is the one before
abbrev Same : Machine → Machine → Type 0
Same m u = u.state.mode ≡ m.state.mode

either_same : (m : Machine) (t : Bool) (x y : Answer) → Same m x.machine → Same m y.machine → Same m (pick t x y).machine
either_same m true x y p q = p
either_same m false x y p q = q

-- ---- orders

reckoned_same : (t : Bool) (m : Machine) (c : ℕ) (r : Reckoned) → Same m (reckoned t m c r).machine
reckoned_same t m c (Ok w) = refl
reckoned_same t m c (Err f) = refl

changed_same : (m : Machine) (b : ℕ) (r : Reckoned) → Same m (changed m b r).machine
changed_same m b (Ok w) = refl
changed_same m b (Err f) = refl

cond_same : (t : Bool) (m : Machine) (b c : ℕ) → Same m (cond_stopped t m b c).machine
cond_same true m b c = refl
cond_same false m b c = refl

gone_same : (i : Inputs) (m : Machine) (g : Going) (b c : ℕ) → Same m (gone i m g b c).machine
unfolding gone
gone_same i m UncStop b c = refl
gone_same i m CondStop b c = cond_same i.switches.stop m b c
gone_same i m TrSgn b c = refl
gone_same i m TrExp b c = refl
gone_same i m Tr b c = refl
gone_same i m TrSubr b c = refl
gone_same i m Noop b c = refl

turned_same : (m : Machine) (t : ℕ) (b : Bool) → Same m (with_state m (pick b (tracing_set m.state t) m.state))
turned_same m t true = refl
turned_same m t false = refl

retraced_same : (m : Machine) (t : Tracing) → Same m (retraced m t)
retraced_same m StartTr = turned_same m 1 (is_traced m.state)
retraced_same m StopTr = turned_same m 0 (is_traced m.state)
retraced_same m StTrEras = turned_same m 1 (is_traced m.state)

read_same : (i : Inputs) (m : Machine) (j : Judged) → Same m (read i m j).machine
read_same i m (Ok end) = refl
read_same i m (Err r) = refl

cards_same : (j : ℕ) (m : Machine) (b n : ℕ) → Same m (cards_punched j m b n)
unfolding cards_punched
cards_same zero m b n = refl
cards_same (suc j) m b n = go (eqb n 0) refl (cards_same j (card_punched m b (five n)) (b + five n) (n - five n))
  where
    go : (t : Bool) → eqb n 0 ≡ t → Same m (cards_punched j (card_punched m b (five n)) (b + five n) (n - five n)) → Same m (cards_punched (suc j) m b n)
    go true e r = rw (e, cards_punched)
    go false e r = rw (e, cards_punched) r

performed_same : (i : Inputs) (m : Machine) (o : Operation) (a b c : ℕ) → Same m (performed i m o a b c).machine
unfolding performed punched
performed_same i m (Reckon r) a b c =
    reckoned_same (stops_by_loss i r (word_at m.cells a) (word_at m.cells b)) m c (reckoned_by r (word_at m.cells a) (word_at m.cells b))
performed_same i m Move a b c = refl
performed_same i m (Go g) a b c = gone_same i m g b c
performed_same i m (Loop x y z) a b c = round_same (ltb (largest m.state x y z) b)
  where
    round_same : (t : Bool)
        → Same m (pick t (going_to (with_state m (counting m.state (raised m.state x y z))) c) (onward (with_state m (counting m.state clear_box))))
    round_same true = refl
    round_same false = refl
performed_same i m (Change k x) a b c = changed_same m b (changed_word i.requests.sums_carry k x (word_at m.cells b) c)
performed_same i m Read a b c = read_same i m (judged_from i.deck m.state.reader b c)
performed_same i m Pch a b c =
    let n : ℕ = c + 1 - b in
    either_same m (leb (length m.sent + punch_size n) i.room) (done (onward (cards_punched n m b n))) (undone NoRoom m) (cards_same n m b n) refl
performed_same i m (Trace t) a b c = retraced_same m t
performed_same i m MoveBlock a b c = refl
performed_same i m (Compare x) a b c = refl

-- ---- a whole order

allowed_same : (i : Inputs) (m : Machine) (o : Operation) (a b c : ℕ) (k : Checked) → Same m (allowed i m o a b c k).machine
allowed_same i m o a b c (Ok _) = performed_same i m o a b c
allowed_same i m o a b c (Err r) = refl

as_same : (i : Inputs) (m : Machine) (a b c : ℕ) (k : Built) → Same m (obeyed_as i m a b c k).machine
as_same i m a b c None = refl
as_same i m a b c (Some (o, k)) = allowed_same i m o a b c (checked k m.cells a b c)

obeyed_same : (i : Inputs) (m : Machine) (w : ℕ) → Same m (obeyed i m w).machine
unfolding obeyed
obeyed_same i m w = as_same i m (a_in w) (b_in w) (c_in w) (lookup (code_done (is_traced m.state) w) codes)

traced_same : (i : Inputs) (m : Machine) (w x : ℕ) → Same m (traced i m w x).machine
unfolding traced
traced_same i m w x =
    let told : Answer = pick (leb (length m.sent + trace_size) i.room) (obeyed i (trace_sent m w x) x) (undone NoRoom m) in
    either_same m (is_tracing m.state) told (obeyed i m x)
    (either_same m (leb (length m.sent + trace_size) i.room) (obeyed i (trace_sent m w x) x) (undone NoRoom m) (obeyed_same i (trace_sent m w x) x) refl)
    (obeyed_same i m x)

fetched_same : (i : Inputs) (m : Machine) (x : Cell) → Same m (fetched i m x).machine
unfolding fetched
fetched_same i m None = refl
fetched_same i m (Some w) =
    either_same m (order_fits m.state w) (traced i m w (as_done m.state w)) (undone BadAddress m) (traced_same i m w (as_done m.state w)) refl

pub mode_kept : (i : Inputs) (m : Machine) → (step i m).machine.state.mode ≡ m.state.mode
unfolding step
mode_kept i m =
    either_same m (both (leb 1 m.state.location) (leb m.state.location 999)) (fetched i m (cell_at m.cells m.state.location))
    (undone BadAddress m) (fetched_same i m (cell_at m.cells m.state.location)) refl
