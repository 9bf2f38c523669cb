-- What was sent before makes no difference to an order, and the room none but for refusals with 22: an order that is not refused for want
-- of room, in neither of two rooms, does the same in both. By a walk over all orders. Assumes nothing.
use Rattle.std.proofs.Common.{Err, None, Ok, Some}
use Prim.Native.Nat.{ℕ, zero, suc, ◌+◌, ◌-◌}
use mathlib.Core.Path.{◌≡◌, refl, ap, ◌∙◌}
use mathlib.Core.List.{List, ◌++◌, append_assoc}
use mathlib.Core.Bool.{Bool, true, false}
use lib.Dec.{eqb, leb, ltb}
use lib.ListN.{length}
use Rattle.rules.specs.Words.{pick, both, a_in, b_in, c_in}
use Rattle.rules.specs.Drum.{cell_at, word_at}
use Rattle.rules.specs.Decks.{judged_from}
use Rattle.rules.specs.Codes.{codes, lookup, checked}
use Rattle.rules.specs.Machine.{Machine, Inputs, Answer, counting, clear_box, is_traced, is_tracing, with_state, going_to, onward, done, undone}
use Rattle.rules.specs.Orders.{reckoned_by, stops_by_loss, reckoned, cond_stopped, gone, largest, raised, changed_word, changed, five, card_punched, cards_punched, punch_size, punched, read, retraced, performed}
use Rattle.rules.specs.Running.{allowed, obeyed_as, code_done, obeyed, as_done, order_fits, trace_sent, trace_size, traced, fetched, step}
use Rattle.rules.specs.Answers.{Built, Cell, Checked, Judged, Reckoned}
use Rattle.rules.specs.declared.Refusal.TheVariants.{BadAddress, NoRoom}
use Rattle.rules.specs.declared.Operation.{Operation}
use Rattle.rules.specs.declared.Operation.TheVariants.{Reckon, Move, Go, Loop, Change, Read, Pch, Trace, MoveBlock, Compare}
use Rattle.rules.specs.declared.Going.{Going}
use Rattle.rules.specs.declared.Going.TheVariants.{UncStop, CondStop, TrSgn, TrExp, Tr, TrSubr, Noop}
use Rattle.rules.specs.declared.Tracing.{Tracing}
use Rattle.rules.specs.declared.Tracing.TheVariants.{StartTr, StopTr, StTrEras}

-- the same but for the room; the same with p sent before
abbrev pub in_room : ℕ → Inputs → Inputs
in_room r i = record { deck = i.deck; room = r; switches = i.switches; requests = i.requests }

abbrev pub sent_before : List ℕ → Machine → Machine
sent_before p m = record { cells = m.cells; sent = p ++ m.sent; state = m.state }

abbrev pub answered_behind : List ℕ → Answer → Answer
answered_behind p x = record { outcome = x.outcome; machine = sent_before p x.machine }

-- x is the answer without p, y the one behind it
pub data Alike (p : List ℕ) (x y : Answer) : Type 0 where
  first_full : x.outcome ≡ Err NoRoom → Alike p x y
  second_full : y.outcome ≡ Err NoRoom → Alike p x y
  alike : y ≡ answered_behind p x → Alike p x y

-- cards
trace_behind : (p : List ℕ) (m : Machine) (w w' : ℕ) → trace_sent (sent_before p m) w w' ≡ sent_before p (trace_sent m w w')
trace_behind p m w w' =
    ap (λ (s : List ℕ). record { cells = m.cells; sent = s; state = (trace_sent m w w').state }) (append_assoc p m.sent _)

card_behind : (p : List ℕ) (m : Machine) (b n : ℕ) → card_punched (sent_before p m) b n ≡ sent_before p (card_punched m b n)
card_behind p m b n = ap (λ (s : List ℕ). record { cells = m.cells; sent = s; state = (card_punched m b n).state }) (append_assoc p m.sent _)

cards_behind : (p : List ℕ) (j : ℕ) (m : Machine) (b n : ℕ) → cards_punched j (sent_before p m) b n ≡ sent_before p (cards_punched j m b n)
unfolding cards_punched
cards_behind p zero m b n = refl
cards_behind p (suc j) m b n = go (eqb n 0) refl (cards_behind p j (card_punched m b (five n)) (b + five n) (n - five n))
  where
    go : (t : Bool) → eqb n 0 ≡ t
        → cards_punched j (sent_before p (card_punched m b (five n))) (b + five n) (n - five n) ≡ sent_before p (cards_punched j (card_punched m b (five n)) (b + five n) (n - five n))
        → cards_punched (suc j) (sent_before p m) b n ≡ sent_before p (cards_punched (suc j) m b n)
    go true e r = rw (e, cards_punched)
    go false e r = rw (e, cards_punched) (ap (λ (u : Machine). cards_punched j u (b + five n) (n - five n)) (card_behind p m b (five n)) ∙ r)

module _ (p : List ℕ) (r : ℕ) (i : Inputs) where
  abbrev other : Inputs
  other = in_room r i

  same : (x : Answer) → Alike p x (answered_behind p x)
  same x = alike refl

  -- a choice by a test that is the same for both
  either_alike : (t : Bool) (x y x' y' : Answer) → Alike p x x' → Alike p y y' → Alike p (pick t x y) (pick t x' y')
  either_alike true x y x' y' a b = a
  either_alike false x y x' y' a b = b

  -- a choice by the room
  room_alike : (t t' : Bool) (m : Machine) (x x' : Answer) → Alike p x x'
      → Alike p (pick t x (undone NoRoom m)) (pick t' x' (undone NoRoom (sent_before p m)))
  room_alike true true m x x' a = a
  room_alike true false m x x' a = second_full refl
  room_alike false t' m x x' a = first_full refl

  reckoned_alike : (t : Bool) (m : Machine) (c : ℕ) (x : Reckoned) → Alike p (reckoned t m c x) (reckoned t (sent_before p m) c x)
  reckoned_alike t m c (Ok w) = alike refl
  reckoned_alike t m c (Err f) = alike refl

  changed_alike : (m : Machine) (b : ℕ) (x : Reckoned) → Alike p (changed m b x) (changed (sent_before p m) b x)
  changed_alike m b (Ok w) = alike refl
  changed_alike m b (Err f) = alike refl

  cond_alike : (t : Bool) (m : Machine) (b c : ℕ) → Alike p (cond_stopped t m b c) (cond_stopped t (sent_before p m) b c)
  cond_alike true m b c = alike refl
  cond_alike false m b c = alike refl

  gone_alike : (m : Machine) (g : Going) (b c : ℕ) → Alike p (gone i m g b c) (gone other (sent_before p m) g b c)
  unfolding gone
  gone_alike m UncStop b c = alike refl
  gone_alike m CondStop b c = cond_alike i.switches.stop m b c
  gone_alike m TrSgn b c = alike refl
  gone_alike m TrExp b c = alike refl
  gone_alike m Tr b c = alike refl
  gone_alike m TrSubr b c = alike refl
  gone_alike m Noop b c = alike refl

  read_alike : (m : Machine) (j : Judged) → Alike p (read i m j) (read other (sent_before p m) j)
  read_alike m (Ok end) = alike refl
  read_alike m (Err f) = alike refl

  round_alike : (m : Machine) (x y z : Bool) (c : ℕ) (t : Bool)
      → Alike p
      (done (pick t (going_to (with_state m (counting m.state (raised m.state x y z))) c) (onward (with_state m (counting m.state clear_box)))))
      (done (pick t (going_to (with_state (sent_before p m) (counting m.state (raised m.state x y z))) c) (onward (with_state (sent_before p m) (counting m.state clear_box)))))
  round_alike m x y z c true = alike refl
  round_alike m x y z c false = alike refl

  retraced_alike : (m : Machine) (t : Tracing) → Alike p (done (retraced m t)) (done (retraced (sent_before p m) t))
  retraced_alike m StartTr = alike refl
  retraced_alike m StopTr = alike refl
  retraced_alike m StTrEras = alike refl

  performed_alike : (m : Machine) (o : Operation) (a b c : ℕ) → Alike p (performed i m o a b c) (performed other (sent_before p m) o a b c)
  unfolding performed punched
  performed_alike m (Reckon k) a b c =
      reckoned_alike (stops_by_loss i k (word_at m.cells a) (word_at m.cells b)) m c (reckoned_by k (word_at m.cells a) (word_at m.cells b))
  performed_alike m Move a b c = alike refl
  performed_alike m (Go g) a b c = gone_alike m g b c
  performed_alike m (Loop x y z) a b c = round_alike m x y z c (ltb (largest m.state x y z) b)
  performed_alike m (Change k x) a b c = changed_alike m b (changed_word i.requests.sums_carry k x (word_at m.cells b) c)
  performed_alike m Read a b c = read_alike m (judged_from i.deck m.state.reader b c)
  performed_alike m Pch a b c =
      let n : ℕ = c + 1 - b in
      room_alike (leb (length m.sent + punch_size n) i.room) (leb (length (p ++ m.sent) + punch_size n) r) m
      (done (onward (cards_punched n m b n))) (done (onward (cards_punched n (sent_before p m) b n)))
      (alike (ap (λ (u : Machine). done (onward u)) (cards_behind p n m b n)))
  performed_alike m (Trace t) a b c = retraced_alike m t
  performed_alike m MoveBlock a b c = alike refl
  performed_alike m (Compare x) a b c = alike refl

  allowed_alike : (m : Machine) (o : Operation) (a b c : ℕ) (k : Checked) → Alike p (allowed i m o a b c k) (allowed other (sent_before p m) o a b c k)
  allowed_alike m o a b c (Ok _) = performed_alike m o a b c
  allowed_alike m o a b c (Err f) = alike refl

  as_alike : (m : Machine) (a b c : ℕ) (k : Built) → Alike p (obeyed_as i m a b c k) (obeyed_as other (sent_before p m) a b c k)
  as_alike m a b c None = alike refl
  as_alike m a b c (Some (o, k)) = allowed_alike m o a b c (checked k m.cells a b c)

  obeyed_alike : (m : Machine) (w : ℕ) → Alike p (obeyed i m w) (obeyed other (sent_before p m) w)
  unfolding obeyed
  obeyed_alike m w = as_alike m (a_in w) (b_in w) (c_in w) (lookup (code_done (is_traced m.state) w) codes)

  traced_alike : (m : Machine) (w w' : ℕ) → Alike p (traced i m w w') (traced other (sent_before p m) w w')
  unfolding traced
  traced_alike m w w' =
      either_alike (is_tracing m.state)
      (pick (leb (length m.sent + trace_size) i.room) (obeyed i (trace_sent m w w') w') (undone NoRoom m)) (obeyed i m w')
      (pick (leb (length (p ++ m.sent) + trace_size) r) (obeyed other (trace_sent (sent_before p m) w w') w') (undone NoRoom (sent_before p m)))
      (obeyed other (sent_before p m) w')
      (room_alike (leb (length m.sent + trace_size) i.room) (leb (length (p ++ m.sent) + trace_size) r) m (obeyed i (trace_sent m w w') w')
      (obeyed other (trace_sent (sent_before p m) w w') w')
      (rw (trace_behind p m w w') (obeyed_alike (trace_sent m w w') w')))
      (obeyed_alike m w')

  fetched_alike : (m : Machine) (x : Cell) → Alike p (fetched i m x) (fetched other (sent_before p m) x)
  unfolding fetched
  fetched_alike m None = alike refl
  fetched_alike m (Some w) =
      either_alike (order_fits m.state w) (traced i m w (as_done m.state w)) (undone BadAddress m)
      (traced other (sent_before p m) w (as_done m.state w)) (undone BadAddress (sent_before p m))
      (traced_alike m w (as_done m.state w)) (alike refl)

  pub step_alike : (m : Machine) → Alike p (step i m) (step other (sent_before p m))
  unfolding step
  step_alike m =
      either_alike (both (leb 1 m.state.location) (leb m.state.location 999)) (fetched i m (cell_at m.cells m.state.location))
      (undone BadAddress m) (fetched other (sent_before p m) (cell_at m.cells m.state.location)) (undone BadAddress (sent_before p m))
      (fetched_alike m (cell_at m.cells m.state.location)) (alike refl)
