-- What a refused order leaves: itself undone, and nothing but its trace card. Every refusal is answered with the machine as the order
-- found it, and so is the stop 00. Assumes nothing.
use Rattle.std.proofs.Common.{Err, None, Ok, Some}
use Prim.Native.Nat.{ℕ, ◌+◌, ◌-◌}
use mathlib.Core.Path.{◌≡◌, refl}
use mathlib.Core.Logic.{inl, inr}
use mathlib.Core.Bool.{Bool, true, false}
use lib.Dec.{eqb, leb}
use lib.ListN.{length}
use Rattle.rules.specs.Words.{pick, both, a_in, b_in, c_in}
use Rattle.rules.specs.Numbers.{tries_again}
use Rattle.rules.specs.Drum.{cell_at, word_at}
use Rattle.rules.specs.Decks.{judged_from}
use Rattle.rules.specs.Codes.{codes, lookup, code_in, checked, pch_code}
use Rattle.rules.specs.Machine.{Machine, Inputs, Answer, is_traced, is_tracing, onward, done, undone}
use Rattle.rules.specs.Orders.{reckoned_by, stops_by_loss, reckoned, cond_stopped, gone, changed_word, changed, punch_size, cards_punched, punched, read, performed}
use Rattle.rules.specs.Running.{allowed, obeyed_as, code_done, obeyed, as_done, order_fits, trace_sent, trace_size, traced, fetched, step, Left}
use Rattle.rules.specs.Answers.{Built, Cell, Checked, Judged, Reckoned}
use Rattle.rules.specs.declared.Refusal.TheVariants.{BadAddress, NoRoom}
use Rattle.rules.specs.declared.Operation.{Operation}
use Rattle.rules.specs.declared.Operation.TheVariants.{Reckon, Move, Go, Loop, Change, Read, Pch, Trace, MoveBlock, Compare}
use Rattle.rules.specs.declared.Going.{Going}
use Rattle.rules.specs.declared.Going.TheVariants.{UncStop, CondStop, TrSgn, TrExp, Tr, TrSubr, Noop}
use Rattle.rules.proofs.Tests.{false_true}

-- if the order is to be tried again, the machine is as it was
abbrev pub Stays : Machine → Answer → Type 0
Stays m x = tries_again x.outcome ≡ true → x.machine ≡ m

pick_stays : (m : Machine) (t : Bool) (x y : Answer) → Stays m x → Stays m y → Stays m (pick t x y)
pick_stays m true x y p q = p
pick_stays m false x y p q = q

reckoned_stays : (t : Bool) (m : Machine) (c : ℕ) (r : Reckoned) → Stays m (reckoned t m c r)
reckoned_stays true m c (Ok w) = false_true
reckoned_stays false m c (Ok w) = false_true
reckoned_stays t m c (Err r) = λ e. refl

changed_stays : (m : Machine) (b : ℕ) (r : Reckoned) → Stays m (changed m b r)
changed_stays m b (Ok w) = false_true
changed_stays m b (Err r) = λ e. refl

cond_stays : (t : Bool) (m : Machine) (b c : ℕ) → Stays m (cond_stopped t m b c)
cond_stays true m b c = false_true
cond_stays false m b c = false_true

read_stays : (i : Inputs) (m : Machine) (j : Judged) → Stays m (read i m j)
read_stays i m (Ok end) = false_true
read_stays i m (Err r) = λ e. refl

punched_stays : (i : Inputs) (m : Machine) (b n : ℕ) → Stays m (punched i m b n)
unfolding punched
punched_stays i m b n =
    pick_stays m (leb (length m.sent + punch_size n) i.room) (done (onward (cards_punched n m b n))) (undone NoRoom m) false_true (λ e. refl)

gone_stays : (i : Inputs) (m : Machine) (g : Going) (b c : ℕ) → Stays m (gone i m g b c)
unfolding gone
gone_stays i m UncStop b c = λ e. refl
gone_stays i m CondStop b c = cond_stays i.switches.stop m b c
gone_stays i m TrSgn b c = false_true
gone_stays i m TrExp b c = false_true
gone_stays i m Tr b c = false_true
gone_stays i m TrSubr b c = false_true
gone_stays i m Noop b c = false_true

pub performed_stays : (i : Inputs) (m : Machine) (o : Operation) (a b c : ℕ) → Stays m (performed i m o a b c)
unfolding performed
performed_stays i m (Reckon r) a b c =
    reckoned_stays (stops_by_loss i r (word_at m.cells a) (word_at m.cells b)) m c (reckoned_by r (word_at m.cells a) (word_at m.cells b))
performed_stays i m Move a b c = false_true
performed_stays i m (Go g) a b c = gone_stays i m g b c
performed_stays i m (Loop x y z) a b c = false_true
performed_stays i m (Change k x) a b c = changed_stays m b (changed_word i.requests.sums_carry k x (word_at m.cells b) c)
performed_stays i m Read a b c = read_stays i m (judged_from i.deck m.state.reader b c)
performed_stays i m Pch a b c = punched_stays i m b (c + 1 - b)
performed_stays i m (Trace t) a b c = false_true
performed_stays i m MoveBlock a b c = false_true
performed_stays i m (Compare x) a b c = false_true

allowed_stays : (i : Inputs) (m : Machine) (o : Operation) (a b c : ℕ) (k : Checked) → Stays m (allowed i m o a b c k)
allowed_stays i m o a b c (Ok _) = performed_stays i m o a b c
allowed_stays i m o a b c (Err r) = λ e. refl

as_stays : (i : Inputs) (m : Machine) (a b c : ℕ) (k : Built) → Stays m (obeyed_as i m a b c k)
as_stays i m a b c None = λ e. refl
as_stays i m a b c (Some (o, k)) = allowed_stays i m o a b c (checked k m.cells a b c)

pub obeyed_stays : (i : Inputs) (m : Machine) (w : ℕ) → Stays m (obeyed i m w)
unfolding obeyed
obeyed_stays i m w =
    as_stays i m (a_in w) (b_in w) (c_in w) (lookup (code_done (is_traced m.state) w) codes)

abbrev Leaves : Machine → Answer → Type 0
Leaves m x = tries_again x.outcome ≡ true → Left m x.machine

pick_leaves : (m : Machine) (t : Bool) (x y : Answer) → Leaves m x → Leaves m y → Leaves m (pick t x y)
pick_leaves m true x y p q = p
pick_leaves m false x y p q = q

traced_leaves : (i : Inputs) (m : Machine) (w : ℕ) → cell_at m.cells m.state.location ≡ Some w
    → Leaves m (traced i m w (as_done m.state w))
unfolding traced
traced_leaves i m w q =
    let w' : ℕ = as_done m.state w in
    pick_leaves m (is_tracing m.state)
    (pick (leb (length m.sent + trace_size) i.room) (obeyed i (trace_sent m w w') w') (undone NoRoom m)) (obeyed i m w')
    (pick_leaves m (leb (length m.sent + trace_size) i.room) (obeyed i (trace_sent m w w') w') (undone NoRoom m)
    (λ e. inr (w, q, obeyed_stays i (trace_sent m w w') w' e)) (λ e. inl refl))
    (λ e. inl (obeyed_stays i m w' e))

fetched_leaves : (i : Inputs) (m : Machine) (x : Cell) → cell_at m.cells m.state.location ≡ x → Leaves m (fetched i m x)
unfolding fetched
fetched_leaves i m None q = λ e. inl refl
fetched_leaves i m (Some w) q =
    pick_leaves m (order_fits m.state w) (traced i m w (as_done m.state w)) (undone BadAddress m) (traced_leaves i m w q) (λ e. inl refl)

pub step_leaves : (i : Inputs) (m : Machine) → Leaves m (step i m)
unfolding step
step_leaves i m =
    pick_leaves m (both (leb 1 m.state.location) (leb m.state.location 999)) (fetched i m (cell_at m.cells m.state.location))
    (undone BadAddress m) (fetched_leaves i m (cell_at m.cells m.state.location) refl) (λ e. inl refl)

-- In traced mode PCH goes on to the next order and does nothing else, whatever its addresses. Nothing cites this law: it stands to hold the
-- definitions to the rule, and a bad PCH that is refused in traced mode fails here.
pub pch_idle : (i : Inputs) (m : Machine) (w : ℕ) → is_traced m.state ≡ true → eqb (code_in w) pch_code ≡ true
    → obeyed i m w ≡ done (onward m)
unfolding obeyed codes lookup checked performed gone
pch_idle i m w t k = rw (t, k)
