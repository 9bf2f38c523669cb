-- A mark once set stays: no order, run or load takes one away, since the one change of cells is a store. Assumes nothing.
use Rattle.std.proofs.Common.{Err, None, Ok, Some}
use Prim.Native.Nat.{ℕ, zero, suc, ◌+◌, ◌-◌}
use mathlib.Core.Path.{◌≡◌, refl, sym, subst}
use mathlib.Core.List.{List, [], ◌∷◌}
use mathlib.Core.Bool.{Bool, true, false}
use lib.Dec.{eqb, leb, ltb}
use lib.ListN.{length}
use Rattle.rules.specs.Words.{pick, both, a_in, b_in, c_in}
use Rattle.rules.specs.Numbers.{may_go_on}
use Rattle.rules.specs.Drum.{cell_at, word_at, store}
use Rattle.rules.specs.Cards.{word_in, word_place}
use Rattle.rules.specs.Decks.{DataCard, data_from, words_stored, cards_stored, judged_from}
use Rattle.rules.specs.Codes.{codes, lookup, checked}
use Rattle.rules.specs.Machine.{Machine, Inputs, Answer, counting, clear_box, is_traced, is_tracing, with_state, going_to, onward, done, undone}
use Rattle.rules.specs.Orders.{reckoned_by, stops_by_loss, reckoned, cond_stopped, gone, largest, raised, changed_word, changed, five, card_punched, cards_punched, punch_size, punched, words_from, read, erased, retraced, performed}
use Rattle.rules.specs.Running.{allowed, obeyed_as, code_done, obeyed, as_done, order_fits, trace_sent, trace_size, traced, fetched, step, run_from}
use Rattle.rules.specs.Answers.{Built, Cell, Checked, Judged, Reckoned}
use Rattle.rules.specs.declared.Refusal.TheVariants.{BadAddress, NoRoom}
use Rattle.rules.specs.declared.Operation.{Operation}
use Rattle.rules.specs.declared.Operation.TheVariants.{Reckon, Move, Go, Loop, Change, Read, Pch, Trace, MoveBlock, Compare}
use Rattle.rules.specs.declared.Going.{Going}
use Rattle.rules.specs.declared.Going.TheVariants.{UncStop, CondStop, TrSgn, TrExp, Tr, TrSubr, Noop}
use Rattle.rules.specs.declared.Tracing.{Tracing}
use Rattle.rules.specs.declared.Tracing.TheVariants.{StartTr, StopTr, StTrEras}
use Rattle.rules.proofs.Views.{Grows, store_grows}
use Rattle.rules.proofs.BlockMoves.{stored_grows}

-- the same cells, or a choice of two
same : (v : List Cell) → Grows v v
same v k e = e

pick_grows : (v : List Cell) (t : Bool) (x y : Machine) → Grows v x.cells → Grows v y.cells → Grows v (pick t x y).cells
pick_grows v true x y p q = p
pick_grows v false x y p q = q

answer_grows : (v : List Cell) (t : Bool) (x y : Answer) → Grows v x.machine.cells → Grows v y.machine.cells
    → Grows v (pick t x y).machine.cells
answer_grows v true x y p q = p
answer_grows v false x y p q = q

-- ---- what stores

result_grows : (v : List Cell) (c w : ℕ) → Grows v (store (store v c w) 0 w)
result_grows v c w k e = store_grows v c w k (store_grows (store v c w) 0 w k e)

reckoned_grows : (t : Bool) (m : Machine) (c : ℕ) (r : Reckoned) → Grows m.cells (reckoned t m c r).machine.cells
reckoned_grows t m c (Ok w) = result_grows m.cells c w
reckoned_grows t m c (Err r) = same m.cells

changed_grows : (m : Machine) (b : ℕ) (r : Reckoned) → Grows m.cells (changed m b r).machine.cells
changed_grows m b (Ok w) = store_grows m.cells b w
changed_grows m b (Err r) = same m.cells

words_grow : (d : List ℕ) (l n : ℕ) (v : List Cell) → Grows v (words_stored d l n v)
unfolding words_stored
words_grow d l zero v = same v
words_grow d l (suc n) v = λ k e. words_grow d l n v k (store_grows (words_stored d l n v) (l + n) (word_in d (word_place n)) k e)

pub cards_grow : (end : ℕ) (ks : List DataCard) (v : List Cell) → Grows v (cards_stored end ks v)
unfolding cards_stored
cards_grow end [] v = same v
cards_grow end (x ∷ ks) v =
    let u : List Cell = words_stored x.rest x.location x.words v in
    go u (λ k e. words_grow x.rest x.location x.words v k (cards_grow end ks u k e)) (ltb x.place end)
  where
    go : (u : List Cell) → Grows v (cards_stored end ks u) → (t : Bool) → Grows v (elim t [ true ↦ cards_stored end ks u | false ↦ v ])
    go u g true = g
    go u g false = same v

read_grows : (i : Inputs) (m : Machine) (j : Judged) → Grows m.cells (read i m j).machine.cells
read_grows i m (Ok end) = cards_grow end (data_from i.deck m.state.reader) m.cells
read_grows i m (Err r) = same m.cells

-- ---- what only punches or moves on

cond_grows : (t : Bool) (m : Machine) (b c : ℕ) → Grows m.cells (cond_stopped t m b c).machine.cells
cond_grows true m b c = same m.cells
cond_grows false m b c = same m.cells

punched_cells : (j : ℕ) (m : Machine) (b n : ℕ) → (cards_punched j m b n).cells ≡ m.cells
unfolding cards_punched
punched_cells zero m b n = refl
punched_cells (suc j) m b n = go (eqb n 0) refl (punched_cells j (card_punched m b (five n)) (b + five n) (n - five n))
  where
    go : (t : Bool) → eqb n 0 ≡ t → (cards_punched j (card_punched m b (five n)) (b + five n) (n - five n)).cells ≡ m.cells
        → (cards_punched (suc j) m b n).cells ≡ m.cells
    go true e r = rw (e, cards_punched)
    go false e r = rw (e, cards_punched) r

punched_grows : (i : Inputs) (m : Machine) (b n : ℕ) → Grows m.cells (punched i m b n).machine.cells
unfolding punched
punched_grows i m b n =
    answer_grows m.cells (leb (length m.sent + punch_size n) i.room) (done (onward (cards_punched n m b n))) (undone NoRoom m)
    (subst (λ (v : List Cell). Grows m.cells v) (sym (punched_cells n m b n)) (same m.cells)) (same m.cells)

retraced_grows : (m : Machine) (t : Tracing) → Grows m.cells (retraced m t).cells
retraced_grows m StartTr = same m.cells
retraced_grows m StopTr = same m.cells
retraced_grows m StTrEras = store_grows m.cells m.state.location erased

gone_grows : (i : Inputs) (m : Machine) (g : Going) (b c : ℕ) → Grows m.cells (gone i m g b c).machine.cells
unfolding gone
gone_grows i m UncStop b c = same m.cells
gone_grows i m CondStop b c = cond_grows i.switches.stop m b c
gone_grows i m TrSgn b c = same m.cells
gone_grows i m TrExp b c = same m.cells
gone_grows i m Tr b c = same m.cells
gone_grows i m TrSubr b c = store_grows m.cells c _
gone_grows i m Noop b c = same m.cells

-- ---- each operation

performed_grows : (i : Inputs) (m : Machine) (o : Operation) (a b c : ℕ) → Grows m.cells (performed i m o a b c).machine.cells
unfolding performed
performed_grows i m (Reckon r) a b c =
    reckoned_grows (stops_by_loss i r (word_at m.cells a) (word_at m.cells b)) m c (reckoned_by r (word_at m.cells a) (word_at m.cells b))
performed_grows i m Move a b c = result_grows m.cells c (word_at m.cells b)
performed_grows i m (Go g) a b c = gone_grows i m g b c
performed_grows i m (Loop x y z) a b c =
    pick_grows m.cells (ltb (largest m.state x y z) b) (going_to (with_state m (counting m.state (raised m.state x y z))) c)
    (onward (with_state m (counting m.state clear_box))) (same m.cells) (same m.cells)
performed_grows i m (Change k x) a b c = changed_grows m b (changed_word i.requests.sums_carry k x (word_at m.cells b) c)
performed_grows i m Read a b c = read_grows i m (judged_from i.deck m.state.reader b c)
performed_grows i m Pch a b c = punched_grows i m b (c + 1 - b)
performed_grows i m (Trace t) a b c = retraced_grows m t
performed_grows i m MoveBlock a b c = stored_grows c (words_from m.cells b a) m.cells
performed_grows i m (Compare x) a b c = same m.cells

-- ---- a whole order, and a run

allowed_grows : (i : Inputs) (m : Machine) (o : Operation) (a b c : ℕ) (k : Checked) → Grows m.cells (allowed i m o a b c k).machine.cells
allowed_grows i m o a b c (Ok _) = performed_grows i m o a b c
allowed_grows i m o a b c (Err r) = same m.cells

as_grows : (i : Inputs) (m : Machine) (a b c : ℕ) (k : Built) → Grows m.cells (obeyed_as i m a b c k).machine.cells
as_grows i m a b c None = same m.cells
as_grows i m a b c (Some (o, k)) = allowed_grows i m o a b c (checked k m.cells a b c)

obeyed_grows : (i : Inputs) (m : Machine) (w : ℕ) → Grows m.cells (obeyed i m w).machine.cells
unfolding obeyed
obeyed_grows i m w =
    as_grows i m (a_in w) (b_in w) (c_in w) (lookup (code_done (is_traced m.state) w) codes)

traced_grows : (i : Inputs) (m : Machine) (w w' : ℕ) → Grows m.cells (traced i m w w').machine.cells
unfolding traced
traced_grows i m w w' =
    answer_grows m.cells (is_tracing m.state)
    (pick (leb (length m.sent + trace_size) i.room) (obeyed i (trace_sent m w w') w') (undone NoRoom m)) (obeyed i m w')
    (answer_grows m.cells (leb (length m.sent + trace_size) i.room) (obeyed i (trace_sent m w w') w') (undone NoRoom m)
    (obeyed_grows i (trace_sent m w w') w') (same m.cells))
    (obeyed_grows i m w')

fetched_grows : (i : Inputs) (m : Machine) (x : Cell) → Grows m.cells (fetched i m x).machine.cells
unfolding fetched
fetched_grows i m None = same m.cells
fetched_grows i m (Some w) =
    answer_grows m.cells (order_fits m.state w) (traced i m w (as_done m.state w)) (undone BadAddress m)
    (traced_grows i m w (as_done m.state w)) (same m.cells)

step_grows : (i : Inputs) (m : Machine) → Grows m.cells (step i m).machine.cells
unfolding step
step_grows i m =
    answer_grows m.cells (both (leb 1 m.state.location) (leb m.state.location 999))
    (fetched i m (cell_at m.cells m.state.location)) (undone BadAddress m)
    (fetched_grows i m (cell_at m.cells m.state.location)) (same m.cells)

pub run_grows : (i : Inputs) (k : ℕ) (m : Machine) (n : ℕ) → Grows m.cells (run_from i k m n).machine.cells
unfolding run_from
run_grows i zero m n = same m.cells
run_grows i (suc k) m n = go (may_go_on (step i m).outcome) refl (run_grows i k (step i m).machine (n + 1))
  where
    go : (t : Bool) → may_go_on (step i m).outcome ≡ t
        → Grows (step i m).machine.cells (run_from i k (step i m).machine (n + 1)).machine.cells
        → Grows m.cells (run_from i (suc k) m n).machine.cells
    go true e g = rw (e, run_from) (λ j z. step_grows i m j (g j z))
    go false e g = rw (e, run_from) (step_grows i m)
