-- One change each keeps the machine sound: a store of a word, a step of the location, a card, a loop, a card read. Assumes nothing.
use Rattle.std.proofs.Common.{Err, Ok}
use Prim.Native.Nat.{ℕ, zero, suc, ◌+◌, ◌-◌, ◌≤◌, ◌<◌, max}
use mathlib.Core.Path.{◌≡◌, refl, ap}
use mathlib.Core.List.{List, [], ◌∷◌}
use mathlib.Core.Bool.{Bool, true, false}
use native.Mathlib.Omega.{arith}
use lib.Dec.{eqb, leb, ltb}
use lib.ListN.{drop}
use borrow.Author.Tests.{ltb-true, eqb-true}
use Rattle.rules.specs.Words.{pick, digits_in, exponent_in, address_in, with_address}
use Rattle.rules.specs.Cards.{word_in, word_place}
use Rattle.rules.specs.Drum.{word_at}
use Rattle.rules.specs.Decks.{data_in, data_from, words_stored, cards_stored, may_stand}
use Rattle.rules.specs.Machine.{Machine, Inputs, Answer, count_a, count_b, count_c, counting, clear_box, numbered, read_to, tracing_set, is_traced, with_state, stored, sending, going_to, onward}
use Rattle.rules.specs.Orders.{reckoned, is_negative, cond_stopped, gone, raise, raised, named, largest, changed, compared_to, five, card_punched, cards_punched, cells_moved, tracing_to, erased, retraced}
use Rattle.rules.specs.Answers.{Cell, Reckoned}
use Rattle.rules.specs.declared.State.{State}
use Rattle.rules.specs.declared.Going.{Going}
use Rattle.rules.specs.declared.Going.TheVariants.{UncStop, CondStop, TrSgn, TrExp, Tr, TrSubr, Noop}
use Rattle.rules.specs.declared.Address.{Address}
use Rattle.rules.specs.declared.Address.TheVariants.{OfC}
use Rattle.rules.specs.declared.Tracing.{Tracing}
use Rattle.rules.specs.declared.Tracing.TheVariants.{StartTr, StopTr, StTrEras}
use Rattle.rules.proofs.Results.{Fits as IsWord}
use Rattle.rules.proofs.Decks.{cards_end, data_at, data_next}
use Rattle.rules.proofs.Tails.{Tail, at_end, one_more}
use Rattle.rules.proofs.Sound.{Cells, cells_stored, Steady}
use Rattle.rules.proofs.BlockMoves.{moved_sound}

pub record Sound (deck : List ℕ) (behind : ℕ) (m : Machine) : Type 0 where
  pub cells : Cells m.cells
  pub state : Steady deck behind m.state

-- ---- numbers

-- one of two addresses
one_of : (t : Bool) (x y k : ℕ) → x ≤ k → y ≤ k → pick t x y ≤ k
one_of true x y k p q = p
one_of false x y k p q = q

raise_fits : (x : Bool) (n k : ℕ) → n ≤ 999 → named x n ≤ k → k ≤ 999 → raise x n ≤ 999
raise_fits true n k f g l = omega arith
raise_fits false n k f g l = f

-- PCH moves no location
pub punched_location : (j : ℕ) (m : Machine) (b n : ℕ) → (cards_punched j m b n).state.location ≡ m.state.location
unfolding cards_punched
punched_location zero m b n = refl
punched_location (suc j) m b n = go (eqb n 0) refl (punched_location j (card_punched m b (five n)) (b + five n) (n - five n))
  where
    go : (t : Bool) → eqb n 0 ≡ t → (cards_punched j (card_punched m b (five n)) (b + five n) (n - five n)).state.location ≡ m.state.location
        → (cards_punched (suc j) m b n).state.location ≡ m.state.location
    go true e r = rw (e, cards_punched)
    go false e r = rw (e, cards_punched) r

turned_location : (s : State) (t : ℕ) → (tracing_to s t).location ≡ s.location
turned_location s t = go (is_traced s)
  where
    go : (b : Bool) → (pick b (tracing_set s t) s).location ≡ s.location
    go true = refl
    go false = refl

-- ---- data cards hold words

words_stored_lem : (d : List ℕ) (l n : ℕ) {v : List Cell} → ((i : ℕ) → i < n → word_in d (word_place i) ≤ 19999999999) → Cells v → Cells (words_stored d l n v)
unfolding words_stored
words_stored_lem d l zero f h = h
words_stored_lem d l (suc n) f h = cells_stored (l + n) _ (f n (omega arith)) (words_stored_lem d l n (λ i k. f i (omega arith)) h)

pub cards_stored_lem : (deck : List ℕ) (at end : ℕ) {v : List Cell} → Tail deck at → Cells v → Cells (cards_stored end (data_from deck at) v)
unfolding cards_stored data_in
cards_stored_lem deck at end (at_end a l) h = rw (ap data_in (cards_end deck at (omega arith))) h
cards_stored_lem deck at end {v} (one_more a {location = location} {words = words} {size = size} q t) h =
    rw (data_next deck at q)
    (go (ltb at end) (cards_stored_lem deck (at + size) end t (words_stored_lem (drop at deck) location words (data_at deck at q).are_words h)))
  where
    go : (b : Bool) → Cells (cards_stored end (data_from deck (at + size)) (words_stored (drop at deck) location words v))
        → Cells (elim b [ true ↦ cards_stored end (data_from deck (at + size)) (words_stored (drop at deck) location words v) | false ↦ v ])
    go true g = g
    go false g = h

module _ {deck : List ℕ} {behind : ℕ} where
  pub either_sound : (t : Bool) (x y : Answer) → Sound deck behind x.machine → Sound deck behind y.machine → Sound deck behind (pick t x y).machine
  either_sound true x y p q = p
  either_sound false x y p q = q

  -- ---- one change each

  goes : {m : Machine} (l : ℕ) → l ≤ 1000 → Sound deck behind m → Sound deck behind (going_to m l)
  goes l k h =
      record {
        cells = h.cells;
        state =
            record {
              location = k;
              of_a_lem = h.state.of_a_lem;
              of_b_lem = h.state.of_b_lem;
              of_c = h.state.of_c;
              counter = h.state.counter;
              problem = h.state.problem;
              mode = h.state.mode;
              tracing = h.state.tracing;
              reader = h.state.reader;
            };
      }

  pub goes_on : {m : Machine} → m.state.location ≤ 999 → Sound deck behind m → Sound deck behind (onward m)
  goes_on {m} k h = goes (m.state.location + 1) (omega arith) h

  pub stores : {m : Machine} (a w : ℕ) → w ≤ 19999999999 → Sound deck behind m → Sound deck behind (stored m a w)
  stores a w l h = record { cells = cells_stored a w l h.cells; state = h.state }

  counts : {m : Machine} (x y z : ℕ) → x ≤ 999 → y ≤ 999 → z ≤ 999 → Sound deck behind m
      → Sound deck behind (with_state m (counting m.state (x ∷ y ∷ z ∷ [])))
  counts x y z p q r h =
      record {
        cells = h.cells;
        state =
            record {
              location = h.state.location;
              of_a_lem = p;
              of_b_lem = q;
              of_c = r;
              counter = h.state.counter;
              problem = h.state.problem;
              mode = h.state.mode;
              tracing = h.state.tracing;
              reader = h.state.reader;
            };
      }

  -- a card is written, and the counter is one up
  pub sends : {m : Machine} (card : List ℕ) → Sound deck behind m → Sound deck behind (sending (with_state m (numbered m.state)) card)
  sends card h =
      record {
        cells = h.cells;
        state =
            record {
              location = h.state.location;
              of_a_lem = h.state.of_a_lem;
              of_b_lem = h.state.of_b_lem;
              of_c = h.state.of_c;
              counter = omega arith;
              problem = h.state.problem;
              mode = h.state.mode;
              tracing = h.state.tracing;
              reader = h.state.reader;
            };
      }

  traces : {m : Machine} (t : ℕ) → t ≤ 1 → Sound deck behind m → Sound deck behind (with_state m (tracing_to m.state t))
  traces {m} t l h = by_mode (is_traced m.state) refl
    where
      by_mode : (b : Bool) → is_traced m.state ≡ b → Sound deck behind (with_state m (pick b (tracing_set m.state t) m.state))
      by_mode true e =
          record {
            cells = h.cells;
            state =
                record {
                  location = h.state.location;
                  of_a_lem = h.state.of_a_lem;
                  of_b_lem = h.state.of_b_lem;
                  of_c = h.state.of_c;
                  counter = h.state.counter;
                  problem = h.state.problem;
                  mode = h.state.mode;
                  tracing = let k = eqb-true m.state.mode 1 e in omega arith;
                  reader = h.state.reader;
                };
          }
      by_mode false e = record { cells = h.cells; state = h.state }

  -- ---- orders

  pub reckons : (t : Bool) (m : Machine) (c : ℕ) (r : Reckoned) → IsWord r → m.state.location ≤ 999 → Sound deck behind m
      → Sound deck behind (reckoned t m c r).machine
  reckons t m c (Ok w) f l h = goes_on l (stores 0 w f (stores c w f h))
  reckons t m c (Err r) f l h = h

  stops_if : (t : Bool) (m : Machine) (b c : ℕ) → c ≤ 999 → Sound deck behind m → Sound deck behind (cond_stopped t m b c).machine
  stops_if true m b c k h = goes c (omega arith) h
  stops_if false m b c k h = goes c (omega arith) h

  pub goings : (i : Inputs) (m : Machine) (g : Going) (b c : ℕ) → b ≤ 999 → c ≤ 999 → m.state.location ≤ 999 → Sound deck behind m
      → Sound deck behind (gone i m g b c).machine
  unfolding gone
  goings i m UncStop b c j k l h = h
  goings i m CondStop b c j k l h = stops_if i.switches.stop m b c k h
  goings i m TrSgn b c j k l h = goes _ (one_of (is_negative (word_at m.cells 0)) c b 1000 (omega arith) (omega arith)) h
  goings i m TrExp b c j k l h = goes _ (one_of (leb b (exponent_in (word_at m.cells 0))) c (m.state.location + 1) 1000 (omega arith) (omega arith)) h
  goings i m Tr b c j k l h = goes c (omega arith) h
  goings i m TrSubr b c j k l h =
      goes c (omega arith)
      (stores c (with_address OfC (digits_in (word_at m.cells c)) b) (omega arith) h)
  goings i m Noop b c j k l h = goes_on l h

  pub loops : (m : Machine) (x y z : Bool) (b c : ℕ) → b ≤ 999 → c ≤ 999 → m.state.location ≤ 999 → Sound deck behind m
      → (t : Bool) → ltb (largest m.state x y z) b ≡ t
      → Sound deck behind (pick t (going_to (with_state m (counting m.state (raised m.state x y z))) c) (onward (with_state m (counting m.state clear_box))))
  loops m x y z b c j k l h true e =
      let p : ℕ = named x (count_a m.state) in
      let q : ℕ = named y (count_b m.state) in
      let r : ℕ = named z (count_c m.state) in
      let f : max p (max q r) < b = ltb-true (max p (max q r)) b e in
      goes c (omega arith)
      (counts (raise x (count_a m.state)) (raise y (count_b m.state)) (raise z (count_c m.state))
      (raise_fits x (count_a m.state) b h.state.of_a_lem (omega arith) j)
      (raise_fits y (count_b m.state) b h.state.of_b_lem (omega arith) j)
      (raise_fits z (count_c m.state) b h.state.of_c (omega arith) j) h)
  loops m x y z b c j k l h false e = goes_on l (counts 0 0 0 (omega arith) (omega arith) (omega arith) h)

  pub changes : (m : Machine) (b : ℕ) (r : Reckoned) → IsWord r → m.state.location ≤ 999 → Sound deck behind m
      → Sound deck behind (changed m b r).machine
  changes m b (Ok w) f l h = goes_on l (stores b w f h)
  changes m b (Err r) f l h = h

  pub compares : (m : Machine) (x : Address) (a b c : ℕ) → c ≤ 999 → m.state.location ≤ 999 → Sound deck behind m
      → Sound deck behind (compared_to m x a b c)
  compares m x a b c k l h =
      goes _ (one_of (eqb (address_in x (word_at m.cells a)) b) (m.state.location + 1) c 1000 (omega arith) (omega arith)) h

  pub punches : (j : ℕ) (m : Machine) (b n : ℕ) → Sound deck behind m → Sound deck behind (cards_punched j m b n)
  unfolding cards_punched
  punches zero m b n h = h
  punches (suc j) m b n h = go (eqb n 0) refl (punches j (card_punched m b (five n)) (b + five n) (n - five n) (sends _ h))
    where
      go : (t : Bool) → eqb n 0 ≡ t → Sound deck behind (cards_punched j (card_punched m b (five n)) (b + five n) (n - five n))
          → Sound deck behind (cards_punched (suc j) m b n)
      go true e r = rw (e, cards_punched) h
      go false e r = rw (e, cards_punched) r

  pub moves : (m : Machine) (n b c : ℕ) → Sound deck behind m
      → Sound deck behind (record { cells = cells_moved m.cells n b c; sent = m.sent; state = m.state })
  moves m n b c h = record { cells = moved_sound n b c h.cells; state = h.state }

  pub retraces : (m : Machine) (t : Tracing) → m.state.location ≤ 999 → Sound deck behind m → Sound deck behind (retraced m t)
  retraces m StartTr l h = goes_on (rw (turned_location m.state 1) l) (traces 1 (omega arith) h)
  retraces m StopTr l h = goes_on (rw (turned_location m.state 0) l) (traces 0 (omega arith) h)
  retraces m StTrEras l h =
      goes_on (rw (turned_location m.state 1) l) (traces 1 (omega arith) (stores m.state.location erased (omega arith) h))

  -- the place behind the cards that READ takes is one where a reader may stand
  pub reads_to : (m : Machine) (v : List Cell) (r : ℕ) → Cells v → may_stand deck behind r ≡ true → Sound deck behind m
      → Sound deck behind (record { cells = v; sent = m.sent; state = read_to m.state r })
  reads_to m v r f e h =
      record {
        cells = f;
        state =
            record {
              location = h.state.location;
              of_a_lem = h.state.of_a_lem;
              of_b_lem = h.state.of_b_lem;
              of_c = h.state.of_c;
              counter = h.state.counter;
              problem = h.state.problem;
              mode = h.state.mode;
              tracing = h.state.tracing;
              reader = e;
            };
      }
