-- Which order is refused for want of room, and how much an order writes: the trace card, and in plain mode PCH, whose largest block takes
-- 13,189 bytes. By a walk over all orders. Assumes nothing.
use Rattle.std.proofs.Common.{Err, None, Ok, Some}
use Prim.Native.Nat.{ℕ, ◌+◌, ◌-◌, ◌≤◌, ◌<◌}
use mathlib.Core.Path.{◌≡◌, refl, sym, ap, subst, ◌∙◌}
use mathlib.Core.List.{List}
use mathlib.Core.Bool.{Bool, true, false}
use native.Mathlib.Omega.{arith}
use lib.Dec.{leb, ltb}
use lib.ListN.{length, length-append}
use borrow.Author.Tests.{leb-false, eqb-true, eq-eqb}
use Rattle.rules.specs.Words.{pick, both, a_in, b_in, c_in}
use Rattle.rules.specs.Numbers.{tries_again}
use Rattle.rules.specs.Drum.{cell_at, word_at}
use Rattle.rules.specs.Decks.{data_from, judged_from}
use Rattle.rules.specs.Codes.{codes, lookup, checked}
use Rattle.rules.specs.Machine.{Machine, Inputs, Answer, counting, clear_box, with_state, going_to, is_traced, is_tracing, onward, done, undone}
use Rattle.rules.specs.Orders.{reckoned_by, stops_by_loss, reckoned, cond_stopped, gone, largest, raised, looped, changed_word, changed, cards_punched, punch_size, punched, read, retraced, performed}
use Rattle.rules.specs.Running.{allowed, obeyed_as, code_done, obeyed, as_done, order_fits, trace_words, trace_sent, trace_size, traced, fetched, step}
use Rattle.rules.specs.Answers.{Built, Cell, Checked, Judged, Outcome, Reckoned}
use Rattle.rules.specs.declared.Refusal.{Refusal}
use Rattle.rules.specs.declared.Refusal.TheVariants.{BadAddress, Unmarked, NoRoom, NotBuilt}
use Rattle.rules.specs.declared.Operation.{Operation}
use Rattle.rules.specs.declared.Operation.TheVariants.{Reckon, Move, Go, Loop, Change, Read, Pch, Trace, MoveBlock, Compare}
use Rattle.rules.specs.declared.Going.{Going}
use Rattle.rules.specs.declared.Going.TheVariants.{UncStop, CondStop, TrSgn, TrExp, Tr, TrSubr, Noop}
use Rattle.rules.specs.declared.Tracing.{Tracing}
use Rattle.rules.specs.declared.Tracing.TheVariants.{StartTr, StopTr, StTrEras}
use Rattle.rules.specs.declared.Done.TheVariants.{GoesOn}
use Rattle.rules.proofs.Tests.{false_true}
use Rattle.rules.proofs.Refusals.{Other, OfReckoned, OfChecked, OfJudged, OfOutcome, reckoned_other, checked_other, judged_other}
use Rattle.rules.proofs.Changes.{changed_other}
use Rattle.rules.proofs.Undone.{obeyed_stays}
use Rattle.rules.proofs.Sound.{Steady}
use Rattle.rules.proofs.Fields.{length_trace}
use Rattle.rules.proofs.Punching.{is_pch, all_suit_lem, lookup_suits, not_traced, passes_block, cards_long}

-- ---- what an order writes, and when it is refused for want of room

-- the bytes of the largest block
abbrev pub most_sent : ℕ
most_sent = 13189

-- p: whether it is PCH
record Writes (i : Inputs) (m : Machine) (p : Bool) (x : Answer) : Type 0 where
  full : x.outcome ≡ Err NoRoom → (p ≡ true) × (i.room < length m.sent + most_sent)
  more : length x.machine.sent ≤ length m.sent + pick p most_sent 0

never_full : {A : Type 0} (o : Outcome) → OfOutcome o → o ≡ Err NoRoom → A
never_full o h e = absurd (subst OfOutcome e h)

module _ (i : Inputs) where
  -- nothing
  quiet : (m : Machine) (p : Bool) (x : Answer) → OfOutcome x.outcome → x.machine.sent ≡ m.sent → Writes i m p x
  quiet m p x h e = record { full = never_full x.outcome h; more = omega (arith, ap length e) }

  reckoned_writes : (t : Bool) (m : Machine) (c : ℕ) (r : Reckoned) → OfReckoned r → Writes i m false (reckoned t m c r)
  reckoned_writes true m c (Ok w) h = quiet m false _ tt refl
  reckoned_writes false m c (Ok w) h = quiet m false _ tt refl
  reckoned_writes t m c (Err r) h = quiet m false _ h refl

  changed_writes : (m : Machine) (b : ℕ) (r : Reckoned) → OfReckoned r → Writes i m false (changed m b r)
  changed_writes m b (Ok w) h = quiet m false _ tt refl
  changed_writes m b (Err r) h = quiet m false _ h refl

  cond_writes : (t : Bool) (m : Machine) (b c : ℕ) → Writes i m false (cond_stopped t m b c)
  cond_writes true m b c = quiet m false _ tt refl
  cond_writes false m b c = quiet m false _ tt refl

  gone_writes : (m : Machine) (g : Going) (b c : ℕ) → Writes i m false (gone i m g b c)
  unfolding gone
  gone_writes m UncStop b c = quiet m false _ tt refl
  gone_writes m CondStop b c = cond_writes i.switches.stop m b c
  gone_writes m TrSgn b c = quiet m false _ tt refl
  gone_writes m TrExp b c = quiet m false _ tt refl
  gone_writes m Tr b c = quiet m false _ tt refl
  gone_writes m TrSubr b c = quiet m false _ tt refl
  gone_writes m Noop b c = quiet m false _ tt refl

  read_writes : (m : Machine) (j : Judged) → OfJudged j → Writes i m false (read i m j)
  read_writes m (Ok end) h = quiet m false _ tt refl
  read_writes m (Err r) h = quiet m false _ h refl

  looped_writes : (m : Machine) (x y z : Bool) (b c : ℕ) → Writes i m false (done (looped m x y z b c))
  looped_writes m x y z b c = quiet m false _ tt (go (ltb (largest m.state x y z) b))
    where
      go : (t : Bool)
          → (pick t (going_to (with_state m (counting m.state (raised m.state x y z))) c) (onward (with_state m (counting m.state clear_box)))).sent ≡ m.sent
      go true = refl
      go false = refl

  retraced_writes : (m : Machine) (t : Tracing) → Writes i m false (done (retraced m t))
  retraced_writes m StartTr = quiet m false _ tt refl
  retraced_writes m StopTr = quiet m false _ tt refl
  retraced_writes m StTrEras = quiet m false _ tt refl

  punched_writes : (m : Machine) (b n : ℕ) → n ≤ 999 → Writes i m true (punched i m b n)
  unfolding punched
  punched_writes m b n l = by_room (leb (length m.sent + punch_size n) i.room) refl
    where
      by_room : (t : Bool) → leb (length m.sent + punch_size n) i.room ≡ t
          → Writes i m true (pick t (done (onward (cards_punched n m b n))) (undone NoRoom m))
      by_room true e =
          record { full = never_full (Ok GoesOn) tt; more = omega (arith, cards_long n m b n (omega arith)) }
      by_room false e =
          record {
            full = λ z. (refl, omega (arith, leb-false (length m.sent + punch_size n) i.room e));
            more = omega arith;
          }

  performed_writes : (m : Machine) (o : Operation) (a b c : ℕ) → (is_pch o ≡ true → 1 ≤ b) → c ≤ 999 → Writes i m (is_pch o) (performed i m o a b c)
  unfolding performed
  performed_writes m (Reckon r) a b c f l =
      reckoned_writes (stops_by_loss i r (word_at m.cells a) (word_at m.cells b)) m c (reckoned_by r (word_at m.cells a) (word_at m.cells b))
      (reckoned_other r (word_at m.cells a) (word_at m.cells b))
  performed_writes m Move a b c f l = quiet m false _ tt refl
  performed_writes m (Go g) a b c f l = gone_writes m g b c
  performed_writes m (Loop x y z) a b c f l = looped_writes m x y z b c
  performed_writes m (Change k x) a b c f l =
      changed_writes m b (changed_word i.requests.sums_carry k x (word_at m.cells b) c)
      (changed_other i.requests.sums_carry k x (word_at m.cells b) c)
  performed_writes m Read a b c f l =
      read_writes m (judged_from i.deck m.state.reader b c) (judged_other (data_from i.deck m.state.reader) m.state.reader b c)
  performed_writes m Pch a b c f l = let k = f refl in punched_writes m b (c + 1 - b) (omega arith)
  performed_writes m (Trace t) a b c f l = retraced_writes m t
  performed_writes m MoveBlock a b c f l = quiet m false _ tt refl
  performed_writes m (Compare x) a b c f l = quiet m false _ tt refl

  allowed_writes : (m : Machine) (o : Operation) (a b c : ℕ) (k : Checked) → OfChecked k → (k ≡ (Ok tt) → is_pch o ≡ true → 1 ≤ b) → c ≤ 999
      → Writes i m (is_pch o) (allowed i m o a b c k)
  allowed_writes m o a b c (Ok _) h f l = performed_writes m o a b c (f refl) l
  allowed_writes m o a b c (Err r) h f l = quiet m (is_pch o) _ h refl

  -- in traced mode, nothing
  record Obeys (m : Machine) (x : Answer) : Type 0 where
    full : x.outcome ≡ Err NoRoom → (is_traced m.state ≡ false) × (i.room < length m.sent + most_sent)
    more : length x.machine.sent ≤ length m.sent + pick (is_traced m.state) 0 most_sent

  as_obeys : (m : Machine) (w a b c : ℕ) → c ≤ 999 → (k : Built) → lookup (code_done (is_traced m.state) w) codes ≡ k → Obeys m (obeyed_as i m a b c k)
  as_obeys m w a b c l None e = record { full = never_full (Err NotBuilt) tt; more = omega arith }
  as_obeys m w a b c l (Some (o, k)) e =
      let f = lookup_suits (code_done (is_traced m.state) w) codes all_suit_lem o k e in
      let x = allowed i m o a b c (checked k m.cells a b c) in
      let h : Writes i m (is_pch o) x =
      allowed_writes m o a b c (checked k m.cells a b c) (checked_other k m.cells a b c) (λ p t. passes_block k m.cells a b c (f t).0 p) l in
      record {
        full = λ z. let g = h.full z in (not_traced (is_traced m.state) w (f g.0).1, g.1);
        more = by_pch (is_pch o) refl (λ t. not_traced (is_traced m.state) w (f t).1) h.more;
      }
    where
      by_pch : (p : Bool) → is_pch o ≡ p → (is_pch o ≡ true → is_traced m.state ≡ false)
          → {n : ℕ} → n ≤ length m.sent + pick (is_pch o) most_sent 0 → n ≤ length m.sent + pick (is_traced m.state) 0 most_sent
      by_pch true q t = rw (q, t q) (λ g. g)
      by_pch false q t = rw q (λ g. omega arith)

  obeys : (m : Machine) (w : ℕ) → Obeys m (obeyed i m w)
  unfolding obeyed
  obeys m w = as_obeys m w (a_in w) (b_in w) (c_in w) (omega arith) (lookup (code_done (is_traced m.state) w) codes) refl

  -- tracing is on in traced mode alone
  abbrev pub TracedOnly : Machine → Type 0
  TracedOnly m = is_tracing m.state ≡ true → is_traced m.state ≡ true

  -- an order that is refused for want of room leaves the machine as it was, and there was less room than any order can need
  pub record Stepped (m : Machine) (x : Answer) : Type 0 where
    pub full : x.outcome ≡ Err NoRoom → (x.machine ≡ m) × (i.room < length m.sent + most_sent)
    pub more : length x.machine.sent ≤ length m.sent + most_sent

  still : (m : Machine) (r : Refusal) → Other r → Stepped m (undone r m)
  still m r h = record { full = never_full (Err r) h; more = omega arith }

  either_stepped : (m : Machine) (t : Bool) (x y : Answer) → Stepped m x → Stepped m y → Stepped m (pick t x y)
  either_stepped m true x y p q = p
  either_stepped m false x y p q = q

  plain_stepped : (m : Machine) (w : ℕ) → Stepped m (obeyed i m w)
  plain_stepped m w =
      let h = obeys m w in
      record { full = λ e. (obeyed_stays i m w (ap tries_again e), (h.full e).1); more = by_mode (is_traced m.state) h.more }
    where
      by_mode : (t : Bool) {n : ℕ} → n ≤ length m.sent + pick t 0 most_sent → n ≤ length m.sent + most_sent
      by_mode true l = omega arith
      by_mode false l = l

  trace_long : (m : Machine) (w w' : ℕ) → length (trace_sent m w w').sent ≡ length m.sent + trace_size
  trace_long m w w' = length-append m.sent _ ∙ ap (λ (k : ℕ). length m.sent + k) (length_trace _ _ (trace_words m w w') _)

  traced_stepped : (m : Machine) (w w' : ℕ) → TracedOnly m → Stepped m (traced i m w w')
  unfolding traced
  traced_stepped m w w' f = by_tracing (is_tracing m.state) refl (leb (length m.sent + trace_size) i.room) refl
    where
      by_tracing : (t : Bool) → is_tracing m.state ≡ t → (u : Bool) → leb (length m.sent + trace_size) i.room ≡ u
          → Stepped m (pick t (pick u (obeyed i (trace_sent m w w') w') (undone NoRoom m)) (obeyed i m w'))
      by_tracing true e true g =
          let h = obeys (trace_sent m w w') w' in
          record {
            full = λ z. false_true (sym (h.full z).0 ∙ f e);
            more = omega (arith, rw (f e) at h.more, trace_long m w w');
          }
      by_tracing true e false g =
          record { full = λ z. (refl, omega (arith, leb-false (length m.sent + trace_size) i.room g)); more = omega arith }
      by_tracing false e u g = plain_stepped m w'

  fetched_stepped : (m : Machine) (x : Cell) → TracedOnly m → Stepped m (fetched i m x)
  unfolding fetched
  fetched_stepped m None f = still m Unmarked tt
  fetched_stepped m (Some w) f =
      either_stepped m (order_fits m.state w) (traced i m w (as_done m.state w)) (undone BadAddress m) (traced_stepped m w (as_done m.state w) f)
      (still m BadAddress tt)

  pub step_stepped : (m : Machine) → TracedOnly m → Stepped m (step i m)
  unfolding step
  step_stepped m f =
      either_stepped m (both (leb 1 m.state.location) (leb m.state.location 999)) (fetched i m (cell_at m.cells m.state.location))
      (undone BadAddress m) (fetched_stepped m (cell_at m.cells m.state.location) f) (still m BadAddress tt)

pub traced_only : {deck : List ℕ} {behind : ℕ} (m : Machine) → Steady deck behind m.state → is_tracing m.state ≡ true → is_traced m.state ≡ true
traced_only m h e = let k = eqb-true m.state.tracing 1 e in eq-eqb m.state.mode 1 (omega (arith, h.mode, h.tracing))
