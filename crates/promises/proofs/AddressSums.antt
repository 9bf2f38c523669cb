-- Why sums of addresses do what is said of them, and why a run whose sums stay within their addresses is the same by either rule: the two rules
-- differ in no other order, and in none of these where the address and C stay within 000 to 999. Assumes nothing.
use Rattle.std.proofs.Common.{Err, None, Ok, Some}
use Rattle.std.proofs.lemmas.Option.{some_pair_parts}
use Prim.Native.Nat.{ℕ, zero, suc, ◌+◌, ◌-◌, ◌≤◌, ◌<◌}
use mathlib.Core.Path.{◌≡◌, refl, sym, ap, subst, ◌∙◌}
use mathlib.Core.Logic.{◌⊎◌, inl, inr}
use mathlib.Core.List.{List, [], ◌∷◌}
use mathlib.Core.Bool.{Bool, true, false}
use native.Mathlib.Omega.{arith}
use lib.Dec.{eqb, leb}
use lib.ListN.{length, length-set}
use lib.Seq.{get_or-set_same, get_or-set_other}
use borrow.Author.Tests.{le-leb, leb-true, eq-eqb}
use Rattle.rules.specs.Words.{pick, both, sign_in, digits_in, address_in, with_address, with_digits, first_digit, a_in, b_in, c_in}
use Rattle.rules.specs.Numbers.{completed, may_go_on}
use Rattle.rules.specs.Drum.{cell_at, word_at, is_owned, shown}
use Rattle.rules.specs.Decks.{judged_from}
use Rattle.rules.specs.Codes.{codes, lookup, code_in, pch_code, noop_code, checked}
use Rattle.rules.specs.Machine.{Machine, Requests, present, without_loss_stops, without_carries, Inputs, Answer, is_traced, undone}
use Rattle.rules.specs.Orders.{new_address, wrapped, shifted, carried, changed_word, changed, gone, punched, read, performed}
use Rattle.rules.specs.Running.{allowed, code_done, step, Course, run_from, RunResult, begun, inputs_by, ran_as}
use Rattle.rules.specs.Answers.{Cell, Judged, Outcome, Reckoned}
use Rattle.rules.specs.declared.Address.{Address}
use Rattle.rules.specs.declared.Address.TheVariants.{OfA, OfB, OfC}
use Rattle.rules.specs.declared.Changing.{Changing}
use Rattle.rules.specs.declared.Changing.TheVariants.{SetTo, AddTo, SubFrom}
use Rattle.rules.specs.declared.Switches.{Switches}
use Rattle.rules.specs.declared.Refusal.TheVariants.{BadAddress, Unmarked}
use Rattle.rules.specs.declared.Class.{Class}
use Rattle.rules.specs.declared.Class.TheVariants.{Free, Changed}
use Rattle.rules.specs.declared.Operation.{Operation}
use Rattle.rules.specs.declared.Operation.TheVariants.{Reckon, Move, Go, Loop, Change, Read, Pch, Trace, MoveBlock, Compare}
use Rattle.rules.specs.declared.Going.{Going}
use Rattle.rules.specs.declared.Going.TheVariants.{UncStop, CondStop, TrSgn, TrExp, Tr, TrSubr, Noop}
use Rattle.rules.proofs.Tests.{false_true}
use Rattle.rules.proofs.Steps.{inputs_with, Performs, of_step}
use Rattle.rules.proofs.RoomRuns.{run_on, run_ends, count_within}
use Rattle.rules.proofs.Entered.{of_runs}
use Rattle.promises.specs.Next.{told}
use Rattle.promises.specs.AddressSums.{add_code, sub_code, Redone, Sums, AddsCarry, SubsBorrow, Within, StaysWithin, behind, WrapsAsCarries, CarriesAsWraps, AsTheBase}
use Rattle.promises.proofs.Next.{step_is, obeyed_by}
use Rattle.promises.proofs.LossStops.{on_run_as_before}

-- ---- one order

-- a cell that is marked is one of the cells
marked_within : (v : List Cell) (b y : ℕ) → cell_at v b ≡ Some y → b < length v
marked_within [] b y e = let z : ◌≡◌ {A = ℕ} 0 1 = cc in let w : ⊥ = omega arith in absurd w
marked_within (x ∷ v) zero y e = omega arith
marked_within (x ∷ v) (suc b) y e = omega (arith, marked_within v b y e)

new_digits : (y d : ℕ) → d ≤ 9999999999 → digits_in (with_digits y d) ≡ d
new_digits y d l = omega arith

old_sign : (y d : ℕ) → d ≤ 9999999999 → sign_in (with_digits y d) ≡ sign_in y
old_sign y d l = omega arith

module _ (u : Machine) (b y d : ℕ) (e : cell_at u.cells b ≡ Some y) (l : d ≤ 9999999999) where
  redone : Redone (changed u b (Ok (with_digits y d))) u b y d
  redone =
      record {
        goes_on = refl;
        word = with_digits y d;
        cell = get_or-set_same u.cells b (Some (with_digits y d)) None (marked_within u.cells b y e);
        digits = new_digits y d l;
        sign = old_sign y d l;
        others = λ a f. get_or-set_other u.cells b a (Some (with_digits y d)) None f;
        long = length-set u.cells b (Some (with_digits y d));
        sent = refl;
        state = refl;
      }

sum_code : (w code : ℕ) → first_digit w ≡ 0 → a_in w ≡ code → code_in w ≡ code
unfolding code_in
sum_code w code e f = rw (eq-eqb (first_digit w) 0 e) f

add_row : (k : Address) → lookup (add_code k) codes ≡ Some (Change AddTo k, Changed)
unfolding lookup codes
add_row OfA = refl
add_row OfB = refl
add_row OfC = refl

sub_row : (k : Address) → lookup (sub_code k) codes ≡ Some (Change SubFrom k, Changed)
unfolding lookup codes
sub_row OfA = refl
sub_row OfB = refl
sub_row OfC = refl

add_not_pch : (k : Address) → add_code k ≡ pch_code → ⊥
add_not_pch OfA e = omega (arith, e)
add_not_pch OfB e = omega (arith, e)
add_not_pch OfC e = omega (arith, e)

sub_not_pch : (k : Address) → sub_code k ≡ pch_code → ⊥
sub_not_pch OfA e = omega (arith, e)
sub_not_pch OfB e = omega (arith, e)
sub_not_pch OfC e = omega (arith, e)

module _ (i : Inputs) (carry : i.requests.sums_carry ≡ true) (u : Machine) (k : Changing) (x : Address) (a b c : ℕ) where
  abbrev judged_sum : Answer
  judged_sum = allowed i u (Change k x) a b c (checked Changed u.cells a b c)

  sum_zero : b ≡ 0 → judged_sum ≡ undone BadAddress u
  unfolding checked
  sum_zero e = rw e

  sum_foreign : 1 ≤ b → cell_at u.cells b ≡ None → judged_sum ≡ undone Unmarked u
  unfolding checked
  sum_foreign l e = rw (le-leb 1 b l, e)

  sum_owned : 1 ≤ b → (y : ℕ) → cell_at u.cells b ≡ Some y → judged_sum ≡ changed u b (carried k x y c)
  unfolding checked performed
  sum_owned l y e = rw (le-leb 1 b l, ap is_owned e, carry) (ap (λ (z : Cell). changed u b (carried k x (shown z) c)) e)

  -- where the change is one of the ten digits, if they hold it
  sums : (Held : ℕ → Type 0) (sum : ℕ → ℕ) → ((d : ℕ) → d ≤ 9999999999 → Held d → sum d ≤ 9999999999)
      → ((y : ℕ) → (Held (digits_in y) → ⊥) → carried k x y c ≡ Err BadAddress)
      → ((y : ℕ) → Held (digits_in y) → carried k x y c ≡ Ok (with_digits y (sum (digits_in y))))
      → (z : Answer) → z ≡ judged_sum → Sums z u b Held sum
  sums Held sum small p q z e =
      record {
        zero = λ f. e ∙ sum_zero f;
        foreign = λ l f. e ∙ sum_foreign l f;
        past = λ l y f g. e ∙ sum_owned l y f ∙ ap (changed u b) (p y g);
        held = λ l y f g.
            subst (λ (z' : Answer). Redone z' u b y (sum (digits_in y))) (sym (e ∙ sum_owned l y f ∙ ap (changed u b) (q y g)))
            (redone u b y (sum (digits_in y)) f (small (digits_in y) (omega arith) g));
      }

-- the test by which the digits hold a sum
held_is : (d n : ℕ) (x y : Reckoned) → d ≤ n → pick (leb d n) x y ≡ x
held_is d n x y l = rw (le-leb d n l)

past_is : (d n : ℕ) (x y : Reckoned) → (d ≤ n → ⊥) → pick (leb d n) x y ≡ y
past_is d n x y f = by_test (leb d n) refl
  where
    by_test : (t : Bool) → leb d n ≡ t → pick t x y ≡ y
    by_test true e = absurd (f (leb-true d n e))
    by_test false e = refl

pub adds_carry : AddsCarry
adds_carry i m order w h carry k e f =
    let u : Machine = told m order w in
    let n : ℕ = shifted k (c_in w) in
    sums i carry u AddTo k (a_in w) (b_in w) (c_in w) (λ d. d + n ≤ 9999999999) (λ d. d + n) (λ d l g. g)
    (λ y g. past_is (digits_in y + n) 9999999999 _ _ g)
    (λ y g. held_is (digits_in y + n) 9999999999 _ _ g)
    (step i m)
    (step_is i m order w h ∙ obeyed_by i u w (add_code k) (Change AddTo k) Changed (sum_code w (add_code k) e f) (add_not_pch k) (add_row k))

pub subs_borrow : SubsBorrow
subs_borrow i m order w h carry k e f =
    let u : Machine = told m order w in
    let n : ℕ = shifted k (c_in w) in
    sums i carry u SubFrom k (a_in w) (b_in w) (c_in w) (λ d. n ≤ d) (λ d. d - n) (λ d l g. omega (arith, l))
    (λ y g. past_is n (digits_in y) _ _ g)
    (λ y g. held_is n (digits_in y) _ _ g)
    (step i m)
    (step_is i m order w h ∙ obeyed_by i u w (sub_code k) (Change SubFrom k) Changed (sum_code w (sub_code k) e f) (sub_not_pch k) (sub_row k))

-- ---- one change by both rules

added_fits : (x : Address) (w c : ℕ) → address_in x w + c ≤ 999 → digits_in w + shifted x c ≤ 9999999999
added_fits OfA w c l = omega arith
added_fits OfB w c l = omega arith
added_fits OfC w c l = omega arith

taken_fits : (x : Address) (w c : ℕ) → c ≤ address_in x w → shifted x c ≤ digits_in w
taken_fits OfA w c l = omega arith
taken_fits OfB w c l = omega arith
taken_fits OfC w c l = omega arith

same_word : (k : Changing) (x : Address) (w c : ℕ) → Within k (address_in x w) c → carried k x w c ≡ wrapped k x w c
same_word SetTo x w c h = refl
same_word AddTo x w c h = held_is (digits_in w + shifted x c) 9999999999 _ _ (added_fits x w c h) ∙ ap Ok (by_address x h)
  where
    by_address : (x : Address) → address_in x w + c ≤ 999 → with_digits w (digits_in w + shifted x c) ≡ with_address x w (new_address AddTo (address_in x w) c)
    by_address OfA l = omega arith
    by_address OfB l = omega arith
    by_address OfC l = omega arith
same_word SubFrom x w c h = held_is (shifted x c) (digits_in w) _ _ (taken_fits x w c h) ∙ ap Ok (by_address x h)
  where
    by_address : (x : Address) → c ≤ address_in x w → with_digits w (digits_in w - shifted x c) ≡ with_address x w (new_address SubFrom (address_in x w) c)
    by_address OfA l = omega arith
    by_address OfB l = omega arith
    by_address OfC l = omega arith

either_rule : (s t : Bool) (k : Changing) (x : Address) (w c : ℕ) → Within k (address_in x w) c → changed_word s k x w c ≡ changed_word t k x w c
either_rule true true k x w c h = refl
either_rule true false k x w c h = same_word k x w c h
either_rule false true k x w c h = sym (same_word k x w c h)
either_rule false false k x w c h = refl

-- an address change is no PCH that is done as NOOP
noop_row : lookup noop_code codes ≡ Some (Go Noop, Free)
unfolding lookup codes
noop_row = refl

code_is : (t : Bool) (w : ℕ) (k : Changing) (x : Address) (l : Class) → lookup (code_done t w) codes ≡ Some (Change k x, l) → lookup (code_in w) codes ≡ Some (Change k x, l)
code_is t w k x l e = by_test (both t (eqb (code_in w) pch_code)) e
  where
    by_test : (s : Bool) → lookup (pick s noop_code (code_in w)) codes ≡ Some (Change k x, l) → lookup (code_in w) codes ≡ Some (Change k x, l)
    by_test true f =
        let g : Go Noop ≡ Change k x = (some_pair_parts (Go Noop) (Change k x) Free l (sym noop_row ∙ f)).0 in
        let z : ◌≡◌ {A = ℕ} 0 1 = cc in
        let v : ⊥ = omega arith in
        absurd v
    by_test false f = f

-- ---- one order by both rules

-- Two sets of requests that differ in the rule alone. Whatever comes of an address change by the first, `Came` is true of it.
module _ (i : Inputs) (s t : Bool) (Came : Outcome → Type 0) where
  abbrev by : Bool → Inputs
  by r = inputs_with i.switches (record { loss_stops = i.requests.loss_stops; sums_carry = r }) i

  module _ (came : (u : Machine) (b : ℕ) (k : Changing) (x : Address) (w c : ℕ) → Came (changed u b (changed_word s k x w c)).outcome)
      (undone-then : (o : Outcome) → may_go_on o ≡ false → Came o → completed o ≡ 0) where
    gone_same : (u : Machine) (g : Going) (b c : ℕ) → gone (by t) u g b c ≡ gone (by s) u g b c
    unfolding gone
    gone_same u UncStop b c = refl
    gone_same u CondStop b c = refl
    gone_same u TrSgn b c = refl
    gone_same u TrExp b c = refl
    gone_same u Tr b c = refl
    gone_same u TrSubr b c = refl
    gone_same u Noop b c = refl

    read_same : (u : Machine) (j : Judged) → read (by t) u j ≡ read (by s) u j
    read_same u (Ok end) = refl
    read_same u (Err r) = refl

    performed_same : (m u : Machine) (w : ℕ) (o : Operation) → Performs m u w o
        → (Came (performed (by s) u o (a_in w) (b_in w) (c_in w)).outcome → StaysWithin m)
        → performed (by t) u o (a_in w) (b_in w) (c_in w) ≡ performed (by s) u o (a_in w) (b_in w) (c_in w)
    unfolding performed punched
    performed_same m u w (Reckon r) p h = refl
    performed_same m u w Move p h = refl
    performed_same m u w (Go g) p h = gone_same u g (b_in w) (c_in w)
    performed_same m u w (Loop x y z) p h = refl
    performed_same m u w (Change k x) p h =
        let y : ℕ = word_at u.cells (b_in w) in
        let f =
        h (came u (b_in w) k x y (c_in w)) k x w
        (record { order = p.order; cell = p.cell; is_done_as = p.is_done_as; class = p.class; built = code_is (is_traced m.state) w k x p.class p.built }) in
        ap (changed u (b_in w)) (either_rule t s k x y (c_in w) (rw p.same_cells f))
    performed_same m u w Read p h = read_same u (judged_from i.deck u.state.reader (b_in w) (c_in w))
    performed_same m u w Pch p h = refl
    performed_same m u w (Trace x) p h = refl
    performed_same m u w MoveBlock p h = refl
    performed_same m u w (Compare x) p h = refl

    step_same : (m : Machine) → (Came (step (by s) m).outcome → StaysWithin m) → step (by t) m ≡ step (by s) m
    step_same m =
        of_step i
        (λ (f : Switches → Requests → Answer).
        let g : Bool → Answer = λ r. f i.switches (record { loss_stops = i.requests.loss_stops; sums_carry = r }) in
        (Came (g s).outcome → StaysWithin m) → g t ≡ g s)
        m (λ r u h. refl) (λ u w o p. performed_same m u w o p)

    -- ---- runs: the sum stays at each order done, and at the one that ended the run, if such an outcome did
    run_same : (k : ℕ) (m : Machine) (n : ℕ) → ((d : ℕ) → n + d < (run_from (by s) k m n).count → StaysWithin (run_from (by s) d m n).machine)
        → ((o : Outcome) → may_go_on o ≡ false → (run_from (by s) k m n).outcome ≡ o → Came o
        → (d : ℕ) → n + d ≡ (run_from (by s) k m n).count → StaysWithin (run_from (by s) d m n).machine)
        → run_from (by t) k m n ≡ run_from (by s) k m n
    unfolding run_from
    run_same zero m n h f = refl
    run_same (suc k) m n h f = by_step (may_go_on (step (by s) m).outcome) refl (run_same k (step (by s) m).machine (n + 1))
      where
        by_step : (v : Bool) → may_go_on (step (by s) m).outcome ≡ v
            → (((d : ℕ) → n + 1 + d < (run_from (by s) k (step (by s) m).machine (n + 1)).count → StaysWithin (run_from (by s) d (step (by s) m).machine (n + 1)).machine)
            → ((o : Outcome) → may_go_on o ≡ false → (run_from (by s) k (step (by s) m).machine (n + 1)).outcome ≡ o → Came o
            → (d : ℕ) → n + 1 + d ≡ (run_from (by s) k (step (by s) m).machine (n + 1)).count → StaysWithin (run_from (by s) d (step (by s) m).machine (n + 1)).machine)
            → run_from (by t) k (step (by s) m).machine (n + 1) ≡ run_from (by s) k (step (by s) m).machine (n + 1))
            → run_from (by t) (suc k) m n ≡ run_from (by s) (suc k) m n
        by_step true u r =
            let o = run_on (by s) k m n u in
            let c = ap (λ (x : Course). x.count) o in
            let e : step (by t) m ≡ step (by s) m = step_same m (λ g. h 0 (omega (arith, c, (count_within (by s) k (step (by s) m).machine (n + 1)).0))) in
            run_on (by t) k m n (ap (λ (x : Answer). may_go_on x.outcome) e ∙ u)
            ∙ ap (λ (x : Answer). run_from (by t) k x.machine (n + 1)) e
            ∙ r
            (λ d l. subst (λ (x : Course). StaysWithin x.machine) (run_on (by s) d m n u) (h (suc d) (omega (arith, c, l))))
            (λ x g p z d l.
            subst (λ (x : Course). StaysWithin x.machine) (run_on (by s) d m n u) (f x g (ap (λ (x : Course). x.outcome) o ∙ p) z (suc d) (omega (arith, c, l))))
            ∙ sym o
        by_step false u r =
            let o = run_ends (by s) k m n u in
            let e : step (by t) m ≡ step (by s) m =
            step_same m
            (λ g.
            f (step (by s) m).outcome u (ap (λ (x : Course). x.outcome) o) g 0
            (omega (arith, ap (λ (x : Course). x.count) o, undone-then (step (by s) m).outcome u g))) in
            rw (e, u, run_from, e)

-- ---- calls

came_wrapped : (u : Machine) (b : ℕ) (k : Changing) (x : Address) (w c : ℕ) → may_go_on (changed u b (changed_word false k x w c)).outcome ≡ true
came_wrapped u b k x w c = refl

-- by the rule that carries an address change is done, or refused with 20
abbrev DoneOrPast : Outcome → Type 0
DoneOrPast o = (may_go_on o ≡ true) ⊎ (o ≡ Err BadAddress)

if_held : (u : Machine) (b : ℕ) (t : Bool) (w : ℕ) → DoneOrPast (changed u b (pick t (Ok w) (Err BadAddress))).outcome
if_held u b true w = inl refl
if_held u b false w = inr refl

came_carried : (u : Machine) (b : ℕ) (k : Changing) (x : Address) (w c : ℕ) → DoneOrPast (changed u b (changed_word true k x w c)).outcome
came_carried u b SetTo x w c = inl refl
came_carried u b AddTo x w c = if_held u b (leb (digits_in w + shifted x c) 9999999999) _
came_carried u b SubFrom x w c = if_held u b (leb (shifted x c) (digits_in w)) _

came_by : (s : Bool) (u : Machine) (b : ℕ) (k : Changing) (x : Address) (w c : ℕ) → DoneOrPast (changed u b (changed_word s k x w c)).outcome
came_by true u b k x w c = came_carried u b k x w c
came_by false u b k x w c = inl refl

past_undone : (o : Outcome) → may_go_on o ≡ false → DoneOrPast o → completed o ≡ 0
past_undone o u (inl g) = false_true (sym u ∙ g)
past_undone o u (inr g) = ap completed g

pub wraps_as_carries : WrapsAsCarries
unfolding ran_as
wraps_as_carries q c =
    of_runs
    (λ (r : Requests → RunResult).
    ((n : ℕ) → n < (r (without_carries q)).count → StaysWithin (behind (without_carries q) c n)) → r q ≡ r (without_carries q)) c (λ b h. refl)
    (λ e h. ap (ran_as c)
    (run_same (inputs_by q c) false q.sums_carry (λ o. may_go_on o ≡ true) came_wrapped (λ o u g. false_true (sym u ∙ g)) c.budget (begun c) 0 (λ d l. h d (omega (arith, l)))
    (λ o u p g. false_true (sym u ∙ g))))

pub carries_as_wraps : CarriesAsWraps
unfolding ran_as
carries_as_wraps q c =
    of_runs
    (λ (r : Requests → RunResult).
    ((n : ℕ) → n < (r q).count → StaysWithin (behind q c n)) → ((r q).ending ≡ Ok (Err BadAddress) → StaysWithin (behind q c (r q).count)) → r q ≡ r (without_carries q))
    c (λ b h f. refl)
    (λ e h f. ap (ran_as c)
    (sym
    (run_same (inputs_by q c) q.sums_carry false DoneOrPast (came_by q.sums_carry) past_undone c.budget (begun c) 0 (λ d l. h d (omega (arith, l)))
    (λ o u p g d l. subst (λ (n : ℕ). StaysWithin (behind q c n)) (sym (omega (arith, l))) (f (ap Ok (p ∙ ended o u g)))))))
  where
    ended : (o : Outcome) → may_go_on o ≡ false → DoneOrPast o → o ≡ Err BadAddress
    ended o u (inl g) = false_true (sym u ∙ g)
    ended o u (inr g) = g

pub as_the_base : AsTheBase
as_the_base c e h = on_run_as_before c e ∙ wraps_as_carries (without_loss_stops present) c h
