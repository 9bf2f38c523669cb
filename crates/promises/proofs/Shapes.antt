-- Which cards are made: for just the marked cells, each once, ascending, with the rest of each run on its last card. Along the cells, step
-- by step, cards that are so can be no others. Assumes nothing.
use Rattle.std.proofs.Common.{None, Some}
use Prim.Native.Nat.{ℕ, ◌+◌, ◌≤◌, ◌<◌}
use native.Mathlib.Omega.{arith}
use mathlib.Core.Path.{◌≡◌, refl, sym, ap, ap₂, subst, ◌∙◌}
use mathlib.Core.List.{List, [], ◌∷◌}
use mathlib.Core.Bool.{Bool, true, false}
use lib.Dec.{eqb, leb, ltb}
use lib.ListN.{length, get_or-eq_default}
use borrow.Author.Tests.{eqb-true, eqb-false, leb-true, le-leb, lt-leb, ltb-true, ltb-false, lt-ltb, le-ltb}
use Rattle.rules.specs.Words.{both, either}
use Rattle.rules.specs.Drum.{cell_at, is_owned, mark_of}
use Rattle.rules.specs.Cards.{cells_fit}
use Rattle.rules.specs.Codes.{owned_at}
use Rattle.rules.specs.Making.{Block}
use Rattle.rules.specs.Answers.{Cell}
use Rattle.rules.proofs.Tests.{both_first, both_second}
use Rattle.rules.proofs.Blocks.{owned_is, foreign_is, Run, run_inside, one_run, Cut, no_steps, passes, takes, all_ahead}
use Rattle.promises.specs.Making.{may_bear, all_may_bear, times, EachOnce, is_whole, in_order, RestLast, OnlyThese}

-- ---- marks

pub mark_owned : (c : Cell) → is_owned c ≡ true → mark_of c ≡ 1
mark_owned c e = ap mark_of (sym (owned_is c e))

pub marked_owned : (c : Cell) → 1 ≤ mark_of c → is_owned c ≡ true
marked_owned None l = let z : ⊥ = omega arith in absurd z
marked_owned (Some w) l = refl

unmarked : (c : Cell) → mark_of c ≡ 0 → is_owned c ≡ false
unmarked None e = refl
unmarked (Some w) e = let z : ⊥ = omega arith in absurd z

-- ---- what a data card may be for

pub may_bear_lem : (a n : ℕ) → 1 ≤ n → n ≤ 5 → 1 ≤ a → a + n ≤ 1000 → may_bear (record { location = a; cells = n }) ≡ true
may_bear_lem a n some few from upto = simp (le-leb 1 n some, le-leb n 5 few, le-leb 1 a from, le-leb (a + n) 1000 upto)

-- what is known of such a card
pub record Borne (b : Block) : Type 0 where
  pub some : 1 ≤ b.cells
  pub few : b.cells ≤ 5
  pub from : 1 ≤ b.location
  pub upto : b.location + b.cells ≤ 1000

pub borne : (b : Block) → may_bear b ≡ true → Borne b
borne b e =
    let sizes : Bool = both (leb 1 b.cells) (leb b.cells 5) in
    let fits : Bool = cells_fit b.location b.cells in
    let s = both_first sizes fits e in
    let f = both_second sizes fits e in
    record {
      some = leb-true 1 b.cells (both_first (leb 1 b.cells) (leb b.cells 5) s);
      few = leb-true b.cells 5 (both_second (leb 1 b.cells) (leb b.cells 5) s);
      from = leb-true 1 b.location (both_first (leb 1 b.location) (leb (b.location + b.cells) 1000) f);
      upto = leb-true (b.location + b.cells) 1000 (both_second (leb 1 b.location) (leb (b.location + b.cells) 1000) f);
    }

-- ---- how many cards are for a cell

-- for the cells of the first card there is one more than of the others, and for those behind it just the others
module _ (b : Block) (bs : List Block) (x : ℕ) where
  pub times_there : b.location ≤ x → x < b.location + b.cells → times (b ∷ bs) x ≡ 1 + times bs x
  unfolding times
  times_there i l = simp (le-leb b.location x i, lt-ltb x (b.location + b.cells) l)

  times_behind : b.location + b.cells ≤ x → times (b ∷ bs) x ≡ times bs x
  unfolding times
  times_behind l = simp (le-leb b.location x (omega arith), le-ltb x (b.location + b.cells) l) (omega arith)

-- ---- cards in order

data Ascend (v : List Cell) : ℕ → List Block → Type 0 where
  no_more : {a : ℕ} → Ascend v a []
  and_then :
      {a : ℕ} {b : Block} {bs : List Block} → a ≤ b.location → is_whole v b ≡ true → Ascend v (b.location + b.cells) bs → Ascend v a (b ∷ bs)

ascend : (v : List Cell) (a : ℕ) (bs : List Block) → in_order v a bs ≡ true → Ascend v a bs
unfolding in_order
ascend v a [] e = no_more
ascend v a (b ∷ bs) e =
    let rest : Bool = in_order v (b.location + b.cells) bs in
    let f = both_second (leb a b.location) (both (is_whole v b) rest) e in
    and_then (leb-true a b.location (both_first (leb a b.location) (both (is_whole v b) rest) e)) (both_first (is_whole v b) rest f)
    (ascend v (b.location + b.cells) bs (both_second (is_whole v b) rest f))

in_order_lem : {v : List Cell} {a : ℕ} {bs : List Block} → Ascend v a bs → in_order v a bs ≡ true
unfolding in_order
in_order_lem no_more = refl
in_order_lem (and_then {a = a} {b = b} l w r) = simp (le-leb a b.location l, w, in_order_lem r)

-- none is for a cell before them
none_before : {v : List Cell} {a : ℕ} {bs : List Block} → Ascend v a bs → (x : ℕ) → x < a → times bs x ≡ 0
unfolding times
none_before no_more x l = refl
none_before (and_then {b = b} i w r) x l = simp (lt-leb b.location x (omega arith), none_before r x (omega arith))

-- ---- the cards that are made

all_or_ends : (n most : ℕ) (c : Cell) → n ≤ most → (n < most → is_owned c ≡ false) → either (eqb n most) (eqb (mark_of c) 0) ≡ true
all_or_ends n most c few ends = by_all (eqb n most) refl
  where
    by_all : (t : Bool) → eqb n most ≡ t → either t (eqb (mark_of c) 0) ≡ true
    by_all true f = refl
    by_all false f = let d = eqb-false n most f in ap (λ (x : Cell). eqb (mark_of x) 0) (foreign_is c (ends (omega arith)))

whole_is : {v : List Cell} {a n : ℕ} → Run v a n 5 → is_whole v (record { location = a; cells = n }) ≡ true
whole_is {v} {a} {n} r = all_or_ends n _ (cell_at v (a + n)) (omega (arith, r.few)) (λ l. r.ends (omega arith))

made_ascend : {v : List Cell} {k a x : ℕ} {bs : List Block} → Cut v k a bs → x ≤ a → Ascend v x bs
made_ascend no_steps l = no_more
made_ascend (passes o c) l = made_ascend c (omega arith)
made_ascend (takes {a = a} {n = n} s r c) l =
    and_then {b = record { location = a; cells = n }} l (whole_is r) (made_ascend c (omega arith))

pub rest_last : RestLast
rest_last v = in_order_lem (made_ascend (all_ahead v).cut (omega arith))

all_bear : {v : List Cell} {k a : ℕ} {bs : List Block} → Cut v k a bs → length v ≡ 1000 → 1 ≤ a → all_may_bear bs ≡ true
unfolding all_may_bear
all_bear no_steps l i = refl
all_bear (passes o c) l i = all_bear c l (omega arith)
all_bear (takes {a = a} {n = n} s r c) l i =
    simp (may_bear_lem a n s r.few i (omega (arith, run_inside s r)), all_bear c l (omega arith))

-- one is for each marked cell from a on
times_from : {v : List Cell} {k a : ℕ} {bs : List Block} → Cut v k a bs → length v ≤ a + k → (x : ℕ) → a ≤ x
    → times bs x ≡ mark_of (cell_at v x)
unfolding times
times_from {v} no_steps l x i = sym (ap mark_of (get_or-eq_default v None (omega arith)))
times_from {v} {bs = bs} (passes {a = a} o c) l x i = by_first (eqb a x) refl (λ (j : a + 1 ≤ x). times_from c (omega arith) x j)
  where
    by_first : (t : Bool) → eqb a x ≡ t → (a + 1 ≤ x → times bs x ≡ mark_of (cell_at v x)) → times bs x ≡ mark_of (cell_at v x)
    by_first true f go =
        let e : a ≡ x = eqb-true a x f in
        none_before {a = a + 1} (made_ascend c (omega arith)) x (omega arith)
        ∙ sym (ap mark_of (foreign_is (cell_at v x) (ap (owned_at v) (sym e) ∙ o)))
    by_first false f go = let d = eqb-false a x f in go (omega arith)
times_from {v} (takes {a = a} {n = n} {bs = bs} s r c) l x i = by_end (ltb x (a + n)) refl (λ (j : a + n ≤ x). times_from c (omega arith) x j)
  where
    b : Block
    b = record { location = a; cells = n }

    by_end : (t : Bool) → ltb x (a + n) ≡ t → (a + n ≤ x → times bs x ≡ mark_of (cell_at v x)) → times (b ∷ bs) x ≡ mark_of (cell_at v x)
    by_end true f go =
        let h = ltb-true x (a + n) f in
        omega (
          arith,
          times_there b bs x i h,
          none_before {a = a + n} (made_ascend c (omega arith)) x h,
          mark_owned (cell_at v x) (r.owned x i h),
        )
    by_end false f go = let h = ltb-false x (a + n) f in times_behind b bs x h ∙ go h

pub each_once : EachOnce
each_once v l = (all_bear (all_ahead v).cut l (omega arith), times_from (all_ahead v).cut (omega (arith, (all_ahead v).enough)))

-- ---- only these

-- a card of marked cells is a run from its first on
run_is : (v : List Cell) (b : Block) → b.cells ≤ 5 → is_whole v b ≡ true
    → ((x : ℕ) → b.location ≤ x → x < b.location + b.cells → owned_at v x ≡ true) → Run v b.location b.cells 5
run_is v b few w owned = record { few = few; owned = owned; ends = λ l. by_five l (eqb b.cells 5) refl w }
  where
    by_five : b.cells < 5 → (t : Bool) → eqb b.cells 5 ≡ t → either t (eqb (mark_of (cell_at v (b.location + b.cells))) 0) ≡ true
        → owned_at v (b.location + b.cells) ≡ false
    by_five l true f e = let z : ⊥ = omega (arith, eqb-true b.cells 5 f) in absurd z
    by_five l false f e = unmarked (cell_at v (b.location + b.cells)) (eqb-true (mark_of (cell_at v (b.location + b.cells))) 0 e)

-- a cell that no card is for is before them, and one that a card is for is the first of theirs
passed : {v : List Cell} {a : ℕ} {bs : List Block} → Ascend v a bs → all_may_bear bs ≡ true → times bs a ≡ 0 → Ascend v (a + 1) bs
unfolding all_may_bear
passed no_more bear e = no_more
passed (and_then {a = a} {b = b} {bs = bs} i w r) bear e = and_then {b = b} (by_place (ltb a b.location) refl) w r
  where
    by_place : (t : Bool) → ltb a b.location ≡ t → a + 1 ≤ b.location
    by_place true f = omega (arith, ltb-true a b.location f)
    by_place false f =
        let l = ltb-false a b.location f in
        let m : Borne b = borne b (both_first (may_bear b) (all_may_bear bs) bear) in
        omega (arith, times_there b bs a l (omega arith))

begins : {v : List Cell} {a : ℕ} {b : Block} {bs : List Block} → Ascend v a (b ∷ bs) → 1 ≤ times (b ∷ bs) a → b.location ≡ a
begins (and_then {a = a} {b = b} i w r) h = by_place (ltb a b.location) refl
  where
    by_place : (t : Bool) → ltb a b.location ≡ t → b.location ≡ a
    by_place true f = omega (arith, none_before (and_then {b = b} (ltb-true a b.location f) w r) a (omega arith))
    by_place false f = omega (arith, ltb-false a b.location f)

-- so they are those that the steps come to
are_these : {v : List Cell} {k a : ℕ} {bs cs : List Block} → Cut v k a cs → 1000 ≤ a + k → Ascend v a bs → all_may_bear bs ≡ true
    → ((x : ℕ) → a ≤ x → times bs x ≡ mark_of (cell_at v x)) → bs ≡ cs
unfolding all_may_bear times
are_these no_steps l no_more bear just = refl
are_these no_steps l (and_then {b = b} {bs = bs} i w r) bear just =
    let m : Borne b = borne b (both_first (may_bear b) (all_may_bear bs) bear) in let z : ⊥ = omega arith in absurd z
are_these {v} (passes {a = a} o c) l h bear just =
    let none = just a (omega arith) ∙ ap mark_of (foreign_is (cell_at v a) o) in
    are_these c (omega arith) (passed h bear none) bear (λ x i. just x (omega arith))
are_these {v} (takes {a = a} s h c) l no_more bear just =
    let z : ⊥ = omega (arith, just a (omega arith), mark_owned (cell_at v a) (h.owned a (omega arith) (omega arith))) in absurd z
are_these {v} (takes {a = a} {n = n} s h c) l (and_then {b = b} {bs = bs} i w r) bear just =
    let m : Borne b = borne b (both_first (may_bear b) (all_may_bear bs) bear) in
    let some : 1 ≤ times (b ∷ bs) a = omega (arith, just a (omega arith), mark_owned (cell_at v a) (h.owned a (omega arith) (omega arith))) in
    let at : b.location ≡ a = begins (and_then {b = b} i w r) some in
    let run : Run v b.location b.cells 5 =
    run_is v b m.few w (λ x j g. marked_owned (cell_at v x) (omega (arith, just x (omega arith), times_there b bs x j g))) in
    let size : b.cells ≡ n = one_run run (subst (λ (x : ℕ). Run v x n 5) (sym at) h) in
    let rest : bs ≡ _ =
    are_these c (omega arith) (subst (λ (x : ℕ). Ascend v x bs) (omega arith) r) (both_second (may_bear b) (all_may_bear bs) bear)
    (λ x j. sym (times_behind b bs x (omega arith)) ∙ just x (omega arith)) in
    ap₂ (λ (x : Block) (xs : List Block). x ∷ xs) (ap₂ (λ (x j : ℕ). record { location = x; cells = j }) at size) rest

pub only_these : OnlyThese
only_these v bs bear just e = are_these (all_ahead v).cut (all_ahead v).enough (ascend v 1 bs e) bear just
