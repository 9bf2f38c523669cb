-- A reader that stands at a card's start, or at the deck's end, stands at one again behind the cards that it has read. By the data cards
-- behind the first-order card. Assumes nothing.
use Rattle.std.proofs.Common.{Err, Ok}
use Prim.Native.Nat.{ℕ, ◌+◌}
use mathlib.Core.Path.{◌≡◌, refl, sym, ap, subst}
use mathlib.Core.List.{List, []}
use mathlib.Core.Bool.{Bool, true, false}
use native.Mathlib.Omega.{arith}
use lib.Dec.{eqb, ltb}
use lib.ListN.{length, drop}
use borrow.Author.Tests.{eqb-true, eq-eqb}
use Rattle.rules.specs.Words.{pick, either}
use Rattle.rules.specs.Answers.{Judged}
use Rattle.rules.specs.Decks.{card_at, DataCard, data_from, data_in, fits_block, judged, judged_from, begins_at, may_stand}
use Rattle.rules.specs.declared.Card.TheVariants.{Data}
use Rattle.rules.specs.declared.Refusal.TheVariants.{NoCard}
use Rattle.rules.proofs.Tests.{false_true}
use Rattle.rules.proofs.Sides.{same_ok, err_no_ok}
use Rattle.rules.proofs.Decks.{cards_end, data_next}
use Rattle.rules.proofs.Tails.{Tail, at_end, one_more}

-- ---- where a reader may stand

either_true : (a b : Bool) → b ≡ true → either a b ≡ true
either_true true b e = refl
either_true false b e = e

-- behind a data card that begins at `at`: there, or where one may stand behind it
stands_next : (deck : List ℕ) (at r : ℕ) {number location words problem size : ℕ} → card_at deck at ≡ Data number location words problem size
    → may_stand deck at r ≡ either (eqb (length deck) r) (either (eqb at r) (begins_at (data_from deck (at + size)) r))
unfolding begins_at
stands_next deck at r q = ap (λ (ks : List DataCard). either (eqb (length deck) r) (begins_at ks r)) (data_next deck at q)

stands_behind : (deck : List ℕ) (at r : ℕ) {number location words problem size : ℕ} → card_at deck at ≡ Data number location words problem size
    → may_stand deck (at + size) r ≡ true → may_stand deck at r ≡ true
stands_behind deck at r {size = size} q e =
    rw (stands_next deck at r q) (go (eqb (length deck) r) (eqb at r) (begins_at (data_from deck (at + size)) r) e)
  where
    go : (a b c : Bool) → either a c ≡ true → either a (either b c) ≡ true
    go true b c g = refl
    go false b c g = either_true b c g

stands_end : (deck : List ℕ) (at r : ℕ) → at ≡ length deck → may_stand deck at r ≡ true → r ≡ at
unfolding begins_at data_in
stands_end deck at r l e =
    let d : data_from deck at ≡ [] = ap data_in (cards_end deck at (omega arith)) in
    by_end (eqb (length deck) r) refl (rw d at e)
  where
    by_end : (t : Bool) → eqb (length deck) r ≡ t → either t false ≡ true → r ≡ at
    by_end true f g = let h = eqb-true (length deck) r f in omega arith
    by_end false f g = false_true g

stands_here : (deck : List ℕ) (at : ℕ) → Tail deck at → may_stand deck at at ≡ true
stands_here deck at (at_end a l) = rw (eq-eqb (length deck) at (sym l))
stands_here deck at (one_more a q t) = rw (stands_next deck at at q, eq-eqb at at refl) (go (eqb (length deck) at))
  where
    go : (b : Bool) → either b true ≡ true
    go b = either_true b true refl

-- from a place where one may stand, the deck goes on in the same way, and one may stand wherever one may from there
pub record From (deck : List ℕ) (at r : ℕ) : Type 0 where
  pub tail : Tail deck r
  pub stands : (e : ℕ) → may_stand deck r e ≡ true → may_stand deck at e ≡ true

pub tail_from : (deck : List ℕ) (at r : ℕ) → Tail deck at → may_stand deck at r ≡ true → From deck at r
tail_from deck at r (at_end a l) e =
    subst (From deck at) (sym (stands_end deck at r l e)) (record { tail = at_end at l; stands = λ x y. y })
tail_from deck at r (one_more a {size = size} q t) e =
    by_place (eqb at r) refl (eqb (length deck) r) refl (λ f. tail_from deck (at + size) r t f)
  where
    by_place : (b : Bool) → eqb at r ≡ b → (c : Bool) → eqb (length deck) r ≡ c → (may_stand deck (at + size) r ≡ true → From deck (at + size) r) → From deck at r
    by_place true f c g k = subst (From deck at) (eqb-true at r f) (record { tail = one_more at q t; stands = λ x y. y })
    by_place false f c g k =
        let h = k (rw (stands_next deck at r q, f) at e) in
        record { tail = h.tail; stands = λ x y. stands_behind deck at x q (h.stands x y) }

-- ---- READ

-- a reader that was not moved
unmoved : (deck : List ℕ) (at end : ℕ) → Tail deck at → ◌≡◌ {A = Judged} (Ok at) (Ok end) → may_stand deck at end ≡ true
unmoved deck at end t e = subst (λ (x : ℕ). may_stand deck at x ≡ true) (same_ok e) (stands_here deck at t)

-- the place behind the cards read
read_stands : (deck : List ℕ) (at b c end : ℕ) → Tail deck at → judged_from deck at b c ≡ Ok end → may_stand deck at end ≡ true
unfolding judged data_in
read_stands deck at b c end (at_end a l) e =
    by_filled (ltb c b) (rw (ap data_in (cards_end deck at (omega arith))) at e)
  where
    by_filled : (t : Bool) → pick t (Ok at) (Err NoCard) ≡ Ok end → may_stand deck at end ≡ true
    by_filled true f = unmoved deck at end (at_end at l) f
    by_filled false f = err_no_ok f
read_stands deck at b c end (one_more a {location = location} {words = words} {size = size} q t) e =
    by_filled (ltb c b) refl (fits_block (card location words size) b c) refl (read_stands deck (at + size) (b + words) c end t)
  where
    card : ℕ → ℕ → ℕ → DataCard
    card location words size = record { place = at; location = location; words = words; size = size; rest = drop at deck }

    by_filled : (u : Bool) → ltb c b ≡ u → (v : Bool) → fits_block (card location words size) b c ≡ v
        → (judged_from deck (at + size) (b + words) c ≡ Ok end → may_stand deck (at + size) end ≡ true) → may_stand deck at end ≡ true
    by_filled true f v g k = unmoved deck at end (one_more at q t) (rw (data_next deck at q, f, judged) at e)
    by_filled false f true g k = stands_behind deck at end q (k (rw (data_next deck at q, f, g, judged) at e))
    by_filled false f false g k = err_no_ok (rw (data_next deck at q, f, g, judged) at e)

-- A reader that may stand where it does may stand where READ leaves it.
pub read_leaves : (deck : List ℕ) (behind r b c end : ℕ) → Tail deck behind → may_stand deck behind r ≡ true → judged_from deck r b c ≡ Ok end
    → may_stand deck behind end ≡ true
read_leaves deck behind r b c end t s e =
    let f = tail_from deck behind r t s in
    f.stands end (read_stands deck r b c end f.tail e)
