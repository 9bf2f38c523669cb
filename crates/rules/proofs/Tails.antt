-- Behind the first-order card of a good deck come data cards, one after another up to its end. Card by card along the deck check.
-- Assumes nothing.
use Rattle.std.proofs.Common.{Err, ap}
use Prim.Native.Nat.{ℕ, zero, suc, ◌+◌, ◌-◌, ◌≤◌, ◌<◌}
use mathlib.Core.Path.{◌≡◌, refl, sym, subst, ◌∙◌}
use mathlib.Core.List.{List, [], ◌∷◌}
use mathlib.Core.Bool.{Bool, true, false}
use native.Mathlib.Omega.{arith}
use lib.Dec.{eqb, ltb}
use lib.ListN.{length, get_or, drop, length-drop}
use borrow.Author.Tests.{eqb-false, ltb-true, ltb-false}
use Rattle.rules.specs.Words.{pick}
use Rattle.rules.specs.Cards.{zero_byte, first_kind, first_size, data_size, word_place, number_in, bad_from, cells_fit, whole_card, is_data_kind, data_of, first_of, card_of}
use Rattle.rules.specs.Decks.{card_at, cards_from, checked_from, deck_of}
use Rattle.rules.specs.Answers.{Deck, good}
use Rattle.rules.specs.declared.Start.{Start}
use Rattle.rules.specs.declared.Fault.TheVariants.{UnknownKind, SecondFirst, CutShort, BadByte, BadPlace}
use Rattle.rules.specs.declared.Card.{Card}
use Rattle.rules.specs.declared.Card.TheVariants.{Data, First, Bad, End}
use Rattle.rules.specs.declared.DeckFault.{DeckFault}
use Rattle.rules.specs.declared.DeckFault.TheVariants.{NoFirst}
use Rattle.rules.proofs.Sides.{same_ok, err_no_ok}
use Rattle.rules.proofs.CardTrips.{first_read}
use Rattle.rules.proofs.Decks.{cards_end, data_at, from_bad, from_data, from_first}

-- ---- what differs

same_behind : {a b c x y z : ℕ} → good a b c ≡ good x y z → a ≡ x
same_behind e = ap (λ (s : Start). s.behind) (same_ok e)

-- ---- some bytes are a card, if a faulty one

abbrev IsThere : Card → Type 0
IsThere (Data number location words problem size) = Unit {0}
IsThere (First order problem) = Unit {0}
IsThere (Bad f b) = Unit {0}
IsThere End = ⊥

some_of : (t : Bool) (x y : Card) → IsThere x → IsThere y → IsThere (pick t x y)
some_of true x y p q = p
some_of false x y p q = q

whole_some : (n size : ℕ) (d : List ℕ) (x : Card) → IsThere x → IsThere (whole_card n size d x)
whole_some n size d x p = go (ltb (length d) size) (ltb (bad_from n d 1 (size - 1)) size)
  where
    go : (t u : Bool) → IsThere (pick t (Bad CutShort 0) (pick u (Bad BadByte (bad_from n d 1 (size - 1))) x))
    go true u = tt
    go false true = tt
    go false false = p

data_some : (n : ℕ) (d : List ℕ) → IsThere (data_of n d)
unfolding data_of
data_some n d =
    whole_some n (data_size n) d _
    (some_of (cells_fit (number_in d 5 3) n) (Data (number_in d 1 4) (number_in d 5 3) n (number_in d (word_place n) 3) (data_size n)) (Bad BadPlace 5) tt tt)

first_some : (d : List ℕ) → IsThere (first_of d)
unfolding first_of
first_some d =
    whole_some 0 first_size d _ (some_of (cells_fit (number_in d 1 3) 1) (First (number_in d 1 3) (number_in d 4 3)) (Bad BadPlace 1) tt tt)

card_some : (k : ℕ) (d : List ℕ) → IsThere (card_of (k ∷ d))
unfolding card_of
card_some k d = go (is_data_kind k) (eqb k first_kind)
  where
    go : (t u : Bool) → IsThere (pick t (data_of (k - zero_byte) (k ∷ d)) (pick u (first_of (k ∷ d)) (Bad UnknownKind 0)))
    go true u = data_some (k - zero_byte) (k ∷ d)
    go false true = first_some (k ∷ d)
    go false false = tt

no_end : {A : Type 0} (d : List ℕ) → 0 < length d → card_of d ≡ End → A
no_end [] l e = let z : ⊥ = omega arith in absurd z
no_end (k ∷ d) l e = absurd (subst IsThere e (card_some k d))

-- ---- data cards from a place on, one behind the other up to the deck's end

pub data Tail (deck : List ℕ) : ℕ → Type 0 where
  at_end : (at : ℕ) → at ≡ length deck → Tail deck at
  one_more :
      (at : ℕ) {number location words problem size : ℕ} → card_at deck at ≡ Data number location words problem size → Tail deck (at + size)
      → Tail deck at

-- the next card of a checked deck is a data card, behind which the check goes on
pub record Next (deck : List ℕ) (at : ℕ) (sofar good : Deck) : Type 0 where
  pub number : ℕ
  pub location : ℕ
  pub words : ℕ
  pub problem : ℕ
  pub size : ℕ
  pub is_data : card_at deck at ≡ Data number location words problem size
  pub goes_on : checked_from sofar (cards_from deck (at + size)) ≡ good

module _ (deck : List ℕ) (at x o p behind order problem : ℕ) (inside : at < length deck)
    (e : checked_from (good x o p) (cards_from deck at) ≡ good behind order problem) where
  by_card : (c : Card) → card_at deck at ≡ c → (t : Bool) → eqb (get_or (drop at deck) 0 0) first_kind ≡ t
      → Next deck at (good x o p) (good behind order problem)
  by_card c q true k = err_no_ok (sym (from_bad deck at (good x o p) inside SecondFirst 0 (rw k)) ∙ e)
  by_card (Data number location words posed size) q false k =
      record {
        number = number;
        location = location;
        words = words;
        problem = posed;
        size = size;
        is_data = q;
        goes_on = sym (from_data deck at (good x o p) (rw k) q) ∙ e;
      }
  by_card (First first posed) q false k = absurd (eqb-false (get_or (drop at deck) 0 0) first_kind k (first_read (drop at deck) first posed q).kind)
  by_card (Bad f b) q false k = err_no_ok (sym (from_bad deck at (good x o p) inside f b (rw k q)) ∙ e)
  by_card End q false k = no_end (drop at deck) (omega (arith, length-drop at deck)) q

  next_data : Next deck at (good x o p) (good behind order problem)
  next_data = by_card (card_at deck at) refl (eqb (get_or (drop at deck) 0 0) first_kind) refl

no_more : (deck : List ℕ) (at x o p behind order problem : ℕ) → at ≡ length deck
    → checked_from (good x o p) (cards_from deck at) ≡ good behind order problem → (x ≡ behind) × Tail deck at
unfolding checked_from
no_more deck at x o p behind order problem l e = (same_behind (rw (cards_end deck at (omega arith)) at e), at_end at l)

behind_first : (deck : List ℕ) (n at x o p behind order problem : ℕ) → length deck ≤ at + n → at ≤ length deck
    → checked_from (good x o p) (cards_from deck at) ≡ good behind order problem → (x ≡ behind) × Tail deck at
behind_first deck zero at x o p behind order problem l k e = no_more deck at x o p behind order problem (omega arith) e
behind_first deck (suc n) at x o p behind order problem l k e =
    by_place (ltb at (length deck)) refl (λ (size : ℕ) some within g. behind_first deck n (at + size) x o p behind order problem (omega arith) within g)
  where
    by_place : (t : Bool) → ltb at (length deck) ≡ t
        → ((size : ℕ) → 1 ≤ size → at + size ≤ length deck → checked_from (good x o p) (cards_from deck (at + size)) ≡ good behind order problem
        → (x ≡ behind) × Tail deck (at + size))
        → (x ≡ behind) × Tail deck at
    by_place true f more =
        let c = next_data deck at x o p behind order problem (ltb-true at (length deck) f) e in
        let d = data_at deck at c.is_data in
        let r = more c.size d.long d.within c.goes_on in
        (r.0, one_more at c.is_data r.1)
    by_place false f more = let g = ltb-false at (length deck) f in no_more deck at x o p behind order problem (omega arith) e

-- up to the first-order card
before_first : (deck : List ℕ) (n at : ℕ) (f : DeckFault) (behind order problem : ℕ) → length deck ≤ at + n
    → checked_from (Err f) (cards_from deck at) ≡ good behind order problem → Tail deck behind
unfolding checked_from
before_first deck zero at f behind order problem l e = err_no_ok (rw (cards_end deck at (omega arith)) at e)
before_first deck (suc n) at f behind order problem l e =
    by_place (ltb at (length deck)) refl (λ (size : ℕ) some g. before_first deck n (at + size) f behind order problem (omega arith) g)
  where
    by_card : at < length deck
        → ((size : ℕ) → 1 ≤ size → checked_from (Err f) (cards_from deck (at + size)) ≡ good behind order problem → Tail deck behind)
        → (c : Card) → card_at deck at ≡ c → Tail deck behind
    by_card inside more (Data number location words posed size) q =
        more size (data_at deck at q).long (sym (from_data deck at (Err f) refl q) ∙ e)
    by_card inside more (First first posed) q =
        let g = sym (from_first deck at (Err f) refl q) ∙ e in
        let r = behind_first deck (length deck) (at + first_size) (at + first_size) first posed behind order problem (omega arith) (omega (arith, (first_read (drop at deck) first posed q).whole, length-drop at deck)) g in
        subst (Tail deck) r.0 r.1
    by_card inside more (Bad g b) q = err_no_ok (sym (from_bad deck at (Err f) inside g b q) ∙ e)
    by_card inside more End q = no_end (drop at deck) (omega (arith, length-drop at deck)) q

    by_place : (t : Bool) → ltb at (length deck) ≡ t
        → ((size : ℕ) → 1 ≤ size → checked_from (Err f) (cards_from deck (at + size)) ≡ good behind order problem → Tail deck behind)
        → Tail deck behind
    by_place true g more = by_card (ltb-true at (length deck) g) more (card_at deck at) refl
    by_place false g more = err_no_ok (rw (cards_end deck at (ltb-false at (length deck) g)) at e)

pub good_tail : (deck : List ℕ) (behind order problem : ℕ) → deck_of deck ≡ good behind order problem → Tail deck behind
unfolding deck_of
good_tail deck behind order problem e = by_length (ltb 65536 (length deck)) refl
  where
    by_length : (t : Bool) → ltb 65536 (length deck) ≡ t → Tail deck behind
    by_length true f = err_no_ok (rw f at e)
    by_length false f = before_first deck (length deck) 0 (NoFirst (length deck)) behind order problem (omega arith) (rw f at e)
