-- A deck cut into its cards, card by card: what comes of the cards from a place on, and of their check, by the card that begins there.
-- Assumes nothing.
use Rattle.std.proofs.Common.{Err}
use Prim.Native.Nat.{ℕ, zero, suc, ◌+◌, ◌*◌, ◌≤◌, ◌<◌}
use native.Mathlib.Omega.{arith}
use mathlib.Core.Path.{◌≡◌, refl, ap, ◌∙◌}
use mathlib.Core.List.{List, [], ◌∷◌}
use lib.ListN.{length, drop, length-drop, drop_of_length-le}
use lib.Seq.{drop-drop}
use Rattle.rules.specs.Cards.{first_size, card_of, word_in, word_place}
use Rattle.rules.specs.Decks.{card_at, card_size, Piece, cut_from, cards_from, met, checked_from, data_in, data_from}
use Rattle.rules.specs.Answers.{Deck, good}
use Rattle.rules.specs.declared.Fault.{Fault}
use Rattle.rules.specs.declared.Card.{Card}
use Rattle.rules.specs.declared.Card.TheVariants.{Data, First, Bad, End}
use Rattle.rules.specs.declared.DeckFault.TheVariants.{At}
use Rattle.rules.proofs.CardTrips.{data_read}
use Rattle.rules.proofs.Fields.{word_below}

-- ---- the cards from a place on

-- the bytes passed are no part of a card
cut_next : (k at : ℕ) (d : List ℕ) → cut_from k at d ≡ cut_from 0 (at + k) (drop k d)
unfolding cut_from
cut_next zero at d = ap (λ (a : ℕ). cut_from 0 a d) (omega arith)
cut_next (suc k) at [] = refl
cut_next (suc k) at (b ∷ d) = cut_next k (at + 1) d ∙ ap (λ (a : ℕ). cut_from 0 a (drop k d)) (omega arith)

abbrev pub piece : ℕ → List ℕ → Piece
piece at d = record { place = at; card = card_of d; rest = d }

cut_whole : (at size : ℕ) (d : List ℕ) → card_size (card_of d) ≡ size → 1 ≤ size → cut_from 0 at d ≡ piece at d ∷ cut_from 0 (at + size) (drop size d)
unfolding cut_from card_of
cut_whole at zero d e l = absurd (let z : ⊥ = omega arith in z)
cut_whole at (suc k) [] e l = absurd (let z : ⊥ = omega arith in z)
cut_whole at (suc k) (b ∷ d) e l =
    rw (e, cut_from)
    (ap (λ (ps : List Piece). piece at (b ∷ d) ∷ ps) (cut_next k (at + 1) d ∙ ap (λ (a : ℕ). cut_from 0 a (drop k d)) (omega arith)))

-- behind a whole card stand the cards from its end on
pub cards_next : (deck : List ℕ) (at size : ℕ) → card_size (card_at deck at) ≡ size → 1 ≤ size
    → cards_from deck at ≡ piece at (drop at deck) ∷ cards_from deck (at + size)
cards_next deck at size e l =
    cut_whole at size (drop at deck) e l
    ∙ ap (λ (d : List ℕ). piece at (drop at deck) ∷ cut_from 0 (at + size) d) (drop-drop size at deck)

-- whatever its bytes, a card comes first where some bytes are left
cut_some : (at : ℕ) (d : List ℕ) → (length d ≡ 0 → ⊥) → (ps : List Piece) × (cut_from 0 at d ≡ piece at d ∷ ps)
unfolding cut_from
cut_some at [] n = absurd (n refl)
cut_some at (b ∷ d) n = (_, refl)

pub cards_some : (deck : List ℕ) (at : ℕ) → at < length deck → (ps : List Piece) × (cards_from deck at ≡ piece at (drop at deck) ∷ ps)
cards_some deck at l = cut_some at (drop at deck) (λ z. omega (arith, length-drop at deck))

pub cards_end : (deck : List ℕ) (at : ℕ) → length deck ≤ at → cards_from deck at ≡ []
unfolding cut_from
cards_end deck at l = ap (cut_from 0 at) (drop_of_length-le deck {i = at} l)

-- ---- the data cards from a place on

-- what is known of a data card at a place of the deck
pub record DataAt (deck : List ℕ) (at location words size : ℕ) : Type 0 where
  pub some : 1 ≤ words
  pub upto : location + words ≤ 1000
  pub long : 1 ≤ size
  pub within : at + size ≤ length deck
  pub are_words : (i : ℕ) → i < words → word_in (drop at deck) (word_place i) ≤ 19999999999

module _ (deck : List ℕ) (at : ℕ) {number location words problem size : ℕ} (e : card_at deck at ≡ Data number location words problem size) where
  pub data_at : DataAt deck at location words size
  data_at =
      let r = data_read (drop at deck) number location words problem size e in
      record {
        some = r.some;
        upto = r.upto;
        long = omega (arith, r.long);
        within = omega (arith, r.long, r.whole, length-drop at deck);
        are_words = λ i l. word_below (drop at deck) (8 + 11 * i) (r.fields.words i l);
      }

  pub data_next : data_from deck at
      ≡ record { place = at; location = location; words = words; size = size; rest = drop at deck } ∷ data_from deck (at + size)
  unfolding data_in
  data_next = ap data_in (cards_next deck at size (ap card_size e) data_at.long) ∙ rw (e, data_in)

-- a card is no data card, as far as the `else` of a `let` knows
abbrev pub Other : Card → Type 0
Other x = (number location words problem size : ℕ) → x ≡ Data number location words problem size → ⊥

none_in : (at : ℕ) (d : List ℕ) (x : Card) → Other x → card_of d ≡ x → data_in (cut_from 0 at d) ≡ []
unfolding cut_from data_in
none_in at [] x t q = refl
none_in at (b ∷ d) (Data number location words problem size) t q =
    absurd (t number location words problem size refl)
none_in at (b ∷ d) (First order problem) t q = rw (q, data_in)
none_in at (b ∷ d) (Bad f p) t q = rw (q, data_in)
none_in at (b ∷ d) End t q = rw (q, data_in)

pub data_none : (deck : List ℕ) (at : ℕ) (x : Card) → Other x → card_at deck at ≡ x → data_from deck at ≡ []
data_none deck at = none_in at (drop at deck)

-- ---- the check from a place on

-- it ends at a card with a fault, and else goes on behind the card that is met
module _ (deck : List ℕ) (at : ℕ) (sofar : Deck) where
  pub from_bad : at < length deck → (f : Fault) (b : ℕ) → met sofar (piece at (drop at deck)) ≡ Bad f b
      → checked_from sofar (cards_from deck at) ≡ Err (At at f (at + b))
  unfolding checked_from
  from_bad here f b e = ap (checked_from sofar) (cards_some deck at here).1 ∙ rw (e, checked_from)

  module _ (m : met sofar (piece at (drop at deck)) ≡ card_at deck at) where
    pub from_data : {number location words problem size : ℕ} → card_at deck at ≡ Data number location words problem size
        → checked_from sofar (cards_from deck at) ≡ checked_from sofar (cards_from deck (at + size))
    unfolding checked_from
    from_data {size = size} e =
        ap (checked_from sofar) (cards_next deck at size (ap card_size e) (data_at deck at e).long) ∙ rw (m ∙ e, checked_from)

    pub from_first : {order problem : ℕ} → card_at deck at ≡ First order problem
        → checked_from sofar (cards_from deck at) ≡ checked_from (good (at + first_size) order problem) (cards_from deck (at + first_size))
    unfolding checked_from
    from_first e = ap (checked_from sofar) (cards_next deck at first_size (ap card_size e) (omega arith)) ∙ rw (m ∙ e, checked_from)
