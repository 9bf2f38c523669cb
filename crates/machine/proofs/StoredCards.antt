-- The words of a card and the data cards of a deck stored one by one, as loops do: what is left to store comes to what the whole does.
-- Assumes nothing.
use Prim.Native.Nat.{ℕ, zero, suc, ◌+◌, ◌≤◌, ◌<◌}
use mathlib.Core.Path.{◌≡◌, refl, sym, ap, subst, ◌∙◌}
use mathlib.Core.List.{List, [], ◌∷◌}
use native.Mathlib.Omega.{arith}
use native.Mathlib.Numerals.{add-one}
use lib.ListN.{drop}
use borrow.Author.Tests.{lt-ltb, le-ltb}
use Rattle.rules.specs.Cards.{card_of, word_in, word_place}
use Rattle.rules.specs.Drum.{store}
use Rattle.rules.specs.Decks.{card_at, card_size, Piece, cut_from, DataCard, data_in, data_from, words_stored, cards_stored}
use Rattle.rules.specs.Answers.{Cell}
use Rattle.rules.specs.declared.Card.{Card}
use Rattle.rules.specs.declared.Card.TheVariants.{Data, First, Bad, End}
use Rattle.rules.proofs.Decks.{Other, data_next, data_none}
use Rattle.drum.specs.Held.{Holds, Keeps, Stored}
use Rattle.drum.proofs.Cells.{kept}

-- ---- the words of a card

words_more : (d : List ℕ) (l i : ℕ) (v : List Cell) → store (words_stored d l i v) (l + i) (word_in d (word_place i)) ≡ words_stored d l (i + 1) v
unfolding words_stored
words_more d l i v = rw add-one

-- the first i words of the card d are stored
pub record StoringWords (drum₁ marks₁ d : List ℕ) (l : ℕ) (drum marks : List ℕ) (i : ℕ) : Type 0 where
  pub keeps : Keeps drum₁ marks₁ drum marks (words_stored d l i)

pub no_words : {drum marks d : List ℕ} {l : ℕ} → StoringWords drum marks d l drum marks 0
unfolding words_stored
no_words = record { keeps = λ drum₀ v h. h }

pub one_word_more : {drum₁ marks₁ drum marks drum' marks' d : List ℕ} {l i w : ℕ} → StoringWords drum₁ marks₁ d l drum marks i
    → w ≡ word_in d (word_place i) → word_in d (word_place i) ≤ 19999999999 → l + i < 1000 → Stored drum marks (l + i) w drum' marks'
    → StoringWords drum₁ marks₁ d l drum' marks' (i + 1)
one_word_more {drum' = drum'} {marks' = marks'} {d = d} {l = l} {i = i} {w = w} h q g f s = record {
  keeps = λ drum₀ v y.
      subst (λ (x : List Cell). Holds drum₀ drum' marks' x)
      (ap (store (words_stored d l i v) (l + i)) q ∙ words_more d l i v)
      (kept (h.keeps drum₀ v y) (l + i) w f (omega (arith, q, g)) s);
}

-- ---- the cards of a deck

-- what begins at `end` or behind is not stored
past : (end : ℕ) (k : DataCard) (ks : List DataCard) (v : List Cell) → end ≤ k.place → cards_stored end (k ∷ ks) v ≡ v
unfolding cards_stored
past end k ks v l = simp (le-ltb k.place end l, cards_stored)

first_past : (at end : ℕ) (x : Card) (rest : List ℕ) (ps : List Piece) (v : List Cell) → end ≤ at
    → cards_stored end (data_in (record { place = at; card = x; rest = rest } ∷ ps)) v ≡ v
unfolding data_in cards_stored
first_past at end (Data number location words problem size) rest ps v l =
    past end (record { place = at; location = location; words = words; size = size; rest = rest }) (data_in ps) v l
first_past at end (First order problem) rest ps v l = refl
first_past at end (Bad f b) rest ps v l = refl
first_past at end End rest ps v l = refl

all_past : (at end : ℕ) (d : List ℕ) (v : List Cell) → end ≤ at → cards_stored end (data_in (cut_from 0 at d)) v ≡ v
unfolding cut_from data_in cards_stored
all_past at end [] v l = refl
all_past at end (b ∷ d) v l = first_past at end (card_of (b ∷ d)) (b ∷ d) (elim (card_size (card_of (b ∷ d))) [ zero ↦ [] | suc k ↦ cut_from k (at + 1) d ]) v l

-- the cards before place `at` are stored
pub record StoringCards (drum₁ marks₁ deck : List ℕ) (from end : ℕ) (drum marks : List ℕ) (at : ℕ) : Type 0 where
  pub keeps : (drum₀ : List ℕ) (v : List Cell) → Holds drum₀ drum₁ marks₁ v
      → (u : List Cell) × Holds drum₀ drum marks u × (cards_stored end (data_from deck at) u ≡ cards_stored end (data_from deck from) v)

module _ {drum₁ marks₁ deck : List ℕ} {from end : ℕ} {drum marks : List ℕ} {at : ℕ} (h : StoringCards drum₁ marks₁ deck from end drum marks at) where
  -- nothing is left to store
  ended : ((u : List Cell) → cards_stored end (data_from deck at) u ≡ u) → Keeps drum₁ marks₁ drum marks (cards_stored end (data_from deck from))
  ended e drum₀ v y =
      let k = h.keeps drum₀ v y in subst (λ (x : List Cell). Holds drum₀ drum marks x) (sym (e k.0) ∙ k.2) k.1

  pub storing_end : end ≤ at → Keeps drum₁ marks₁ drum marks (cards_stored end (data_from deck from))
  storing_end l = ended (λ u. all_past at end (drop at deck) u l)

  pub storing_none : (x : Card) → Other x → card_at deck at ≡ x → Keeps drum₁ marks₁ drum marks (cards_stored end (data_from deck from))
  unfolding cards_stored
  storing_none x t q = ended (λ u. ap (λ (ks : List DataCard). cards_stored end ks u) (data_none deck at x t q))

  pub storing_more : {number location words problem size : ℕ} {drum' marks' : List ℕ} → card_at deck at ≡ Data number location words problem size
      → at < end → Keeps drum marks drum' marks' (words_stored (drop at deck) location words)
      → StoringCards drum₁ marks₁ deck from end drum' marks' (at + size)
  unfolding cards_stored
  storing_more {location = location} {words = words} {size = size} q l g = record {
    keeps = λ drum₀ v y.
        let k = h.keeps drum₀ v y in
        let s : cards_stored end (data_from deck at) k.0 ≡ cards_stored end (data_from deck (at + size)) (words_stored (drop at deck) location words k.0) =
        ap (λ (ks : List DataCard). cards_stored end ks k.0) (data_next deck at q) ∙ simp (lt-ltb at end l, cards_stored) in
        (words_stored (drop at deck) location words k.0, g drum₀ k.0 k.1, sym s ∙ k.2);
  }
