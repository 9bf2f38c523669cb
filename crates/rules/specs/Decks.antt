-- A deck cut into its cards; the deck check; and the data cards from a place on: stored, judged for READ, and where a reader may stand.
-- Assumes nothing.
use Rattle.std.specs.Prelude.{ℕ, zero, suc, ◌+◌, List, [], ◌∷◌, Bool, true, false, eqb, leb, ltb, length, get_or, drop, Ok, Err}
use Rattle.rules.specs.Words.{pick, both, either}
use Rattle.rules.specs.Cards.{first_kind, first_size, card_of, word_in, word_place}
use Rattle.rules.specs.Drum.{store}
use Rattle.rules.specs.Answers.{Cell, Deck, Judged, good}
use Rattle.rules.specs.declared.Fault.TheVariants.{SecondFirst}
use Rattle.rules.specs.declared.Card.{Card}
use Rattle.rules.specs.declared.Card.TheVariants.{Data, First, Bad, End}
use Rattle.rules.specs.declared.DeckFault.TheVariants.{TooLong, At, NoFirst}
use Rattle.rules.specs.declared.Refusal.TheVariants.{Unfit, NoCard}

-- ---- cutting

-- each card is read from what is left of the deck
abbrev pub card_at : List ℕ → ℕ → Card
card_at deck at = card_of (drop at deck)

-- how many bytes a good card has; 0 where there is none, and no card is looked for behind it
abbrev pub card_size : Card → ℕ
card_size (Data number location words problem size) = size
card_size (First order problem) = first_size
card_size (Bad f b) = 0
card_size End = 0

-- a card, the place where it begins, and what is left of the deck there
pub record Piece : Type 0 where
  pub place : ℕ
  pub card : Card
  pub rest : List ℕ

-- The cards of what is left of a deck from place `at` on, once so many bytes of it are passed. Nothing is told behind a card with a
-- fault.
unfoldable pub cut_from : ℕ → ℕ → List ℕ → List Piece
cut_from skip at [] = []
cut_from (suc k) at (b ∷ d) = cut_from k (at + 1) d
cut_from zero at (b ∷ d) =
    record { place = at; card = card_of (b ∷ d); rest = b ∷ d }
    ∷ elim (card_size (card_of (b ∷ d))) [
      | zero ↦ []
      | suc k ↦ cut_from k (at + 1) d
    ]

-- the cards of a deck from a place on
abbrev pub cards_from : List ℕ → ℕ → List Piece
cards_from deck from = cut_from 0 from (drop from deck)

-- ---- the deck check

-- the card of a piece as the check meets it: behind a first-order card a second one is a fault whatever its bytes
abbrev pub met : Deck → Piece → Card
met (Ok start) p = pick (eqb (get_or p.rest 0 0) first_kind) (Bad SecondFirst 0) p.card
met (Err f) p = p.card

-- The cards in their order, up to the first with a fault; `sofar` is the answer if no more come.
unfoldable pub checked_from : Deck → List Piece → Deck
checked_from sofar [] = sofar
checked_from sofar (p ∷ ps) =
    elim (met sofar p) [
      | Data number location words problem size ↦ checked_from sofar ps
      | First order problem ↦ checked_from (good (p.place + first_size) order problem) ps
      | Bad f b ↦ Err (At p.place f (p.place + b))
      | End ↦ sofar
    ]

-- A deck is at most 65,536 bytes; each card has its form; exactly one is a first-order card. The first fault is told.
unfoldable pub deck_of : List ℕ → Deck
deck_of deck =
    pick (ltb 65536 (length deck)) (Err TooLong) (checked_from (Err (NoFirst (length deck))) (cards_from deck 0))

-- ---- data cards

pub record DataCard : Type 0 where
  pub place : ℕ
  pub location : ℕ
  pub words : ℕ
  pub size : ℕ
  pub rest : List ℕ

-- the data cards that come first, up to anything else
unfoldable pub data_in : List Piece → List DataCard
data_in [] = []
data_in (p ∷ ps) =
    elim p.card [
      | Data number location words problem size ↦
          record { place = p.place; location = location; words = words; size = size; rest = p.rest } ∷ data_in ps
      | First order problem ↦ []
      | Bad f b ↦ []
      | End ↦ []
    ]

abbrev pub data_from : List ℕ → ℕ → List DataCard
data_from deck from = data_in (cards_from deck from)

-- the first n words of the card d go to the cells from l on
unfoldable pub words_stored : List ℕ → ℕ → ℕ → List Cell → List Cell
words_stored d l zero v = v
words_stored d l (suc i) v = store (words_stored d l i v) (l + i) (word_in d (word_place i))

-- the cards that begin before the place `end`, in order, so that a later word goes over an earlier
unfoldable pub cards_stored : ℕ → List DataCard → List Cell → List Cell
cards_stored end [] v = v
cards_stored end (k ∷ ks) v =
    elim (ltb k.place end) [
      | true ↦ cards_stored end ks (words_stored k.rest k.location k.words v)
      | false ↦ v
    ]

-- whether the card has the location b and does not go past c
abbrev pub fits_block : DataCard → ℕ → ℕ → Bool
fits_block k b c = both (eqb k.location b) (leb (b + k.words) (c + 1))

-- READ takes cards while a cell from b to c is left to fill, the next of them at place `at`. The first that fails is told, and where
-- all fit the place behind the last.
unfoldable pub judged : List DataCard → ℕ → ℕ → ℕ → Judged
judged [] at b c = pick (ltb c b) (Ok at) (Err NoCard)
judged (k ∷ ks) at b c =
    elim (ltb c b) [
      | true ↦ Ok at
      | false ↦
          elim (fits_block k b c) [
            | true ↦ judged ks (k.place + k.size) (b + k.words) c
            | false ↦ Err Unfit
          ]
    ]

abbrev pub judged_from : List ℕ → ℕ → ℕ → ℕ → Judged
judged_from deck from b c = judged (data_from deck from) from b c

-- A reader may stand where one of the data cards behind the first-order card begins, or at the deck's end.
unfoldable pub begins_at : List DataCard → ℕ → Bool
begins_at [] r = false
begins_at (k ∷ ks) r = either (eqb k.place r) (begins_at ks r)

abbrev pub may_stand : List ℕ → ℕ → ℕ → Bool
may_stand deck behind r = either (eqb (length deck) r) (begins_at (data_from deck behind) r)
