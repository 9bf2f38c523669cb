-- A load deck made of a drum's marked cells 001 to 999, so that a prepared drum can be kept. All of it is said over the view. Assumes
-- nothing.
use Rattle.std.specs.Prelude.{ℕ, zero, suc, ◌+◌, List, [], ◌∷◌, ◌++◌, Bool, leb, length, Ok, Err}
use Rattle.rules.specs.Words.{pick, both}
use Rattle.rules.specs.Drum.{view, drum_fits}
use Rattle.rules.specs.Cards.{data_card, first_card}
use Rattle.rules.specs.Codes.{owned_at}
use Rattle.rules.specs.Orders.{words_from}
use Rattle.rules.specs.Running.{over}
use Rattle.rules.specs.Answers.{Cell, Making}
use Rattle.rules.specs.declared.Unmade.TheVariants.{Full, UnfitDrum, UnfitNumber}

-- ---- which cells go on which card

-- how many marked cells come one behind the other from a on, of at most so many
unfoldable pub neighbours : List Cell → ℕ → ℕ → ℕ
neighbours v a zero = 0
neighbours v a (suc n) = pick (owned_at v a) (suc (neighbours v (a + 1) n)) 0

-- what a data card is for: some cells, one behind the other
pub record Block : Type 0 where
  pub location : ℕ
  pub cells : ℕ

-- The cards for the marked cells from a on, by at most so many steps. A card begins at a marked cell and takes those right behind it, up
-- to five in all, and the next is looked for behind them. So a run of neighbours is cut into cards of five with the rest on the last.
unfoldable pub blocks_from : ℕ → List Cell → ℕ → List Block
blocks_from zero v a = []
blocks_from (suc k) v a =
    elim (neighbours v a 5) [
      | zero ↦ blocks_from k v (a + 1)
      | suc n ↦ record { location = a; cells = suc n } ∷ blocks_from k v (a + suc n)
    ]

-- those of a drum: its cells 001 to 999, ascending
abbrev pub blocks_in : List Cell → List Block
blocks_in v = blocks_from 999 v 1

-- ---- the deck

-- the cards of these blocks, numbered upward from here; all bear the problem number
unfoldable pub cards_for : List Cell → ℕ → ℕ → List Block → List ℕ
cards_for v problem number [] = []
cards_for v problem number (b ∷ bs) =
    data_card number b.location (words_from v b.location b.cells) problem ++ cards_for v problem (number + 1) bs

-- the data cards, numbered from 0001, and then the first-order card
unfoldable pub deck_made : List Cell → ℕ → ℕ → List ℕ
deck_made v order problem = cards_for v problem 1 (blocks_in v) ++ first_card order problem

-- ---- a call of make: what it is lent and given, what is answered, and what the lent output then holds. Drum and marks are only read.

pub record MakeCall : Type 0 where
  pub drum : List ℕ
  pub marks : List ℕ
  pub out : List ℕ
  pub order : ℕ
  pub problem : ℕ

pub record MakeResult : Type 0 where
  pub making : Making
  pub out : List ℕ

-- nothing is written
abbrev pub not_made : MakeCall → Making → MakeResult
not_made c x = record { making = x; out = c.out }

-- the deck over the start of the output, if there is room for all of it
unfoldable pub made_of : MakeCall → List ℕ → MakeResult
made_of c deck =
    pick (leb (length deck) (length c.out)) (record { making = Ok (length deck); out = over deck c.out }) (not_made c (Err Full))

-- the first order is 1 to 999, the problem number at most 999
abbrev pub numbers_fit : ℕ → ℕ → Bool
numbers_fit order problem = both (leb 1 order) (both (leb order 999) (leb problem 999))

-- the checks 10, 12 and 22 in their order, and then the deck
unfoldable pub made : MakeCall → MakeResult
made c =
    let v = view c.drum c.marks in
    pick (drum_fits (length c.drum) c.marks v)
    (pick (numbers_fit c.order c.problem) (made_of c (deck_made v c.order c.problem)) (not_made c (Err UnfitNumber)))
    (not_made c (Err UnfitDrum))
