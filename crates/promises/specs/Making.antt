-- What a deck made of a drum's marked cells is worth: which cards it has, that no deck for these cells has fewer data cards, and that
-- loading it gives them back. And what making leaves: a refused call writes nothing, what is past the deck is untouched, and 13,196 bytes
-- are always room enough. Assumes nothing.
use Rattle.std.specs.Prelude.{ℕ, ◌+◌, ◌≤◌, ◌≡◌, List, [], ◌∷◌, map, Bool, true, eqb, leb, ltb, length, get_or, take, drop, Ok, Err}
use Rattle.rules.specs.Words.{pick, both, either}
use Rattle.rules.specs.Drum.{view, cell_at, mark_of, drum_fits}
use Rattle.rules.specs.Cards.{cells_fit}
use Rattle.rules.specs.Decks.{DataCard, data_from, deck_of}
use Rattle.rules.specs.Loads.{LoadResult, fresh, loaded}
use Rattle.rules.specs.Making.{Block, blocks_in, MakeCall, MakeResult, made}
use Rattle.rules.specs.Answers.{Cell, good}
use Rattle.rules.specs.declared.State.{State}
use Rattle.rules.specs.declared.Unmade.TheVariants.{Full}
use Rattle.promises.specs.Calls.{load_of, make_of}

-- ---- which cards

-- whether a data card may be for these cells: one to five of them, within 001 to 999
abbrev pub may_bear : Block → Bool
may_bear b = both (both (leb 1 b.cells) (leb b.cells 5)) (cells_fit b.location b.cells)

unfoldable pub all_may_bear : List Block → Bool
all_may_bear [] = true
all_may_bear (b ∷ bs) = both (may_bear b) (all_may_bear bs)

-- whether the cell a is among them
abbrev pub is_among : Block → ℕ → Bool
is_among b a = both (leb b.location a) (ltb a (b.location + b.cells))

-- how many of the cards are for the cell a
unfoldable pub times : List Block → ℕ → ℕ
times [] a = 0
times (b ∷ bs) a = pick (is_among b a) 1 0 + times bs a

-- the cards are for just the marked cells, 000 aside, and for each of them once
abbrev pub ForJust : List Cell → List Block → Type 0
ForJust v bs = (a : ℕ) → 1 ≤ a → times bs a ≡ mark_of (cell_at v a)

-- Whatever cells are marked: the cards that are made are for just these, each once,
abbrev pub EachOnce : Type 0
EachOnce = (v : List Cell) → length v ≡ 1000 → (all_may_bear (blocks_in v) ≡ true) × ForJust v (blocks_in v)

-- whether a card has five cells, unless the cell behind its last is unmarked
abbrev pub is_whole : List Cell → Block → Bool
is_whole v b = either (eqb b.cells 5) (eqb (mark_of (cell_at v (b.location + b.cells))) 0)

-- whether the cards ascend from the cell a on, and each of them is whole
unfoldable pub in_order : List Cell → ℕ → List Block → Bool
in_order v a [] = true
in_order v a (b ∷ bs) = both (leb a b.location) (both (is_whole v b) (in_order v (b.location + b.cells) bs))

-- They ascend, and each run of neighbours is cut into cards of five with the rest on the last;
abbrev pub RestLast : Type 0
RestLast = (v : List Cell) → in_order v 1 (blocks_in v) ≡ true

-- and no other cards do: what is said so far leaves no choice.
abbrev pub OnlyThese : Type 0
OnlyThese = (v : List Cell) (bs : List Block) → all_may_bear bs ≡ true → ForJust v bs → in_order v 1 bs ≡ true → bs ≡ blocks_in v

-- ---- fewest

-- No cards for just the marked cells, each once, are fewer.
abbrev pub Fewest : Type 0
Fewest = (v : List Cell) (bs : List Block) → all_may_bear bs ≡ true → ForJust v bs → length (blocks_in v) ≤ length bs

-- the data cards of a deck in front of its first-order card, as what they are for
abbrev pub block_of : DataCard → Block
block_of k = record { location = k.location; cells = k.words }

abbrev pub blocks_of : List ℕ → List Block
blocks_of deck = map block_of (data_from deck 0)

-- The deck that is made has these cards; and no deck at all that loads just the marked cells, each once, has fewer data cards to load.
abbrev pub HasThese : Type 0
HasThese = (c : MakeCall) (n : ℕ) → (made c).making ≡ Ok n → blocks_of (take n (made c).out) ≡ blocks_in (view c.drum c.marks)

abbrev pub FewestOfDecks : Type 0
FewestOfDecks =
    (c : MakeCall) (n : ℕ) → (made c).making ≡ Ok n → (deck : List ℕ) → ForJust (view c.drum c.marks) (blocks_of deck)
    → length (blocks_of (take n (made c).out)) ≤ length (blocks_of deck)

-- ---- loads the same

-- a valid drum with all marks 0
pub record Clear (drum marks : List ℕ) : Type 0 where
  pub valid : drum_fits (length drum) marks (view drum marks) ≡ true
  pub unmarked : (a : ℕ) → get_or marks a 0 ≡ 0

-- what a load of the deck that c made, of n bytes, leaves on another drum
pub record Restored (c : MakeCall) (n : ℕ) (drum : List ℕ) (traced : Bool) (x : LoadResult) : Type 0 where
  -- it is loaded, with first order and problem number as they were given
  pub done : x.loading ≡ (Ok tt)
  pub state_is : x.state ≡ fresh n c.order c.problem traced
  -- 000 is as after every load
  pub zero_marked : get_or x.marks 0 0 ≡ 1
  pub zero_is : get_or x.drum 0 0 ≡ 0
  -- every other cell is marked as it was where the deck was made, and if it is, it holds the same word
  pub marks_same : (a : ℕ) → 1 ≤ a → get_or x.marks a 0 ≡ get_or c.marks a 0
  pub words_same : (a : ℕ) → 1 ≤ a → get_or c.marks a 0 ≡ 1 → get_or x.drum a 0 ≡ get_or c.drum a 0
  -- if it is not, it holds what the other drum held
  pub others_kept : (a : ℕ) → 1 ≤ a → get_or c.marks a 0 ≡ 0 → get_or x.drum a 0 ≡ get_or drum a 0

-- What was made is a good deck, whose first-order card is its last.
abbrev pub MadeIsGood : Type 0
MadeIsGood = (c : MakeCall) (n : ℕ) → (made c).making ≡ Ok n → deck_of (take n (made c).out) ≡ good n c.order c.problem

-- Loading it onto any valid drum with all marks 0 gives, 000 aside, the same marks and the same marked words.
abbrev pub LoadsTheSame : Type 0
LoadsTheSame =
    (c : MakeCall) (n : ℕ) → (made c).making ≡ Ok n
    → (drum marks : List ℕ) → Clear drum marks
    → (s : State) (traced : Bool) → Restored c n drum traced (loaded (load_of drum marks (take n (made c).out) s traced))

-- And a deck made of the cells that it gave, with the same first order and problem number, is the same deck, in any room that holds it.
pub record MadeAlike (n : ℕ) (x y : MakeResult) : Type 0 where
  pub making_same : y.making ≡ Ok n
  pub deck_same : take n y.out ≡ take n x.out

abbrev pub SameDeckAgain : Type 0
SameDeckAgain =
    (c : MakeCall) (n : ℕ) → (made c).making ≡ Ok n
    → (drum marks : List ℕ) → Clear drum marks
    → (s : State) (traced : Bool) (room : List ℕ) → n ≤ length room
    → let x = loaded (load_of drum marks (take n (made c).out) s traced) in
    MadeAlike n (made c) (made (make_of x.drum x.marks room c.order c.problem))

-- ---- what is written

-- A call that is refused writes nothing.
abbrev pub RefusedMakeWritesNothing : Type 0
RefusedMakeWritesNothing = (c : MakeCall) → ((n : ℕ) → (made c).making ≡ Ok n → ⊥) → (made c).out ≡ c.out

-- The output is as long as it was, and past the deck it holds what it held.
pub record PastUntouched (c : MakeCall) (n : ℕ) : Type 0 where
  pub room : n ≤ length c.out
  pub long : length (made c).out ≡ length c.out
  pub past : drop n (made c).out ≡ drop n c.out

abbrev pub MadePastUntouched : Type 0
MadePastUntouched = (c : MakeCall) (n : ℕ) → (made c).making ≡ Ok n → PastUntouched c n

-- The longest deck, that of a drum with all cells marked, has 13,196 bytes: in a room of so many a call is never refused as 22.
abbrev pub longest_made : ℕ
longest_made = 13196

abbrev pub RoomEnough : Type 0
RoomEnough = (c : MakeCall) → longest_made ≤ length c.out → (made c).making ≡ (Err Full) → ⊥
