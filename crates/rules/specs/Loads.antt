-- A whole call of load, with its entry checks. Assumes nothing.
use Rattle.std.specs.Prelude.{ℕ, List, Bool, true, false, length, Ok, Err}
use Rattle.rules.specs.Words.{pick}
use Rattle.rules.specs.Drum.{view, store, marks_of, overlay, drum_fits}
use Rattle.rules.specs.Decks.{data_from, cards_stored, deck_of}
use Rattle.rules.specs.Machine.{clear_box}
use Rattle.rules.specs.Answers.{Cell, Deck, Loading}
use Rattle.rules.specs.declared.State.{State}
use Rattle.rules.specs.declared.Bar.{Bar}
use Rattle.rules.specs.declared.Bar.TheVariants.{BadDrum, BadDeck}

-- what a call is lent and given, what is answered, and what the lent drum and marks then hold
pub record LoadCall : Type 0 where
  pub drum : List ℕ
  pub marks : List ℕ
  pub deck : List ℕ
  pub state : State
  pub traced : Bool

pub record LoadResult : Type 0 where
  pub loading : Loading
  pub state : State
  pub drum : List ℕ
  pub marks : List ℕ

-- nothing is changed, and the state is handed back as it came
abbrev pub not_loaded : LoadCall → Bar → LoadResult
not_loaded c b = record { loading = Err b; state = c.state; drum = c.drum; marks = c.marks }

-- plain or traced
abbrev pub mode_of : Bool → ℕ
mode_of true = 1
mode_of false = 0

-- The state that a load leaves: the first order and the problem number are those of the first-order card, loop box and counter are
-- clear, the reader is behind that card, and a traced load starts with tracing on.
abbrev pub fresh : ℕ → ℕ → ℕ → Bool → State
fresh behind order problem traced =
    record {
      location = order;
      counts = clear_box;
      counter = 0;
      problem = problem;
      reader = behind;
      mode = mode_of traced;
      tracing = mode_of traced;
    }

-- the cards before the first-order card are stored, and cell 000 becomes +0
abbrev pub cells_loaded : List Cell → List ℕ → ℕ → List Cell
cells_loaded v deck behind = store (cards_stored behind (data_from deck 0) v) 0 0

unfoldable pub loaded_from : LoadCall → Deck → LoadResult
loaded_from c (Err f) = not_loaded c (BadDeck f)
loaded_from c (Ok start) =
    let v = cells_loaded (view c.drum c.marks) c.deck start.behind in
    record {
      loading = Ok tt;
      state = fresh start.behind start.order start.problem c.traced;
      drum = overlay c.drum v;
      marks = marks_of v;
    }

-- check 10 and that of the deck in their order, and then the load
unfoldable pub loaded : LoadCall → LoadResult
loaded c =
    pick (drum_fits (length c.drum) c.marks (view c.drum c.marks)) (loaded_from c (deck_of c.deck)) (not_loaded c BadDrum)
