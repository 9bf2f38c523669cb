-- The session of the paper, computed on the definitions. Assumes nothing.
use mathlib.Core.Path.{refl}
use Rattle.rules.specs.Words
use Rattle.rules.specs.Bytes.{bytes}
use Rattle.rules.specs.Rounding
use Rattle.rules.specs.Arithmetic
use Rattle.rules.specs.Drum
use Rattle.rules.specs.Cards
use Rattle.rules.specs.Decks
use Rattle.rules.specs.Codes
use Rattle.rules.specs.Orders
use Rattle.rules.specs.Running
use Rattle.rules.specs.Loads
use Rattle.rules.specs.Sheet
use Rattle.promises.specs.Session.{SessionHolds, deck, empty_drum, session_load, session_run}

pub session : SessionHolds
unfolding bytes deck empty_drum session_load session_run Words.is_number Rounding.nearest Rounding.place Rounding.placed Rounding.settled Rounding.sum Rounding.sum_of Arithmetic.add_of Drum.view Drum.marks_of Drum.overlay Drum.marks_fit Drum.words_fit Drum.drum_fits Cards.digits Cards.word_bytes Cards.words_bytes Cards.data_card Cards.stop_card Cards.number_in Cards.word_in Cards.bad_from Cards.data_of Cards.first_of Cards.card_of Decks.cut_from Decks.checked_from Decks.deck_of Decks.data_in Decks.words_stored Decks.cards_stored Decks.begins_at Codes.codes Codes.lookup Codes.code_in Codes.owned_from Codes.checked Orders.words_from Orders.cards_punched Orders.punched Orders.performed Orders.gone Running.obeyed Running.traced Running.fetched Running.step Running.run_from Running.over Running.ran_as Running.state_fits Running.ran_on Running.ran_by Loads.loaded_from Loads.loaded Sheet.sheet
session = record { writes = refl; changes = refl }
