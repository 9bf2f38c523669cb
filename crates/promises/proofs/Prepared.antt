-- The worked drums, computed on the definitions. Assumes nothing.
use mathlib.Core.Path.{refl}
use Rattle.rules.specs.Bytes.{bytes}
use Rattle.rules.specs.Drum
use Rattle.rules.specs.Cards
use Rattle.rules.specs.Orders
use Rattle.rules.specs.Running
use Rattle.rules.specs.Making
use Rattle.promises.specs.Prepared.{AllPrepared, drums, upward, drum_with, marks_with}

pub all_prepared : AllPrepared
unfolding drums upward drum_with marks_with bytes Drum.view Drum.marks_fit Drum.words_fit Drum.drum_fits Cards.digits Cards.word_bytes Cards.words_bytes Cards.data_card Cards.first_card Cards.width Cards.refusal_line Orders.words_from Running.over Making.neighbours Making.blocks_from Making.cards_for Making.deck_made Making.made_of Making.made
all_prepared = refl
