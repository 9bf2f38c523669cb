-- The sentences, computed on the definitions. Assumes nothing.
use mathlib.Core.Path.{refl}
use Rattle.rules.specs.Bytes.{bytes}
use Rattle.rules.specs.Cards
use Rattle.rules.specs.Decks
use Rattle.faults.specs.Sentences
use Rattle.faults.specs.Examples.{SentencesHold}

pub sentences : SentencesHold
unfolding bytes Cards.digits Cards.width Cards.number_in Cards.bad_from Cards.data_of Cards.first_of Cards.card_of Decks.cut_from Decks.checked_from Decks.deck_of Sentences.field_at Sentences.due_at Sentences.word_name Sentences.field_name Sentences.due_name Sentences.blank_name Sentences.byte_name Sentences.head_of Sentences.card_sentence Sentences.none_sentence Sentences.card_line Sentences.count_before Sentences.deck_line
sentences =
    record {
      kind = refl;
      second = refl;
      cut = refl;
      digit = refl;
      sign = refl;
      number = refl;
      last_cell = refl;
      first_order = refl;
      none = refl;
    }
