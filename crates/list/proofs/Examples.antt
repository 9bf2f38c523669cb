-- The listings, computed on the definitions. Assumes nothing.
use mathlib.Core.Path.{refl}
use Rattle.rules.specs.Bytes.{bytes}
use Rattle.rules.specs.Cards
use Rattle.rules.specs.Codes
use Rattle.faults.specs.Sentences
use Rattle.list.specs.Listing
use Rattle.list.specs.Examples.{ListingsHold}

pub listings : ListingsHold
unfolding bytes Cards.digits Cards.word_bytes Cards.width Cards.number_in Cards.word_in Cards.bad_from Cards.data_of Cards.first_of Cards.card_of Codes.codes Codes.name_in Codes.code_in Sentences.field_at Sentences.due_at Sentences.word_name Sentences.field_name Sentences.due_name Sentences.blank_name Sentences.byte_name Sentences.head_of Sentences.card_sentence Sentences.none_sentence Sentences.card_line Listing.order_line Listing.cell_line Listing.head_line Listing.cell_lines Listing.data_lines Listing.first_line Listing.shown_lines Listing.trace_lines Listing.stop_line Listing.is_trace Listing.stop_bad Listing.is_stop Listing.lines_of Listing.size_of Listing.wrong_in Listing.end_line Listing.last_line Listing.listed_from Listing.listing
listings =
    record {
      session = refl;
      punched = refl;
      traced = refl;
      ended = refl;
      named = refl;
      cut = refl;
      past = refl;
      letter = refl;
      shown = refl;
      second = refl;
      no_first_order = refl;
      none = refl;
    }
