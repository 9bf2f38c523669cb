-- `list::listing::write_lines` meets its contract: by what the card is read as. Assumes nothing.
use mathlib.Core.Path.{refl, sym, ◌∙◌}
use Rattle.list.proofs.Endings.{nothing}
use Rattle.list.proofs.Answers.{as_card, data_fits, first_fits}
use Rattle.list.proofs.listing.write_lines.Goals as goal

pub write_data-written-requires : goal.write_data-written-requires
write_data-written-requires c =
    let fits = data_fits _ (sym c.read_card.ensures ∙ c.in-Data.is) in
    record { card_in = fits.0; cells_in = fits.1 }

pub write_first-written-requires : goal.write_first-written-requires
write_first-written-requires c = first_fits _ (sym c.read_card.ensures ∙ c.in-First.is)

pub returns-in-Data : goal.returns-in-Data
returns-in-Data c =
    as_card _ _ _ _ _ (sym c.in-Data.is ∙ c.read_card.ensures)
    (record { shown = c.write_data-written.ensures; taken = refl })

pub returns-in-First : goal.returns-in-First
returns-in-First c =
    as_card _ _ _ _ _ (sym c.in-First.is ∙ c.read_card.ensures)
    (record { shown = c.write_first-written.ensures; taken = refl })

pub returns-in-Bad : goal.returns-in-Bad
returns-in-Bad c = as_card _ _ _ _ _ (sym c.in-Bad.is ∙ c.read_card.ensures) c.write_other.ensures

pub returns-in-End : goal.returns-in-End
returns-in-End c =
    as_card _ _ _ _ _ (sym c.in-End.is ∙ c.read_card.ensures) (record { shown = nothing _ _ refl; taken = refl })
