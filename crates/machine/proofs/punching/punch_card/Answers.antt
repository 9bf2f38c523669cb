-- `machine::punching::punch_card` meets its contract: the words gathered are those of the cells, and the writer is given fields in
-- range. Assumes nothing.
use mathlib.Core.Path.{refl}
use Rattle.machine.proofs.Punches.{card_sent_lem}
use Rattle.machine.proofs.punching.punch_card.Goals as goal

pub returns : goal.returns
returns c = (
  c.number_next.ensures.0,
  refl,
  λ drum₀ out₀ m h.
      card_sent_lem h c.requires.block_fits.0 c.requires.block_fits.1 c.requires.block_fits.2 c.requires.block_fits.3 c.requires.block_fits.4 c.first_words-words.ensures
      c.number_next.ensures.0 c.write_data.ensures refl refl,
)
