-- `making::write_card` meets its contract: the words gathered are those of the cells, and the writer is given fields in range and room.
-- Assumes nothing.
use Rattle.making.proofs.Writing.{card_stands}
use Rattle.making.proofs.cards.write_card.Goals as goal

pub returns : goal.returns
returns c =
    let a = c.args in
    let p = c.requires.block_fits in
    card_stands _ c.requires.sound.words _ a.out.now a.at a.number a.a a.n a.problem p.0 p.1 p.2 p.3 p.4 p.5 p.6
    c.first_words-words.ensures _ c.write_data.ensures
