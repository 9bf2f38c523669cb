-- `card::card_at` meets its contract: past the deck's end nothing is left, and before it `&deck[at..]` is what is left. Assumes nothing.
use mathlib.Core.Path.{ap, sym, ◌∙◌}
use native.Mathlib.Omega.{arith}
use lib.ListN.{drop_of_length-le}
use Rattle.rules.specs.Cards.{card_of}
use Rattle.card.proofs.Checks.{part_is}
use Rattle.card.proofs.reading.card_at.Goals as goal

pub returns-then-deck-at : goal.returns-then-deck-at
unfolding card_of
returns-then-deck-at c = sym (ap card_of (drop_of_length-le c.args.deck.now {i = c.args.at} (omega arith)))

pub returns : goal.returns
returns c = c.read_card.ensures ∙ ap card_of (part_is c.args.deck.now c.args.at)
