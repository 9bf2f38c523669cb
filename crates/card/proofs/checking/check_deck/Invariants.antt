-- `card::check_deck` meets its contract. The loop over cards: what is left of the deck has the answer of the whole. The loop over the
-- bytes of a card: what is left of the card has its first bad place. Assumes nothing.
use Prim.Native.Nat.{◌-◌}
use lib.ListN.{length}
use Rattle.card.proofs.Checks.{Checking}
use Rattle.card.proofs.Looks.{Looked}
use Rattle.card.proofs.checking.check_deck.Given as goal

abbrev pub invariant-loop-o : goal.invariant-loop-o
invariant-loop-o l = Looked l.form.words l.rest l.o-end l.o

abbrev pub invariant-cards : goal.invariant-cards
invariant-cards l = Checking l.deck l.at l.sofar

abbrev pub decreases-cards : goal.decreases-cards
decreases-cards l = length l.deck - l.at
