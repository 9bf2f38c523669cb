-- `faults::sentences::of_deck` meets its contract, fault by fault. Assumes nothing.
use Prim.Native.Nat.{ℕ}
use mathlib.Core.Path.{sym, ap, ◌∙◌}
use Rattle.faults.specs.Sentences.{none_line, deck_line}
use Rattle.faults.proofs.Says.{card_lines}
use Rattle.faults.proofs.sentences.of_deck.Goals as goal

pub returns-in-TooLong : goal.returns-in-TooLong
unfolding deck_line
returns-in-TooLong c = c.of_long.ensures ∙ sym (ap (deck_line c.args.deck.now) c.in-TooLong.is)

pub returns-in-At : goal.returns-in-At
unfolding deck_line
returns-in-At c =
    c.of_card.ensures ∙ card_lines _ _ c.card_from_start.ensures c.saturating_sub.ensures c.rest_of.ensures ∙ sym (ap (deck_line c.args.deck.now) c.in-At.is)

pub returns-in-NoFirst : goal.returns-in-NoFirst
unfolding deck_line
returns-in-NoFirst c =
    c.of_none.ensures ∙ ap (λ (k : ℕ). none_line k c.in-NoFirst.n) c.card_from_start-in-NoFirst.ensures ∙ sym (ap (deck_line c.args.deck.now) c.in-NoFirst.is)
