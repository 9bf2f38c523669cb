-- `machine::reading::store_cards`: before each turn the cards before `at` are stored; a data card has bytes, so `at` rises. Assumes
-- nothing.
use mathlib.Core.Path.{◌≡◌, refl, sym, subst, ◌∙◌}
use mathlib.Core.List.{List}
use Prim.Native.Nat.{ℕ, ◌≤◌}
use native.Mathlib.Omega.{arith}
use Rattle.rules.specs.Cards.{word_in, word_place}
use Rattle.rules.specs.Decks.{card_at, words_stored}
use Rattle.rules.specs.declared.Card.TheVariants.{Data}
use Rattle.rules.proofs.Decks.{DataAt, data_at}
use Rattle.card.proofs.Checks.{part_is}
use Rattle.drum.specs.Held.{Keeps}
use Rattle.machine.proofs.StoredCards.{storing_end, storing_none, storing_more}
use Rattle.machine.proofs.reading.store_cards.Goals as goal
use Rattle.machine.proofs.reading.store_cards.Goals.{In-Data}

-- the card that a turn stores
met : (x : In-Data)
    → card_at x.args.deck.now x.loop-at.at
    ≡ Data x.in-Data.number x.in-Data.location x.in-Data.words x.in-Data.problem x.in-Data.size
met x = sym x.card_at.ensures ∙ x.in-Data.is

known : (x : In-Data) → DataAt x.args.deck.now x.loop-at.at x.in-Data.location x.in-Data.words x.in-Data.size
known x = data_at x.args.deck.now x.loop-at.at (met x)

pub loop-at-init : goal.loop-at-init
loop-at-init c = (omega arith, omega arith, record { keeps = λ drum₀ v h. (v, h, refl) })

pub returns-in_default : goal.returns-in_default
returns-in_default c =
    storing_none c.loop-at.invariant.2 c.card_at.result c.in_default.not-Data (sym c.card_at.ensures)

pub slice_bounds-store_words-count : goal.slice_bounds-store_words-count
slice_bounds-store_words-count c = omega (arith, (known (goal.at.slice_bounds-store_words-count c).In-Data).within)

pub slice_bounds-store_words-start : goal.slice_bounds-store_words-start
slice_bounds-store_words-start c = omega (arith, (known (goal.at.slice_bounds-store_words-start c).In-Data).within)

pub store_words-requires : goal.store_words-requires
store_words-requires c =
    record { cells_in = (known (goal.at.store_words-requires c).In-Data).upto; words_fit = λ i k. subst (λ (y : List ℕ). word_in y (word_place i) ≤ 19999999999) (sym (part_is c.args.deck.now c.loop-at.at)) ((known (goal.at.store_words-requires c).In-Data).are_words i k) }

pub overflow_add-at : goal.overflow_add-at
overflow_add-at c = omega (arith, (known (goal.at.overflow_add-at c).In-Data).within)

pub loop-at-smaller : goal.loop-at-smaller
loop-at-smaller c = omega (arith, (known (goal.at.loop-at-smaller c).In-Data).long, c.loop-at-test.true)

pub loop-at-preserved : goal.loop-at-preserved
loop-at-preserved c =
    let l = c.loop-at in
    let w = c.store_words in (
      omega (arith, w.auto.drum),
      omega (arith, w.auto.marks),
      storing_more l.invariant.2 (met (goal.at.loop-at-preserved c).In-Data) c.loop-at-test.true
          (subst (λ (y : List ℕ). Keeps l.drum l.marks w.new.drum w.new.marks (words_stored y c.in-Data.location c.in-Data.words))
          (part_is c.args.deck.now l.at) w.ensures),
    )

pub returns : goal.returns
returns c = storing_end c.loop-at.invariant.2 c.loop-at-test.false
