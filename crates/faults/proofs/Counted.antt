-- The cards of a deck that begin before a place, counted one by one. Assumes nothing.
use Prim.Native.Nat.{ℕ, suc, ◌+◌, ◌≤◌, ◌<◌}
use native.Mathlib.Nat.{zero-add}
use mathlib.Core.Path.{◌≡◌, refl, ap, ◌∙◌}
use mathlib.Core.List.{List, ◌∷◌}
use mathlib.Core.Bool.{Bool, true, false}
use native.Mathlib.Omega.{arith}
use borrow.Author.Tests.{lt-ltb, le-ltb, ltb-true, ltb-false}
use lib.Dec.{ltb}
use lib.ListN.{length, drop, length-drop}
use Rattle.rules.specs.Decks.{card_at, card_size, Piece, cards_from}
use Rattle.rules.specs.declared.Card.{Card}
use Rattle.rules.specs.declared.Card.TheVariants.{Data, First, Bad, End}
use Rattle.rules.proofs.CardTrips.{first_read}
use Rattle.rules.proofs.Decks.{piece, cards_some, cards_next, cards_end, data_at}
use Rattle.faults.specs.Sentences.{count_before}

-- a card that is there lies within its deck
pub within : (deck : List ℕ) (at : ℕ) → 1 ≤ card_size (card_at deck at) → at + card_size (card_at deck at) ≤ length deck
within deck at l = by_card (card_at deck at) refl l
  where
    by_card : (c : Card) → card_at deck at ≡ c → 1 ≤ card_size c → at + card_size c ≤ length deck
    by_card (Data number location words problem size) q l = (data_at deck at q).within
    by_card (First order problem) q l = omega (arith, (first_read (drop at deck) order problem q).whole, length-drop at deck)
    by_card (Bad f b) q l = absurd (let z : ⊥ = omega arith in z)
    by_card End q l = absurd (let z : ⊥ = omega arith in z)

-- nothing is counted from a place that is not before p, and none where no good card begins
none_from : (deck : List ℕ) (p at : ℕ) → ((ps : List Piece) → count_before p (piece at (drop at deck) ∷ ps) ≡ 0) → count_before p (cards_from deck at) ≡ 0
unfolding count_before
none_from deck p at f = by_place (ltb at (length deck)) refl
  where
    by_place : (t : Bool) → ltb at (length deck) ≡ t → count_before p (cards_from deck at) ≡ 0
    by_place true e = let s = cards_some deck at (ltb-true at (length deck) e) in ap (count_before p) s.1 ∙ f s.0
    by_place false e = ap (count_before p) (cards_end deck at (ltb-false at (length deck) e))

-- n cards begin before the place at, which is where the next one is looked for
pub record Counting (deck : List ℕ) (p at n : ℕ) : Type 0 where
  pub few : n ≤ at
  pub same : n + count_before p (cards_from deck at) ≡ count_before p (cards_from deck 0)

pub count_begin : (deck : List ℕ) (p : ℕ) → Counting deck p 0 0
count_begin deck p = record { few = omega arith; same = zero-add (count_before p (cards_from deck 0)) }

module _ {deck : List ℕ} {p at n : ℕ} (h : Counting deck p at n) where
  all_counted : count_before p (cards_from deck at) ≡ 0 → n ≡ count_before p (cards_from deck 0)
  all_counted e = let s = h.same in omega (arith, e, s)

  pub count_end : p ≤ at → n ≡ count_before p (cards_from deck 0)
  unfolding count_before
  count_end l = all_counted (none_from deck p at (λ ps. rw (le-ltb at p l, count_before)))

  pub count_none : at < p → card_size (card_at deck at) ≡ 0 → n ≡ count_before p (cards_from deck 0)
  unfolding count_before
  count_none l e = all_counted (none_from deck p at (λ ps. rw (lt-ltb at p l, e, count_before)))

  pub count_more : at < p → (size : ℕ) → card_size (card_at deck at) ≡ size → 1 ≤ size → Counting deck p (at + size) (n + 1)
  unfolding count_before
  count_more l size e s =
      let one : count_before p (cards_from deck at) ≡ suc (count_before p (cards_from deck (at + size))) =
      ap (count_before p) (cards_next deck at size e s) ∙ rw (lt-ltb at p l, e, lt-ltb 0 size s, count_before) in
      record { few = omega (arith, h.few); same = omega (arith, one, h.same) }
