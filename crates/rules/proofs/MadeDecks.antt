-- The deck that is made, as cards: each of its data cards is read back as it was written, and then the first-order card, so the deck check
-- finds it good and its data cards bear the words of the blocks. Card by card along the blocks. Assumes nothing.
use Rattle.std.proofs.Common.{Err}
use Prim.Native.Nat.{ℕ, zero, suc, ◌+◌, ◌*◌, ◌≤◌, ◌<◌}
use mathlib.Core.Path.{◌≡◌, refl, sym, ap, subst, ◌∙◌}
use mathlib.Core.List.{List, [], ◌∷◌, ◌++◌, append_assoc, append-nil}
use mathlib.Core.Bool.{Bool, true, false}
use native.Mathlib.Omega.{arith}
use lib.Dec.{leb, ltb}
use lib.ListN.{length, get_or, drop, length-drop, get_or-append}
use lib.Seq.{get_or_at}
use borrow.Author.Tests.{leb-true, ltb-true, ltb-false, le-ltb}
use Rattle.rules.specs.Words.{both}
use Rattle.rules.specs.Drum.{word_at, words_fit}
use Rattle.rules.specs.Cards.{data_card, first_card, card_of, word_in}
use Rattle.rules.specs.Decks.{card_at, card_size, cards_from, checked_from, deck_of, DataCard, data_in, data_from}
use Rattle.rules.specs.Orders.{words_from}
use Rattle.rules.specs.Making.{Block, blocks_in, cards_for, deck_made, numbers_fit}
use Rattle.rules.specs.Answers.{Cell, good}
use Rattle.rules.specs.declared.Card.TheVariants.{Data, First}
use Rattle.rules.specs.declared.DeckFault.{DeckFault}
use Rattle.rules.specs.declared.DeckFault.TheVariants.{NoFirst}
use Rattle.rules.proofs.Tests.{both_first, both_second}
use Rattle.rules.proofs.Fields.{length_first, behind}
use Rattle.rules.proofs.CardTrips.{DataRead, data_is, data_written_read, data_written_words, first_is, first_written_read}
use Rattle.rules.proofs.Decks.{cards_next, cards_end, data_at, data_next, from_data, from_first}
use Rattle.rules.proofs.Sound.{all_words}
use Rattle.rules.proofs.Punching.{words_long, card_bytes}
use Rattle.rules.proofs.Blocks.{Run, run_inside, Cut, no_steps, passes, takes, all_ahead}
use Rattle.rules.proofs.MadeSizes.{made_short}
use Rattle.rules.proofs.MadeCells.{AllBear, no_card, one_card}

-- ---- the words of a block

pub word_of : (v : List Cell) (b n i : ℕ) → i < n → get_or (words_from v b n) i 0 ≡ word_at v (b + i)
unfolding words_from
word_of v b zero i h = let z : ⊥ = omega arith in absurd z
word_of v b (suc n) i h = by_last (ltb i n) refl (word_of v b n i)
  where
    w : ℕ
    w = word_at v (b + n)

    by_last : (t : Bool) → ltb i n ≡ t → (i < n → get_or (words_from v b n) i 0 ≡ word_at v (b + i))
        → get_or (words_from v b n ++ (w ∷ [])) i 0 ≡ word_at v (b + i)
    by_last true e r =
        let l = ltb-true i n e in
        get_or-append (words_from v b n) (w ∷ []) 0 i (omega (arith, words_long v b n)) ∙ r l
    by_last false e r =
        let q : i ≡ n = omega (arith, ltb-false i n e) in
        get_or_at (words_from v b n) w [] 0 i (words_long v b n ∙ sym q) ∙ ap (λ (j : ℕ). word_at v (b + j)) (sym q)

-- ---- the cards of a deck

abbrev card_for : List Cell → ℕ → ℕ → ℕ → ℕ → List ℕ
card_for v problem number a n = data_card number a (words_from v a n) problem

module _ (v : List Cell) (order problem : ℕ) (long : length v ≡ 1000) (are_words : (a : ℕ) → word_at v a ≤ 19999999999) (short : problem ≤ 999)
    (deck : List ℕ) where
  -- a card of n cells from a on stands at a place, and then the rest; its number is not above a
  module _ {a n : ℕ} (some : 1 ≤ n) (h : Run v a n 5) (number at : ℕ) (low : number ≤ a) (from : 1 ≤ a) (rest : List ℕ)
      (e : drop at deck ≡ card_for v problem number a n ++ rest) where
    card_is : card_at deck at ≡ Data number a n problem (11 + 11 * n)
    card_is =
        let ws : List ℕ = words_from v a n in
        let l : length ws ≡ n = words_long v a n in
        let upto : a + n ≤ 1000 = omega (arith, run_inside some h) in
        let few : n ≤ 5 = h.few in
        ap card_of e
        ∙ data_is _ number a n problem (11 + 11 * n)
        (subst (λ (k : ℕ). DataRead (card_for v problem number a n ++ rest) number a k problem (11 + 11 * k)) l
        (data_written_read number a ws problem rest (omega arith) (omega arith) (omega arith) (omega arith) (omega arith) (omega arith)))

    card_has : (i : ℕ) → i < n → word_in (drop at deck) (8 + 11 * i) ≡ word_at v (a + i)
    card_has i l =
        let m : length (words_from v a n) ≡ n = words_long v a n in
        ap (λ (d : List ℕ). word_in d (8 + 11 * i)) e
        ∙ data_written_words number a (words_from v a n) problem rest
        (λ j k. subst (λ (w : ℕ). w ≤ 19999999999) (sym (word_of v a n j (omega arith))) (are_words (a + j))) i (omega arith)
        ∙ word_of v a n i l

    card_behind : drop (at + (11 + 11 * n)) deck ≡ rest
    card_behind = behind deck (card_for v problem number a n) rest at (11 + 11 * n) _ e (card_bytes v number a n problem) refl

  -- at the place `at` stand the cards of the blocks, numbered from here, and then the first-order card, which is the last
  abbrev Stand : ℕ → ℕ → List Block → Type 0
  Stand at number bs = drop at deck ≡ cards_for v problem number bs ++ first_card order problem

  -- then the deck check, which has found no first-order card so far, finds it good, and the data cards from there on bear the blocks' words
  record Read (at : ℕ) (bs : List Block) : Type 0 where
    good : (f : DeckFault) → checked_from (Err f) (cards_from deck at) ≡ good (length deck) order problem
    bears : AllBear v (length deck) (data_from deck at) bs

  module _ (from : 1 ≤ order) (upto : order ≤ 999) where
    last_read : (at number : ℕ) → Stand at number [] → Read at []
    unfolding cards_for checked_from data_in
    last_read at number e =
        let is : card_at deck at ≡ First order problem =
        ap card_of (e ∙ sym (append-nil (first_card order problem)))
        ∙ first_is _ order problem (first_written_read order problem [] from (omega arith) (omega arith)) in
        let end : at + 7 ≡ length deck = omega (arith, length-drop at deck, ap length e, length_first order problem) in
        let next = cards_next deck at 7 (ap card_size is) (omega arith) in
        record {
          good = λ f.
              from_first deck at (Err f) refl is
              ∙ rw (cards_end deck (at + 7) (omega arith)) (ap (λ (n : ℕ). good n order problem) end);
          bears =
              subst (λ (ks : List DataCard). AllBear v (length deck) ks []) (sym (ap data_in next ∙ rw (is, data_in))) no_card;
        }

    all_read : {k a : ℕ} {bs : List Block} → Cut v k a bs → (at number : ℕ) → number ≤ a → 1 ≤ a → Stand at number bs → Read at bs
    unfolding cards_for
    all_read no_steps at number low some e = last_read at number e
    all_read (passes o c) at number low some e = all_read c at number (omega arith) (omega arith) e
    all_read (takes {a = a} {n = n} {bs = bs} s h c) at number low some e =
        let rest : List ℕ = cards_for v problem (number + 1) bs ++ first_card order problem in
        let stands : drop at deck ≡ card_for v problem number a n ++ rest =
        e ∙ append_assoc (card_for v problem number a n) (cards_for v problem (number + 1) bs) (first_card order problem) in
        let is = card_is s h number at low some rest stands in
        let r : Read (at + (11 + 11 * n)) bs =
        all_read c _ (number + 1) (omega arith) (omega arith) (card_behind s h number at low some rest stands) in
        record {
          good = λ f. from_data deck at (Err f) refl is ∙ r.good f;
          bears =
              subst (λ (ks : List DataCard). AllBear v (length deck) ks (record { location = a; cells = n } ∷ bs)) (sym (data_next deck at is))
              (one_card
              (record {
                before = let d = data_at deck at is in omega arith;
                same_location = refl;
                same_words = refl;
                has = card_has s h number at low some rest stands;
              })
              r.bears);
        }

-- ---- the whole deck

module _ (v : List Cell) (order problem : ℕ) (long : length v ≡ 1000) (fit : words_fit v ≡ true) (from : 1 ≤ order) (upto : order ≤ 999)
    (posed : problem ≤ 999) where
  whole : Read v order problem long (all_words v fit) posed (deck_made v order problem) 0 (blocks_in v)
  unfolding deck_made
  whole =
      all_read v order problem long (all_words v fit) posed (deck_made v order problem) from upto (all_ahead v).cut 0 1 (omega arith)
      (omega arith) refl

  -- it is a good deck, whose first-order card is its last,
  pub deck_good : deck_of (deck_made v order problem) ≡ good (length (deck_made v order problem)) order problem
  unfolding deck_of
  deck_good =
      let deck : List ℕ = deck_made v order problem in
      rw (le-ltb 65536 (length deck) (omega (arith, made_short v order problem long))) (whole.good (NoFirst (length deck)))

  -- and its data cards bear the words of the blocks
  pub deck_bears : AllBear v (length (deck_made v order problem)) (data_from (deck_made v order problem) 0) (blocks_in v)
  deck_bears = whole.bears

-- what is known of the numbers that a deck may have
pub in_range_lem : (order problem : ℕ) → numbers_fit order problem ≡ true → (1 ≤ order) × (order ≤ 999) × (problem ≤ 999)
in_range_lem order problem e =
    let f = both_second (leb 1 order) (both (leb order 999) (leb problem 999)) e in (
      leb-true 1 order (both_first (leb 1 order) (both (leb order 999) (leb problem 999)) e),
      leb-true order 999 (both_first (leb order 999) (leb problem 999) f),
      leb-true problem 999 (both_second (leb order 999) (leb problem 999) f),
    )
