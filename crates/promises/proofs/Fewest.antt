-- Why no deck for the same cells has fewer data cards than the one that is made: of the first cells of its cards no two can be on one card
-- of any deck, and each of them must be on some. Assumes nothing.
use Prim.Native.Nat.{ℕ, zero, suc, ◌+◌, ◌≤◌, ◌<◌}
use native.Mathlib.Omega.{arith}
use mathlib.Core.Path.{◌≡◌, refl, ap}
use mathlib.Core.List.{List, [], ◌∷◌, map}
use mathlib.Core.Bool.{Bool, true, false}
use lib.Dec.{leb, ltb}
use lib.ListN.{length, length-map}
use borrow.Author.Tests.{leb-true, ltb-true}
use Rattle.rules.specs.Words.{pick}
use Rattle.rules.specs.Drum.{view, cell_at}
use Rattle.rules.specs.Cards.{card_of}
use Rattle.rules.specs.Codes.{owned_at}
use Rattle.rules.specs.Decks.{card_size, Piece, cut_from, data_in}
use Rattle.rules.specs.Making.{Block, blocks_in}
use Rattle.rules.specs.Answers.{Cell}
use Rattle.rules.specs.declared.Card.{Card}
use Rattle.rules.specs.declared.Card.TheVariants.{Data, First, Bad, End}
use Rattle.rules.proofs.Tests.{both_first, both_second}
use Rattle.rules.proofs.CardTrips.{data_read}
use Rattle.rules.proofs.Decks.{piece}
use Rattle.rules.proofs.Blocks.{all_ahead, starts_of, Each, each_none, each_more, each_as, Spread, spread_none, spread_more, Apart, Start, starts_marked, starts_apart}
use Rattle.promises.specs.Making.{may_bear, all_may_bear, is_among, times, Fewest, block_of, blocks_of, FewestOfDecks}
use Rattle.promises.proofs.Shapes.{mark_owned, marked_owned, may_bear_lem, Borne, borne, times_there}
use Rattle.promises.proofs.Making.{has_these}

-- ---- fewest

-- those that are not among the cells of a card
without : Block → List ℕ → List ℕ
without b [] = []
without b (s ∷ ss) = pick (is_among b s) (without b ss) (s ∷ without b ss)

each_without : {P : ℕ → Type 0} {ss : List ℕ} (b : Block) → Each P ss → Each P (without b ss)
unfolding without
each_without b each_none = each_none
each_without {P} b (each_more {s = s} {ss = ss} p ps) = by_among (is_among b s) (each_without b ps)
  where
    by_among : (t : Bool) → Each P (without b ss) → Each P (pick t (without b ss) (s ∷ without b ss))
    by_among true rest = rest
    by_among false rest = each_more p rest

spread_without : {v : List Cell} {ss : List ℕ} (b : Block) → Spread v ss → Spread v (without b ss)
unfolding without
spread_without b spread_none = spread_none
spread_without {v} b (spread_more {s = s} {ss = ss} p ps) = by_among (is_among b s) (spread_without b ps)
  where
    by_among : (t : Bool) → Spread v (without b ss) → Spread v (pick t (without b ss) (s ∷ without b ss))
    by_among true rest = rest
    by_among false rest = spread_more (each_without b p) rest

-- they are on the other cards
left_over : (b : Block) (bs : List Block) {ss : List ℕ} → Each (λ (s : ℕ). 1 ≤ times (b ∷ bs) s) ss
    → Each (λ (s : ℕ). 1 ≤ times bs s) (without b ss)
unfolding without times
left_over b bs each_none = each_none
left_over b bs (each_more {s = s} {ss = ss} p ps) = by_among (is_among b s) p (left_over b bs ps)
  where
    by_among : (t : Bool) → 1 ≤ pick t 1 0 + times bs s → Each (λ (x : ℕ). 1 ≤ times bs x) (without b ss)
        → Each (λ (x : ℕ). 1 ≤ times bs x) (pick t (without b ss) (s ∷ without b ss))
    by_among true q rest = rest
    by_among false q rest = each_more {s = s} (omega arith) rest

-- a card of at most five cells, all marked, has one of them at most
module _ (v : List Cell) (b : Block) (few : b.cells ≤ 5)
    (owned : (x : ℕ) → b.location ≤ x → x < b.location + b.cells → owned_at v x ≡ true) where
  -- if it has s, it has none that is apart from s
  none_else : (s : ℕ) → b.location ≤ s → {ss : List ℕ} → Each (Apart v s) ss → length (without b ss) ≡ length ss
  unfolding without
  none_else s l each_none = refl
  none_else s l (each_more {s = t} {ss = ss} p ps) = by_among (is_among b t) refl (none_else s l ps)
    where
      by_among : (u : Bool) → is_among b t ≡ u → length (without b ss) ≡ length ss
          → length (pick u (without b ss) (t ∷ without b ss)) ≡ suc (length ss)
      by_among true f rest =
          absurd
          (p b.location b.cells few owned l
          (ltb-true t (b.location + b.cells) (both_second (leb b.location t) (ltb t (b.location + b.cells)) f)))
      by_among false f rest = ap suc rest

  one_at_most : {ss : List ℕ} → Spread v ss → length ss ≤ suc (length (without b ss))
  unfolding without
  one_at_most spread_none = omega arith
  one_at_most (spread_more {s = s} {ss = ss} p ps) = by_among (is_among b s) refl (one_at_most ps)
    where
      by_among : (t : Bool) → is_among b s ≡ t → length ss ≤ suc (length (without b ss))
          → suc (length ss) ≤ suc (length (pick t (without b ss) (s ∷ without b ss)))
      by_among true f rest =
          omega (arith, none_else s (leb-true b.location s (both_first (leb b.location s) (ltb s (b.location + b.cells)) f)) p)
      by_among false f rest = omega arith

-- so there are no more of them than cards that have them all
covered : (v : List Cell) (bs : List Block) {ss : List ℕ} → all_may_bear bs ≡ true
    → ((x : ℕ) → 1 ≤ x → 1 ≤ times bs x → owned_at v x ≡ true) → Spread v ss → Each (λ (s : ℕ). 1 ≤ times bs s) ss → length ss ≤ length bs
unfolding times all_may_bear
covered v [] bear owned apart each_none = omega arith
covered v [] bear owned apart (each_more p ps) = let z : ⊥ = omega arith in absurd z
covered v (b ∷ bs) bear owned apart on =
    let h : Borne b = borne b (both_first (may_bear b) (all_may_bear bs) bear) in
    let own : (x : ℕ) → b.location ≤ x → x < b.location + b.cells → owned_at v x ≡ true =
    λ x i l. owned x (omega (arith, h.from)) (omega (arith, times_there b bs x i l)) in
    let rest =
    covered v bs (both_second (may_bear b) (all_may_bear bs) bear) (λ x i l. owned x i (omega arith)) (spread_without b apart)
    (left_over b bs on) in
    omega (arith, one_at_most v b h.few own apart)

pub fewest : Fewest
fewest v bs bear just =
    let c = (all_ahead v).cut in
    let on : Each (λ (s : ℕ). 1 ≤ times bs s) (starts_of (blocks_in v)) =
    each_as (λ (s : ℕ) (h : Start v 1 s). omega (arith, just s h.0, mark_owned (cell_at v s) h.1)) (starts_marked c) in
    omega (
      arith,
      length-map (blocks_in v) (λ (b : Block). b.location),
      covered v bs bear (λ x i l. marked_owned (cell_at v x) (omega (arith, just x i))) (starts_apart c) on,
    )

-- ---- of decks

-- whatever the bytes, a card that is read as a data card is for such cells
piece_bears : (at : ℕ) (d : List ℕ) (ps : List Piece) → all_may_bear (map block_of (data_in ps)) ≡ true
    → all_may_bear (map block_of (data_in (piece at d ∷ ps))) ≡ true
unfolding data_in all_may_bear
piece_bears at d ps rest = by_card (card_of d) refl
  where
    by_card : (x : Card) → card_of d ≡ x → all_may_bear (map block_of (data_in (piece at d ∷ ps))) ≡ true
    by_card (Data number location words problem size) e =
        let r = data_read d number location words problem size e in
        rw (e, data_in) (simp (may_bear_lem location words r.some r.few r.from r.upto, rest))
    by_card (First order problem) e = rw (e, data_in)
    by_card (Bad f b) e = rw (e, data_in)
    by_card End e = rw (e, data_in)

cut_bears : (skip at : ℕ) (d : List ℕ) → all_may_bear (map block_of (data_in (cut_from skip at d))) ≡ true
unfolding cut_from data_in all_may_bear
cut_bears skip at [] = refl
cut_bears (suc k) at (b ∷ d) = cut_bears k (at + 1) d
cut_bears zero at (b ∷ d) =
    let size : ℕ = card_size (card_of (b ∷ d)) in
    piece_bears at (b ∷ d) (behind size) (by_size size (λ (k : ℕ). cut_bears k (at + 1) d))
  where
    behind : ℕ → List Piece
    behind zero = []
    behind (suc k) = cut_from k (at + 1) d

    by_size : (size : ℕ) → ((k : ℕ) → all_may_bear (map block_of (data_in (cut_from k (at + 1) d))) ≡ true)
        → all_may_bear (map block_of (data_in (behind size))) ≡ true
    by_size zero go = refl
    by_size (suc k) go = go k

decks_bear : (deck : List ℕ) → all_may_bear (blocks_of deck) ≡ true
decks_bear deck = cut_bears 0 0 deck

pub fewest_of_decks : FewestOfDecks
fewest_of_decks c n e deck just =
    let v : List Cell = view c.drum c.marks in
    omega (arith, ap length (has_these c n e), fewest v (blocks_of deck) (decks_bear deck) just)
