-- The cards of the deck written into the output, one right behind the other. Assumes nothing.
use Prim.Native.Nat.{ℕ, ◌+◌, ◌-◌, ◌*◌, ◌≤◌}
use mathlib.Core.Path.{◌≡◌, refl, sym, ap, subst, ◌∙◌}
use mathlib.Core.List.{List, [], ◌∷◌, ◌++◌, append_assoc, append-nil}
use mathlib.Core.Bool.{Bool, true}
use native.Mathlib.Omega.{arith}
use lib.ListN.{length, take, length-append, length-drop}
use borrow.Author.Tests.{le-leb}
use Rattle.rules.specs.Cards.{data_card, first_card}
use Rattle.rules.specs.Orders.{words_from}
use Rattle.rules.specs.Running.{over}
use Rattle.rules.specs.Making.{Block, blocks_in, cards_for}
use Rattle.rules.specs.Answers.{Cell}
use Rattle.rules.proofs.Fields.{length_first}
use Rattle.rules.proofs.Parts.{part_of, put_back, part_is}
use Rattle.rules.proofs.Punching.{card_bytes}
use Rattle.rules.proofs.Blocks.{Ahead, all_ahead, run_inside}
use Rattle.rules.proofs.MadeSizes.{elevens, cards_bytes}
use Rattle.octets.specs.Put.{splice}
use Rattle.octets.proofs.Joins.{Put, length-splice, put_nothing, put_part, put_over, part_spliced}
use Rattle.octets.proofs.Splices.{splice_start}
use Rattle.card.specs.Written.{Wrote, data_may, first_may}
use Rattle.card.proofs.Writes.{all_words_lem, was_whole}
use Rattle.drum.specs.Held.{Words}
use Rattle.drum.specs.Blocks.{first_words}
use Rattle.drum.proofs.Runs.{gathered}
use Rattle.making.proofs.Ahead.{Next, next}

-- ---- a card that may be written, and has room, stands at its place

pub stands : (a : ℕ) (card out p : List ℕ) {may said : Bool} → Wrote may card (part_of a out) said p → may ≡ true → a + length card ≤ length out
    → put_back a out p ≡ splice a card out
stands a card out p w e l =
    let n : length (part_of a out) ≡ length out - a = ap length (part_is a out) ∙ length-drop a out in
    part_spliced a card out p (was_whole w e (omega arith)).1

-- the data card of n cells of the drum
module _ (v : List Cell) (h : Words v) (words out : List ℕ) (at number a n problem : ℕ)
    (low : 1 ≤ a) (top : a + n ≤ 1000) (some : 1 ≤ n) (few : n ≤ 5) (small : number ≤ 9999) (posed : problem ≤ 999)
    (room : at + (11 + 11 * n) ≤ length out) (first : words ≡ first_words v a n) where
  words_are : take n words ≡ words_from v a n
  words_are = ap (take n) first ∙ gathered v a n few

  pub card_stands : {said : Bool} (p : List ℕ) → Wrote (data_may number a words n problem) (data_card number a (take n words) problem) (part_of at out) said p
      → put_back at out p ≡ splice at (data_card number a (words_from v a n) problem) out
  card_stands {said} p w =
      let may : data_may number a words n problem ≡ true =
      simp (
        words_are,
        le-leb number 9999 small,
        le-leb 1 n some,
        le-leb n 5 few,
        le-leb 1 a low,
        le-leb (a + n) 1000 top,
        le-leb problem 999 posed,
        all_words_lem v a n h,
      ) in
      stands at _ out p
      (subst (λ (ws : List ℕ). Wrote (data_may number a words n problem) (data_card number a ws problem) (part_of at out) said p) words_are w) may
      (omega (arith, card_bytes v number a n problem))

-- an output in which a part is put is as long as it was
put_long : {d p l : List ℕ} {a e : ℕ} → Put d a p e l → length l ≡ length d
put_long {d} {p} {l} {a} h = ap length h.same ∙ length-splice a p d (omega (arith, h.ends, h.room))

-- the first-order card, which is the deck's end
pub first_stands : (cards out₀ out p : List ℕ) (at order problem : ℕ) {said : Bool} → 1 ≤ order → order ≤ 999 → problem ≤ 999
    → at ≡ length cards → out ≡ over cards out₀ → length (cards ++ first_card order problem) ≤ length out₀
    → Wrote (first_may order problem) (first_card order problem) (part_of at out) said p
    → put_back at out p ≡ over (cards ++ first_card order problem) out₀
first_stands cards out₀ out p at order problem low top posed e q room w =
    let may : first_may order problem ≡ true = simp (le-leb 1 order low, le-leb (order + 1) 1000 (omega arith), le-leb problem 999 posed) in
    let l₁ = length-append cards (first_card order problem) in
    let l₂ = length_first order problem in
    let put : Put out₀ 0 cards at out = record { same = q ∙ sym (splice_start cards out₀); ends = omega arith; room = omega arith } in
    put_over (put_part {e = at + 7} (first_card order problem) 7 put (stands at _ out p w may (omega (arith, put_long put))) l₂ refl (omega arith))

-- ---- the loop over the cards

-- how far it has come: what stands in the output, with the cards of the blocks ahead behind it, is all cards; their numbers are no higher
-- than the cell that the blocks are ahead of
pub record Written (v : List Cell) (problem : ℕ) (out₀ out : List ℕ) (at number : ℕ) (blocks : List Block) : Type 0 where
  pub cell : ℕ
  pub ahead : Ahead v cell blocks
  pub sent : List ℕ
  pub all : sent ++ cards_for v problem number blocks ≡ cards_for v problem 1 (blocks_in v)
  pub put : Put out₀ 0 sent at out
  pub low : 1 ≤ number
  pub upto : number ≤ cell

pub none_written : (v : List Cell) (problem : ℕ) (out : List ℕ) → Written v problem out out 0 1 (blocks_in v)
none_written v problem out =
    record {
      cell = 1;
      ahead = all_ahead v;
      sent = [];
      all = refl;
      put = put_nothing out refl (omega arith);
      low = omega arith;
      upto = omega arith;
    }

pub still_long : {v : List Cell} {problem : ℕ} {out₀ out : List ℕ} {at number : ℕ} {bs : List Block} → Written v problem out₀ out at number bs
    → length out ≡ length out₀
still_long h = put_long h.put

-- a card, for which there is room where there is room for all
module _ {v : List Cell} {problem : ℕ} {out₀ out : List ℕ} {at number a n : ℕ} {bs : List Block}
    (h : Written v problem out₀ out at number (record { location = a; cells = n } ∷ bs)) where
  found : Next v h.cell (record { location = a; cells = n }) bs
  found = next (record { location = a; cells = n }) bs h.ahead

  module _ (long : length v ≡ 1000) (room : length (cards_for v problem 1 (blocks_in v)) ≤ length out₀) where
    card : List ℕ
    card = data_card number a (words_from v a n) problem

    fits : at + (11 + 11 * n) ≤ length out₀
    unfolding elevens
    fits =
        let all : List Block = record { location = a; cells = n } ∷ bs in
        omega (arith, ap length h.all, length-append h.sent (cards_for v problem number all), cards_bytes v problem number all, h.put.ends)

    pub block_fits : (1 ≤ a) × (a + n ≤ 1000) × (1 ≤ n) × (n ≤ 5) × (number ≤ 9999) × (at + (11 + 11 * n) ≤ length out)
    block_fits =
        let top = run_inside found.some found.run in
        let upto : number ≤ a = omega (arith, h.upto, found.behind) in
        let some = found.some in (
          omega (arith, h.low, upto),
          omega (arith, top, long),
          some,
          found.run.few,
          omega (arith, upto, top, some, long),
          omega (arith, still_long h, fits),
        )

    pub written_more : {out' : List ℕ} → out' ≡ splice at (data_card number a (words_from v a n) problem) out
        → Written v problem out₀ out' (at + (11 + 11 * n)) (number + 1) bs
    unfolding cards_for card
    written_more e =
        record {
          cell = a + n;
          ahead = found.ahead;
          sent = h.sent ++ card;
          all = append_assoc h.sent card (cards_for v problem (number + 1) bs) ∙ h.all;
          put = put_part card (11 + 11 * n) h.put e (card_bytes v number a n problem) refl fits;
          low = omega arith;
          upto = omega (arith, h.upto, found.behind, found.some);
        }

-- and where no block is ahead all cards stand there
pub all_written : {v : List Cell} {problem : ℕ} {out₀ out : List ℕ} {at number : ℕ} {bs : List Block}
    → Written v problem out₀ out at number bs → bs ≡ []
    → (at ≡ length (cards_for v problem 1 (blocks_in v))) × (out ≡ over (cards_for v problem 1 (blocks_in v)) out₀)
unfolding cards_for
all_written {v} {problem} {out₀} {number = number} h e =
    let whole : h.sent ≡ cards_for v problem 1 (blocks_in v) =
    sym (append-nil h.sent) ∙ ap (λ (bs : List Block). h.sent ++ cards_for v problem number bs) (sym e) ∙ h.all in
    (omega (arith, h.put.ends, ap length whole), put_over h.put ∙ ap (λ (s : List ℕ). over s out₀) whole)
