-- The check of a deck, as a loop goes through its cards: what is left to check has the answer of the whole. Assumes nothing.
use Rattle.std.proofs.Common.{Err, Ok, Some, None}
use mathlib.Core.Path.{◌≡◌, refl, sym, ap, ap₂, ◌∙◌}
use mathlib.Core.List.{List}
use mathlib.Core.Bool.{Bool, true, false}
use Prim.Native.Nat.{ℕ, ◌+◌, ◌-◌, ◌≤◌, ◌<◌}
use native.Mathlib.Omega.{arith}
use lib.ListN.{length, get_or, take, drop, length-drop}
use lib.Seq.{take_all}
use borrow.Author.Tests.{lt-ltb, le-ltb}
use Rattle.rules.specs.Cards.{number_in, bad_from, cells_fit, card_of}
use Rattle.rules.specs.Decks.{card_at, Piece, cards_from, met, checked_from, deck_of}
use Rattle.rules.specs.Answers.{Deck, good}
use Rattle.rules.specs.declared.Fault.{Fault}
use Rattle.rules.specs.declared.Fault.TheVariants.{UnknownKind, SecondFirst, CutShort, BadByte, BadPlace}
use Rattle.rules.specs.declared.Card.{Card}
use Rattle.rules.specs.declared.Card.TheVariants.{First, Bad}
use Rattle.rules.specs.declared.DeckFault.TheVariants.{TooLong, At, NoFirst}
use Rattle.rules.proofs.Decks.{piece, cards_end, from_bad, from_data, from_first}
use Rattle.card.specs.declared.fields.Form.{Form}
use Rattle.card.specs.Forms.{form_of, is_second}
use Rattle.card.proofs.Forms.{Begun, Whole, form_some, form_first, card_unknown, card_cut, card_byte, card_place, card_first, card_data}

-- what `&deck[at..]` holds
abbrev pub part : List ℕ → ℕ → List ℕ
part deck at = take (length deck - at) (drop at deck)

pub part_is : (deck : List ℕ) (at : ℕ) → part deck at ≡ drop at deck
part_is deck at = take_all (length deck - at) (drop at deck) (omega (arith, length-drop at deck))

length_part : (deck : List ℕ) (at : ℕ) → length (part deck at) ≡ length deck - at
length_part deck at = ap length (part_is deck at) ∙ length-drop at deck

-- ---- the card met

met_second : (sofar : Deck) (p : Piece) → is_second sofar (get_or p.rest 0 0) ≡ true → met sofar p ≡ Bad SecondFirst 0
met_second (Ok start) p e = rw e
met_second (Err f) p e = absurd (let z : ◌≡◌ {A = ℕ} 0 1 = cc in omega arith)

met_other : (sofar : Deck) (p : Piece) → is_second sofar (get_or p.rest 0 0) ≡ false → met sofar p ≡ p.card
met_other (Ok start) p e = rw e
met_other (Err f) p e = refl

-- ---- the loop

-- the cards before `at` are good, and sofar is the answer if no more come
pub record Checking (deck : List ℕ) (at : ℕ) (sofar : Deck) : Type 0 where
  pub short : length deck ≤ 65536
  pub same : checked_from sofar (cards_from deck at) ≡ deck_of deck

pub check_long : (deck : List ℕ) → 65536 < length deck → Err TooLong ≡ deck_of deck
unfolding deck_of
check_long deck h = simp (lt-ltb 65536 (length deck) h)

pub check_begin : (deck : List ℕ) → length deck ≤ 65536 → Checking deck 0 (Err (NoFirst (length deck)))
unfolding deck_of
check_begin deck h = record { short = h; same = simp (le-ltb 65536 (length deck) h) }

module _ {deck : List ℕ} {at : ℕ} {sofar : Deck} (h : Checking deck at sofar) where
  pub check_end : length deck ≤ at → sofar ≡ deck_of deck
  unfolding checked_from
  check_end l = sym (ap (checked_from sofar) (cards_end deck at l)) ∙ h.same

  bad_here : at < length deck → (f : Fault) (b : ℕ) → met sofar (piece at (drop at deck)) ≡ Bad f b → Err (At at f (at + b)) ≡ deck_of deck
  bad_here l f b e = sym (from_bad deck at sofar l f b e) ∙ h.same

  pub check_second : at < length deck → is_second sofar (get_or (part deck at) 0 0) ≡ true → Err (At at SecondFirst at) ≡ deck_of deck
  check_second l s =
      ap (λ (b : ℕ). Err (At at SecondFirst b)) (omega arith)
      ∙ bad_here l SecondFirst 0
      (met_second sofar (piece at (drop at deck)) (ap (λ (d : List ℕ). is_second sofar (get_or d 0 0)) (sym (part_is deck at)) ∙ s))

-- the card at `at` is no second first-order card; and is of the form f
pub record Met (deck : List ℕ) (at : ℕ) (sofar : Deck) : Type 0 where
  pub checking : Checking deck at sofar
  pub here : at < length deck
  pub other : is_second sofar (get_or (part deck at) 0 0) ≡ false

pub record Known (deck : List ℕ) (at : ℕ) (sofar : Deck) (f : Form) : Type 0 where
  pub met : Met deck at sofar
  pub form : Some f ≡ form_of (get_or (part deck at) 0 0)

module _ {deck : List ℕ} {at : ℕ} {sofar : Deck} (h : Met deck at sofar) where
  some : length (part deck at) ≡ 0 → ⊥
  some z = omega (arith, length_part deck at, h.here)

  is_met : met sofar (piece at (drop at deck)) ≡ card_at deck at
  is_met = met_other sofar (piece at (drop at deck)) (ap (λ (d : List ℕ). is_second sofar (get_or d 0 0)) (sym (part_is deck at)) ∙ h.other)

  card_is : {c : Card} → card_of (part deck at) ≡ c → card_at deck at ≡ c
  card_is e = ap card_of (sym (part_is deck at)) ∙ e

  fault : (k : Fault) (b byte : ℕ) → card_of (part deck at) ≡ Bad k b → byte ≡ at + b → Err (At at k byte) ≡ deck_of deck
  fault k b byte e q = ap (λ (y : ℕ). Err (At at k y)) q ∙ bad_here h.checking h.here k b (is_met ∙ card_is e)

  pub check_unknown : None ≡ form_of (get_or (part deck at) 0 0) → Err (At at UnknownKind at) ≡ deck_of deck
  check_unknown e = fault UnknownKind 0 at (card_unknown (part deck at) some e) (omega arith)

module _ {deck : List ℕ} {at : ℕ} {sofar : Deck} {f : Form} (h : Known deck at sofar f) where
  begun : Begun (part deck at) f
  begun = record { some = some h.met; form = h.form }

  pub check_cut : length (part deck at) < f.size → Err (At at CutShort at) ≡ deck_of deck
  check_cut l = fault h.met CutShort 0 at (card_cut begun l) (omega arith)

-- its bytes are there
pub record Long (deck : List ℕ) (at : ℕ) (sofar : Deck) (f : Form) : Type 0 where
  pub known : Known deck at sofar f
  pub whole : f.size ≤ length (part deck at)

module _ {deck : List ℕ} {at : ℕ} {sofar : Deck} {f : Form} (h : Long deck at sofar f) where
  met_here : Met deck at sofar
  met_here = h.known.met

  pub check_smaller : length deck - (at + f.size) < length deck - at
  check_smaller = omega (arith, met_here.here, form_some _ h.known.form)

  module _ {b : ℕ} (e : b ≡ bad_from f.words (part deck at) 1 (f.size - 1)) where
    looked : Whole (part deck at) f b
    looked = record { begun = begun h.known; whole = h.whole; looked = e }

    pub check_byte : b < f.size → Err (At at BadByte (at + b)) ≡ deck_of deck
    check_byte l = fault met_here BadByte b (at + b) (card_byte looked l) refl

    module _ (l : f.size ≤ b) {location : ℕ} (n : location ≡ number_in (part deck at) f.place 3) where
      fit : (t : Bool) → cells_fit location f.cells ≡ t → cells_fit (number_in (part deck at) f.place 3) f.cells ≡ t
      fit t q = ap (λ (x : ℕ). cells_fit x f.cells) (sym n) ∙ q

      pub check_place : cells_fit location f.cells ≡ false → Err (At at BadPlace (at + f.place)) ≡ deck_of deck
      check_place q = fault met_here BadPlace f.place (at + f.place) (card_place looked l (fit false q)) refl

      module _ (q : cells_fit location f.cells ≡ true) where
        short : length deck ≤ 65536
        short = met_here.checking.short

        pub check_data : (get_or (part deck at) 0 0 ≡ 84 → ⊥) → Checking deck (at + f.size) sofar
        check_data k =
            let c = card_is met_here (card_data looked l (fit true q) k) in
            record { short = short; same = sym (from_data deck at sofar (is_met met_here) c) ∙ met_here.checking.same }

        pub check_first : get_or (part deck at) 0 0 ≡ 84 → {problem : ℕ} → problem ≡ number_in (part deck at) 4 3
            → Checking deck (at + f.size) (good (at + f.size) location problem)
        check_first k {problem} p =
            let s : f.size ≡ 7 = form_first _ h.known.form k in
            let c : card_at deck at ≡ First location problem = card_is met_here (card_first looked l (fit true q) k ∙ ap₂ First (sym n) (sym p)) in
            record {
              short = short;
              same =
                  ap (λ (n : ℕ). checked_from (good (at + n) location problem) (cards_from deck (at + n))) s
                  ∙ sym (from_first deck at sofar (is_met met_here) c)
                  ∙ met_here.checking.same;
            }
