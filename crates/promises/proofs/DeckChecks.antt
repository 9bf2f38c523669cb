-- The check of a deck, card by card along cards that are as due; and what is told of each thing that may be wrong behind them. Assumes nothing.
use Rattle.std.proofs.Common.{Err, Ok}
use Prim.Native.Nat.{ℕ, ◌+◌, ◌≤◌}
use mathlib.Core.Path.{◌≡◌, refl, sym, ap, subst, ◌∙◌}
use mathlib.Core.List.{List}
use mathlib.Core.Bool.{Bool, true, false}
use native.Mathlib.Nat.{add-zero}
use native.Mathlib.Omega.{arith}
use lib.Dec.{eqb}
use lib.ListN.{length, get_or, drop}
use borrow.Author.Tests.{lt-ltb, le-ltb, eq-eqb, eqb-true}
use Rattle.rules.specs.Words.{pick}
use Rattle.rules.specs.Cards.{first_kind, first_size}
use Rattle.rules.specs.Decks.{card_at, cards_from, met, checked_from, deck_of}
use Rattle.rules.specs.Answers.{Deck, good}
use Rattle.rules.specs.declared.Fault.{Fault}
use Rattle.rules.specs.declared.Fault.TheVariants.{UnknownKind, SecondFirst, CutShort, BadByte, BadPlace}
use Rattle.rules.specs.declared.Card.TheVariants.{Bad}
use Rattle.rules.specs.declared.DeckFault.TheVariants.{TooLong, At, NoFirst}
use Rattle.rules.proofs.Decks.{piece, cards_end, from_bad, from_data, from_first}
use Rattle.promises.specs.DeckFaults.{bytes_of, field_of, byte_at, AsDue, firsts, Reached, from_start, one_more, Met, UnknownKindAt, CutShortAt, BadByteAt, OutOfRangeAt, SecondFirstAt, NoFirstIn, TooLongAt, GoodDeck}
use Rattle.promises.proofs.CardFaults.{kind_left, card_unknown, card_cut, card_byte, card_place, first_due, data_due}

-- ---- behind t first-order cards

-- what the answer is if no more cards come
abbrev Stands : List ℕ → ℕ → Deck → Type 0
Stands deck t (Ok start) = t ≡ 1
Stands deck t (Err f) = (t ≡ 0) × (◌≡◌ {A = Deck} (Err f) (Err (NoFirst (length deck))))

module _ (deck : List ℕ) (p : ℕ) where
  no_first_more : (t : ℕ) → t ≡ 1 → t + firsts deck p ≤ 1 → (b : Bool) → eqb (byte_at deck p) first_kind ≡ b → b ≡ false
  no_first_more t s l true e = absurd (let z : firsts deck p ≡ 1 = ap (λ (b : Bool). pick b 1 0) e in let y : ⊥ = omega arith in y)
  no_first_more t s l false e = refl

  met_other : (t : ℕ) (sofar : Deck) → Stands deck t sofar → t + firsts deck p ≤ 1 → met sofar (piece p (drop p deck)) ≡ card_at deck p
  met_other t (Ok start) s l =
      ap (λ (b : Bool). pick b (Bad SecondFirst 0) (card_at deck p))
      (ap (λ (k : ℕ). eqb k first_kind) (kind_left deck p) ∙ no_first_more t s l (eqb (byte_at deck p) first_kind) refl)
  met_other t (Err f) s l = refl

  met_second : (sofar : Deck) → Stands deck 1 sofar → byte_at deck p ≡ first_kind → met sofar (piece p (drop p deck)) ≡ Bad SecondFirst 0
  met_second (Ok start) s e =
      ap (λ (b : Bool). pick b (Bad SecondFirst 0) (card_at deck p)) (eq-eqb (get_or (drop p deck) 0 0) first_kind (kind_left deck p ∙ e))
  met_second (Err f) s e = absurd (let z : ⊥ = omega arith in z)

-- ---- the cards before a place

-- the check of the deck is that of the cards from p on, with the answer so far
record Walked (deck : List ℕ) (p t : ℕ) : Type 0 where
  sofar : Deck
  same : deck_of deck ≡ checked_from sofar (cards_from deck p)
  stands : Stands deck t sofar

next : (deck : List ℕ) (p t : ℕ) → AsDue deck p → t + firsts deck p ≤ 1 → Walked deck p t → Walked deck (p + bytes_of (byte_at deck p)) (t + firsts deck p)
next deck p t h l w = by_kind (eqb (byte_at deck p) first_kind) refl
  where
    is_met : met w.sofar (piece p (drop p deck)) ≡ card_at deck p
    is_met = met_other deck p t w.sofar w.stands l

    by_kind : (b : Bool) → eqb (byte_at deck p) first_kind ≡ b → Walked deck (p + bytes_of (byte_at deck p)) (t + firsts deck p)
    by_kind true e =
        let c = first_due deck p (omega arith) h.known h.whole h.due h.in_range e in
        let one : firsts deck p ≡ 1 = ap (λ (b : Bool). pick b 1 0) e in
        record {
          sofar = good (p + first_size) c.0 c.1;
          same =
              w.same
              ∙ from_first deck p w.sofar is_met c.2
              ∙ ap (λ (k : ℕ). checked_from (good (p + first_size) c.0 c.1) (cards_from deck (p + bytes_of k)))
              (sym (eqb-true (byte_at deck p) first_kind e));
          stands = omega arith;
        }
    by_kind false e =
        let c = data_due deck p (omega arith) h.known h.whole h.due h.in_range e in
        let none : firsts deck p ≡ 0 = ap (λ (b : Bool). pick b 1 0) e in
        record {
          sofar = w.sofar;
          same = w.same ∙ from_data deck p w.sofar is_met c.4;
          stands = subst (λ (n : ℕ). Stands deck n w.sofar) (omega arith) w.stands;
        }

walked : {deck : List ℕ} {p t : ℕ} → length deck ≤ 65536 → Reached deck p t → Walked deck p t
unfolding deck_of
walked {deck} short from_start =
    record { sofar = Err (NoFirst (length deck)); same = simp (le-ltb 65536 (length deck) short); stands = (refl, refl) }
walked {deck} short (one_more {p} {t} r h l) = next deck p t h l (walked short r)

-- ---- what is told

-- at the deck's end, the answer so far
told_end : {deck : List ℕ} {t : ℕ} (short : length deck ≤ 65536) (all : Reached deck (length deck) t) → deck_of deck ≡ (walked short all).sofar
unfolding checked_from
told_end {deck} short all =
    let w = walked short all in
    w.same ∙ ap (checked_from w.sofar) (cards_end deck (length deck) (omega arith))

pub told_none : {deck : List ℕ} {place : ℕ} → NoFirstIn deck place → deck_of deck ≡ Err (NoFirst place)
told_none {deck} h =
    let w = walked h.short h.all in
    told_end h.short h.all ∙ by_answer w.sofar w.stands ∙ ap (λ (n : ℕ). Err (NoFirst n)) (sym h.there)
  where
    by_answer : (k : Deck) → Stands deck 0 k → k ≡ Err (NoFirst (length deck))
    by_answer (Ok start) s = absurd (let z : ⊥ = omega arith in z)
    by_answer (Err f) s = s.1

pub told_good : {deck : List ℕ} → GoodDeck deck → (behind : ℕ) × (order : ℕ) × (problem : ℕ) × (deck_of deck ≡ good behind order problem)
told_good {deck} h = by_answer (walked h.short h.all).sofar (walked h.short h.all).stands (told_end h.short h.all)
  where
    by_answer : (k : Deck) → Stands deck 1 k → deck_of deck ≡ k
        → (behind : ℕ) × (order : ℕ) × (problem : ℕ) × (deck_of deck ≡ good behind order problem)
    by_answer (Ok start) s e = (start.behind, start.order, start.problem, e)
    by_answer (Err f) s e = absurd (let z : ⊥ = omega arith in z)

pub told_long : {deck : List ℕ} {place : ℕ} → TooLongAt deck place → deck_of deck ≡ Err TooLong
unfolding deck_of
told_long {deck} h = simp (lt-ltb 65536 (length deck) h.long)

pub told_second : {deck : List ℕ} {place : ℕ} → SecondFirstAt deck place → deck_of deck ≡ Err (At place SecondFirst place)
told_second {deck} {place} h =
    let w = walked h.short h.before in
    w.same
    ∙ from_bad deck place w.sofar (omega arith) SecondFirst 0 (met_second deck place w.sofar w.stands h.again)
    ∙ ap (λ (b : ℕ). Err (At place SecondFirst b)) (add-zero place)

-- of a card that is looked at, its fault and the byte
told_bad : {deck : List ℕ} {p : ℕ} → Met deck p → (f : Fault) (b : ℕ) → card_at deck p ≡ Bad f b → {place : ℕ} → place ≡ p + b
    → deck_of deck ≡ Err (At p f place)
told_bad {deck} {p} h f b e there =
    let w = walked h.short h.before in
    w.same
    ∙ from_bad deck p w.sofar h.here f b (met_other deck p h.firsts_before w.sofar w.stands h.no_second ∙ e)
    ∙ ap (λ (b : ℕ). Err (At p f b)) (sym there)

module _ {deck : List ℕ} {place : ℕ} where
  pub told_unknown : UnknownKindAt deck place → deck_of deck ≡ Err (At place UnknownKind place)
  told_unknown h = told_bad h.met UnknownKind 0 (card_unknown deck place h.met.here h.unknown) (omega arith)

  pub told_cut : CutShortAt deck place → deck_of deck ≡ Err (At place CutShort place)
  told_cut h = told_bad h.met CutShort 0 (card_cut deck place h.met.here h.known h.cut) (omega arith)

  pub told_byte : (h : BadByteAt deck place) → deck_of deck ≡ Err (At h.p BadByte place)
  told_byte h =
      told_bad h.met BadByte h.o
      (card_byte deck h.p h.met.here h.known h.whole h.o h.behind_kind h.within h.due h.not_due) h.there

  pub told_place : (h : OutOfRangeAt deck place) → deck_of deck ≡ Err (At h.p BadPlace place)
  told_place h =
      told_bad h.met BadPlace (field_of (byte_at deck h.p)) (card_place deck h.p h.met.here h.known h.whole h.due h.out) h.there
