-- Of any bytes one of the things that a number may say is right: it is found by going through the deck card by card. Assumes nothing.
use Prim.Native.Nat.{ℕ, zero, suc, ◌+◌, ◌≤◌, ◌<◌}
use mathlib.Core.Path.{◌≡◌, refl, ap, subst, subst₂}
use mathlib.Core.Logic.{◌⊎◌, inl, inr, ⊎_elim}
use mathlib.Core.List.{List}
use mathlib.Core.Bool.{Bool, true, false}
use native.Mathlib.Omega.{arith}
use lib.Dec.{eqb, leb, ltb}
use lib.ListN.{length}
use borrow.Author.Tests.{ltb-true, ltb-false, leb-true, leb-false, eqb-true, eqb-false}
use Rattle.rules.specs.Words.{pick}
use Rattle.rules.specs.Cards.{first_kind, is_due}
use Rattle.promises.specs.DeckFaults.{words_of, bytes_of, field_of, cells_of, byte_at, three_digits, Known, Whole, DueUpto, InRange, AsDue, firsts, Reached, from_start, one_more, Met, UnknownKindAt, CutShortAt, BadByteAt, OutOfRangeAt, SecondFirstAt, NoFirstIn, TooLongAt, GoodDeck}

-- ---- what a number says at a place

pub data Says (deck : List ℕ) : ℕ → ℕ → Type 0 where
  says_good : GoodDeck deck → Says deck 0 0
  says_long : {place : ℕ} → TooLongAt deck place → Says deck 11 place
  says_unknown : {place : ℕ} → UnknownKindAt deck place → Says deck 13 place
  says_cut : {place : ℕ} → CutShortAt deck place → Says deck 14 place
  says_byte : {place : ℕ} → BadByteAt deck place → Says deck 15 place
  says_place : {place : ℕ} → OutOfRangeAt deck place → Says deck 16 place
  says_second : {place : ℕ} → SecondFirstAt deck place → Says deck 17 place
  says_none : {place : ℕ} → NoFirstIn deck place → Says deck 18 place

-- ---- of any bytes one of these things is right

abbrev pub Found : List ℕ → Type 0
Found deck = (number : ℕ) × (place : ℕ) × Says deck number place

-- each of what is asked of a card holds or does not
range_or_not : (deck : List ℕ) (p : ℕ) → InRange deck p ⊎ (InRange deck p → ⊥)
range_or_not deck p = by_tests (leb 1 first) refl (leb (first + cells_of (byte_at deck p)) 1000) refl
  where
    first : ℕ
    first = three_digits deck (p + field_of (byte_at deck p))

    by_tests : (a : Bool) → leb 1 first ≡ a → (b : Bool) → leb (first + cells_of (byte_at deck p)) 1000 ≡ b → InRange deck p ⊎ (InRange deck p → ⊥)
    by_tests true e true f = inl (leb-true 1 first e, leb-true (first + cells_of (byte_at deck p)) 1000 f)
    by_tests true e false f = inr (λ r. omega (arith, leb-false (first + cells_of (byte_at deck p)) 1000 f))
    by_tests false e b f = inr (λ r. omega (arith, leb-false 1 first e))

due_one_more : (deck : List ℕ) (p e : ℕ) → DueUpto deck p e → is_due (words_of (byte_at deck p)) e (byte_at deck (p + e)) ≡ true → DueUpto deck p (suc e)
due_one_more deck p e h q o g l = by_test (ltb o e) refl
  where
    by_test : (t : Bool) → ltb o e ≡ t → is_due (words_of (byte_at deck p)) o (byte_at deck (p + o)) ≡ true
    by_test true i = h o g (ltb-true o e i)
    by_test false i =
        let s : e ≡ o = omega (arith, ltb-false o e i) in
        subst (λ (x : ℕ). is_due (words_of (byte_at deck p)) x (byte_at deck (p + x)) ≡ true) s q

-- a card that is looked at has something wrong, or is as due
module _ {deck : List ℕ} {p : ℕ} (met : Met deck p) where
  abbrev size : ℕ
  size = bytes_of (byte_at deck p)

  module _ (known : Known deck p) (whole : Whole deck p) where
    due_or_not : (e : ℕ) → e ≤ size → DueUpto deck p e ⊎ Found deck
    due_or_not zero l = inl (λ o g i. absurd (let z : ⊥ = omega arith in z))
    due_or_not (suc zero) l = inl (λ o g i. absurd (let z : ⊥ = omega arith in z))
    due_or_not (suc (suc e)) l = ⊎_elim (λ h. by_byte h _ refl) inr (due_or_not (suc e) (omega arith))
      where
        by_byte : DueUpto deck p (suc e) → (t : Bool) → is_due (words_of (byte_at deck p)) (suc e) (byte_at deck (p + suc e)) ≡ t
            → DueUpto deck p (suc (suc e)) ⊎ Found deck
        by_byte due true q = inl (due_one_more deck p (suc e) due q)
        by_byte due false q =
            let h : BadByteAt deck (p + suc e) =
            record {
              p = p;
              o = suc e;
              met = met;
              known = known;
              whole = whole;
              behind_kind = omega arith;
              within = l;
              due = due;
              not_due = q;
              there = refl;
            } in
            inr (_, _, says_byte h)

    by_range : DueUpto deck p size → InRange deck p ⊎ (InRange deck p → ⊥) → AsDue deck p ⊎ Found deck
    by_range due (inl range) = inl (record { known = known; whole = whole; due = due; in_range = range })
    by_range due (inr out) =
        inr (_, _, says_place (record { p = p; met = met; known = known; whole = whole; due = due; out = out; there = refl }))

    by_bytes : DueUpto deck p size ⊎ Found deck → AsDue deck p ⊎ Found deck
    by_bytes (inl due) = by_range due (range_or_not deck p)
    by_bytes (inr f) = inr f

  by_length : Known deck p → (t : Bool) → ltb (length deck) (p + size) ≡ t → AsDue deck p ⊎ Found deck
  by_length known true e = inr (_, _, says_cut (record { met = met; known = known; cut = ltb-true (length deck) (p + size) e }))
  by_length known false e =
      let whole = ltb-false (length deck) (p + size) e in
      by_bytes known whole (due_or_not known whole size (omega arith))

  by_kind : (t : Bool) → leb 1 size ≡ t → AsDue deck p ⊎ Found deck
  by_kind true e = by_length (leb-true 1 size e) (ltb (length deck) (p + size)) refl
  by_kind false e = inr (_, _, says_unknown (record { met = met; unknown = omega (arith, leb-false 1 size e) }))

-- ---- along the deck

bounds : {deck : List ℕ} {p t : ℕ} → Reached deck p t → (p ≤ length deck) × (t ≤ 1)
bounds from_start = (omega arith, omega arith)
bounds (one_more r h l) = (h.whole, l)

second_is : (deck : List ℕ) (p t : ℕ) → t ≤ 1 → 1 < t + firsts deck p → (t ≡ 1) × (byte_at deck p ≡ first_kind)
second_is deck p t l g = by_test (eqb (byte_at deck p) first_kind) refl
  where
    by_test : (b : Bool) → eqb (byte_at deck p) first_kind ≡ b → (t ≡ 1) × (byte_at deck p ≡ first_kind)
    by_test true e = let one : firsts deck p ≡ 1 = ap (λ (b : Bool). pick b 1 0) e in (omega arith, eqb-true (byte_at deck p) first_kind e)
    by_test false e = let none : firsts deck p ≡ 0 = ap (λ (b : Bool). pick b 1 0) e in let z : ⊥ = omega arith in absurd z

module _ {deck : List ℕ} {p t : ℕ} (short : length deck ≤ 65536) (r : Reached deck p t) where
  at_end : length deck ≤ p → (b : Bool) → eqb t 0 ≡ b → Found deck
  at_end l true q =
      let e : p ≡ length deck = omega (arith, bounds r) in
      (_, _, says_none (record { short = short; all = subst₂ (Reached deck) e (eqb-true t 0 q) r; there = refl }))
  at_end l false q =
      let e : p ≡ length deck = omega (arith, bounds r) in
      let n = eqb-false t 0 q in
      let s : t ≡ 1 = omega (arith, bounds r) in
      (_, _, says_good (record { short = short; all = subst₂ (Reached deck) e s r }))

  at_card : p < length deck → (AsDue deck p → t + firsts deck p ≤ 1 → Found deck) → (b : Bool) → leb (t + firsts deck p) 1 ≡ b → Found deck
  at_card here more true e =
      let l = leb-true (t + firsts deck p) 1 e in
      let m : Met deck p = record { short = short; firsts_before = t; before = r; here = here; no_second = l } in
      ⊎_elim (λ h. more h l) (λ f. f) (by_kind m (leb 1 (size m)) refl)
  at_card here more false e =
      let s = second_is deck p t (bounds r).1 (leb-false (t + firsts deck p) 1 e) in
      (_, _, says_second (record { short = short; before = subst (Reached deck p) s.0 r; here = here; again = s.1 }))

walk : {deck : List ℕ} (n : ℕ) {p t : ℕ} → length deck ≤ 65536 → length deck ≤ p + n → Reached deck p t → Found deck
walk zero {t = t} short l r = at_end short r (omega arith) (eqb t 0) refl
walk {deck} (suc n) {p} {t} short l r = by_place (λ q u (s : Reached deck q u) m. walk n short m s) (ltb p (length deck)) refl
  where
    by_place : ((q u : ℕ) → Reached deck q u → length deck ≤ q + n → Found deck) → (b : Bool) → ltb p (length deck) ≡ b → Found deck
    by_place more true e =
        at_card short r (ltb-true p (length deck) e) (λ h m. more _ _ (one_more r h m) (omega (arith, h.known))) (leb (t + firsts deck p) 1) refl
    by_place more false e = at_end short r (ltb-false p (length deck) e) (eqb t 0) refl

pub found : (deck : List ℕ) → Found deck
found deck = by_test (ltb 65536 (length deck)) refl
  where
    by_test : (t : Bool) → ltb 65536 (length deck) ≡ t → Found deck
    by_test true e = (_, _, says_long (record { long = ltb-true 65536 (length deck) e; there = refl }))
    by_test false e = walk (length deck) (ltb-false 65536 (length deck) e) (omega arith) from_start
