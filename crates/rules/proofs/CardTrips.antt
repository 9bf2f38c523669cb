-- Whole cards, written and read, and read and written: data cards and first-order cards. Assumes nothing.
use mathlib.Core.Path.{◌≡◌, refl, sym, ap, ap₂, subst, ◌∙◌}
use mathlib.Core.List.{List, [], ◌∷◌, ◌++◌, append_assoc}
use mathlib.Core.Bool.{Bool, true, false}
use Prim.Native.Nat.{ℕ, ◌+◌, ◌-◌, ◌*◌, ◌≤◌, ◌<◌}
use native.Mathlib.Omega.{arith}
use lib.Dec.{leb, ltb, eqb}
use lib.ListN.{length, get_or, take, drop, length-append}
use lib.Seq.{take-add}
use borrow.Author.Tests.{ltb-false, le-ltb, le-leb, lt-leb, leb-true, eq-eqb, eqb-true}
use Rattle.rules.specs.Words.{pick}
use Rattle.rules.specs.Cards.{digits, words_bytes, data_card, first_card, number_in, bad_from, cells_fit, is_data_kind, data_of, first_of, card_of}
use Rattle.rules.specs.declared.Fault.{Fault}
use Rattle.rules.specs.declared.Card.TheVariants.{Data, First, Bad}
use Rattle.rules.proofs.Tests.{both_first, both_second}
use Rattle.rules.proofs.Digits.{digits_join, length_digits, AllDigits, number_read, number_written}
use Rattle.rules.proofs.Fields.{length_data, length_first, length_words, behind, digits_there, words_there, words_read, words_written, AllWords, AreAt}
use Rattle.rules.proofs.Dues.{none_bad, all_due, front_due, due_front, Fields, fields_due, due_fields}

-- ---- a choice by a test, seen from its outcome

pick_then : {A : Type 0} (t : Bool) (x y z : A) → (y ≡ z → ⊥) → pick t x y ≡ z → (t ≡ true) × (x ≡ z)
pick_then true x y z n e = (refl, e)
pick_then false x y z n e = absurd (n e)

pick_else : {A : Type 0} (t : Bool) (x y z : A) → (x ≡ z → ⊥) → pick t x y ≡ z → (t ≡ false) × (y ≡ z)
pick_else true x y z n e = absurd (n e)
pick_else false x y z n e = (refl, e)

pick_never : {A : Type 0} (t : Bool) (x y z : A) → (x ≡ z → ⊥) → (y ≡ z → ⊥) → pick t x y ≡ z → ⊥
pick_never true x y z m n = m
pick_never false x y z m n = n

bad_data : {f : Fault} {p a b c d e : ℕ} → Bad f p ≡ Data a b c d e → ⊥
bad_data q = let z : ◌≡◌ {A = ℕ} 0 1 = cc in omega arith

bad_first : {f : Fault} {p a b : ℕ} → Bad f p ≡ First a b → ⊥
bad_first q = let z : ◌≡◌ {A = ℕ} 0 1 = cc in omega arith

first_data : {o p a b c d e : ℕ} → First o p ≡ Data a b c d e → ⊥
first_data q = let z : ◌≡◌ {A = ℕ} 0 1 = cc in omega arith

-- ---- a card written so far is the first bytes of d, and so with one field more

grown : (d s f : List ℕ) (a n b : ℕ) → s ≡ take a d → f ≡ take n (drop a d) → a + n ≡ b → s ++ f ≡ take b d
grown d s f a n b e g q =
    ap₂ (λ (x y : List ℕ). x ++ y) e g ∙ sym (take-add a n d) ∙ ap (λ (k : ℕ). take k d) q

-- ---- data cards

-- what holds of bytes that are read as a data card
pub record DataRead (d : List ℕ) (number location n problem size : ℕ) : Type 0 where
  pub some : 1 ≤ n
  pub few : n ≤ 5
  pub kind : get_or d 0 0 ≡ 48 + n
  pub long : size ≡ 11 + 11 * n
  pub whole : size ≤ length d
  pub fields : Fields n d
  pub from : 1 ≤ location
  pub upto : location + n ≤ 1000
  pub numbered : number_in d 1 4 ≡ number
  pub located : number_in d 5 3 ≡ location
  pub posed : number_in d (8 + 11 * n) 3 ≡ problem

module _ {a a' b b' c c' d d' e e' : ℕ} (q : Data a b c d e ≡ Data a' b' c' d' e') where
  data_number : a ≡ a'
  data_number = cc

  data_location : b ≡ b'
  data_location = cc

  data_words : c ≡ c'
  data_words = cc

  data_problem : d ≡ d'
  data_problem = cc

  data_size_lem : e ≡ e'
  data_size_lem = cc

-- by its kind a card of n words is read as such
data_kind : (k : ℕ) (t : List ℕ) (n : ℕ) → 1 ≤ n → n ≤ 5 → k ≡ 48 + n → card_of (k ∷ t) ≡ data_of n (k ∷ t)
unfolding card_of
data_kind k t n g h e =
    let m : k - 48 ≡ n = omega arith in
    simp (le-leb 49 k (omega arith), le-leb k 53 (omega arith)) (ap (λ (j : ℕ). data_of j (k ∷ t)) m)

-- such bytes are read as one
pub data_is : (d : List ℕ) (number location n problem size : ℕ) → DataRead d number location n problem size → card_of d ≡ Data number location n problem size
unfolding data_of
data_is [] number location n problem size r = absurd (let z : ⊥ = omega arith in z)
data_is (k ∷ t) number location n problem size r =
    let d : List ℕ = k ∷ t in
    let b : bad_from n d 1 (11 + 11 * n - 1) ≡ 1 + (11 + 11 * n - 1) =
    none_bad n d 1 (11 + 11 * n - 1) (λ o i l. fields_due n d r.fields o i (omega arith)) in
    data_kind k t n r.some r.few r.kind
    ∙ simp (
      le-ltb (length d) (11 + 11 * n) (omega arith),
      le-ltb (bad_from n d 1 (11 + 11 * n - 1)) (11 + 11 * n) (omega arith),
      le-leb 1 location r.from,
      le-leb (location + n) 1000 r.upto,
      r.numbered,
      r.located,
      r.posed,
      ← r.long,
    )

-- and only such bytes are
data_of_lem : (k : ℕ) (t : List ℕ) (m number location n problem size : ℕ) → is_data_kind k ≡ true → m ≡ k - 48 → data_of m (k ∷ t) ≡ Data number location n problem size → DataRead (k ∷ t) number location n problem size
unfolding data_of
data_of_lem k t m number location n problem size g q e =
    let d : List ℕ = k ∷ t in
    let e₁ = pick_else (ltb (length d) (11 + 11 * m)) _ _ _ bad_data e in
    let e₂ = pick_else (ltb (bad_from m d 1 (11 + 11 * m - 1)) (11 + 11 * m)) _ _ _ bad_data e₁.1 in
    let e₃ = pick_then (cells_fit (number_in d 5 3) m) _ _ _ bad_data e₂.1 in
    let lowest = both_first (leb 1 (number_in d 5 3)) (leb (number_in d 5 3 + m) 1000) e₃.0 in
    let highest = both_second (leb 1 (number_in d 5 3)) (leb (number_in d 5 3 + m) 1000) e₃.0 in
    let same : m ≡ n = data_words e₃.1 in
    let whole : 11 + 11 * m ≤ length d = ltb-false (length d) (11 + 11 * m) e₁.0 in
    let good : 1 + (11 + 11 * m - 1) ≤ bad_from m d 1 (11 + 11 * m - 1) = omega (arith, ltb-false (bad_from m d 1 (11 + 11 * m - 1)) (11 + 11 * m) e₂.0) in
    let low : 49 ≤ k = leb-true 49 k (both_first (leb 49 k) (leb k 53) g) in
    let high : k ≤ 53 = leb-true k 53 (both_second (leb 49 k) (leb k 53) g) in
    record {
      some = omega arith;
      few = omega arith;
      kind = omega arith;
      long = sym (data_size_lem e₃.1) ∙ ap (λ (j : ℕ). 11 + 11 * j) same;
      whole = omega (arith, data_size_lem e₃.1);
      fields = subst (λ (j : ℕ). Fields j d) same (due_fields m d (λ o i l. all_due m d 1 (11 + 11 * m - 1) good o i (omega arith)));
      from = omega (arith, leb-true 1 (number_in d 5 3) lowest, data_location e₃.1);
      upto = omega (arith, leb-true (number_in d 5 3 + m) 1000 highest, data_location e₃.1);
      numbered = data_number e₃.1;
      located = data_location e₃.1;
      posed = ap (λ (j : ℕ). number_in d (8 + 11 * j) 3) (sym same) ∙ data_problem e₃.1;
    }

no_data : (d : List ℕ) {number location n problem size : ℕ} → first_of d ≡ Data number location n problem size → ⊥
unfolding first_of
no_data d =
    pick_never (ltb (length d) 7) _ _ _ bad_data
    (pick_never (ltb (bad_from 0 d 1 6) 7) _ _ _ bad_data (pick_never (cells_fit (number_in d 1 3) 1) _ _ _ first_data bad_data))

pub data_read : (d : List ℕ) (number location n problem size : ℕ) → card_of d ≡ Data number location n problem size → DataRead d number location n problem size
unfolding card_of
data_read [] number location n problem size e = absurd (let z : ◌≡◌ {A = ℕ} 0 1 = cc in omega arith)
data_read (k ∷ t) number location n problem size e =
    let e₁ = pick_then (is_data_kind k) _ _ _ (pick_never (eqb k 84) _ _ _ (no_data (k ∷ t)) bad_data) e in
    data_of_lem k t (k - 48) number location n problem size e₁.0 refl e₁.1

-- a data card that is written, with anything behind it, is such bytes
module _ (number location : ℕ) (ws : List ℕ) (problem : ℕ) (rest : List ℕ) where
  abbrev data_bytes : List ℕ
  data_bytes = data_card number location ws problem ++ rest

  number_place : drop 1 data_bytes ≡ digits 4 number ++ (digits 3 location ++ (words_bytes ws ++ (digits 3 problem ++ rest)))
  unfolding data_card
  number_place = simp append_assoc

  location_place : drop 5 data_bytes ≡ digits 3 location ++ (words_bytes ws ++ (digits 3 problem ++ rest))
  location_place = behind data_bytes (digits 4 number) _ 1 4 5 number_place (length_digits 4 number) refl

  words_place : drop 8 data_bytes ≡ words_bytes ws ++ (digits 3 problem ++ rest)
  words_place = behind data_bytes (digits 3 location) _ 5 3 8 location_place (length_digits 3 location) refl

  problem_place : drop (8 + 11 * length ws) data_bytes ≡ digits 3 problem ++ rest
  problem_place = behind data_bytes (words_bytes ws) _ 8 (11 * length ws) (8 + 11 * length ws) words_place (length_words ws) refl

  data_fields : Fields (length ws) data_bytes
  data_fields = record {
    front = digits_join data_bytes 1 5 8 (digits_there data_bytes _ 1 4 number number_place) (digits_there data_bytes _ 5 3 location location_place);
    words = words_there data_bytes _ 8 ws words_place;
    back = λ o i l. digits_there data_bytes rest (8 + 11 * length ws) 3 problem problem_place o i (omega arith);
  }

  pub data_written_read : 1 ≤ length ws → length ws ≤ 5 → number < 10000 → 1 ≤ location → location + length ws ≤ 1000 → problem < 1000
      → DataRead data_bytes number location (length ws) problem (11 + 11 * length ws)
  unfolding data_card
  data_written_read some few small from upto short = record {
    some = some;
    few = few;
    kind = refl;
    long = refl;
    whole = omega (arith, length-append (data_card number location ws problem) rest, length_data number location ws problem);
    fields = data_fields;
    from = from;
    upto = upto;
    numbered = number_read data_bytes _ 1 4 number number_place small;
    located = number_read data_bytes _ 5 3 location location_place (omega arith);
    posed = number_read data_bytes _ (8 + 11 * length ws) 3 problem problem_place short;
  }

  pub data_written_words : AllWords ws → AreAt data_bytes 8 ws
  data_written_words = words_read data_bytes _ 8 ws words_place

-- bytes that are read as a data card are written again as they were
pub data_read_written : (d : List ℕ) (number location problem size : ℕ) (ws : List ℕ) → DataRead d number location (length ws) problem size
    → AreAt d 8 ws
    → data_card number location ws problem ≡ take size d
unfolding data_card
data_read_written [] number location problem size ws r e = absurd (let z : ⊥ = omega (arith, r.whole, r.long) in z)
data_read_written (k ∷ t) number location problem size ws r e =
    let d : List ℕ = k ∷ t in
    let n : ℕ = length ws in
    let whole : 11 + 11 * n ≤ length d = omega (arith, r.whole, r.long) in
    let one : (48 + n) ∷ digits 4 number ≡ take 5 d =
    ap₂ (λ (b : ℕ) (l : List ℕ). b ∷ l) (sym r.kind)
    (ap (digits 4) (sym r.numbered) ∙ number_written d 1 4 (omega arith) (λ o i l. r.fields.front o i (omega arith))) in
    let two : (48 + n) ∷ digits 4 number ++ digits 3 location ≡ take 8 d =
    grown d ((48 + n) ∷ digits 4 number) (digits 3 location) 5 3 8 one
    (ap (digits 3) (sym r.located) ∙ number_written d 5 3 (omega arith) (λ o i l. r.fields.front o (omega arith) l)) refl in
    let three : (48 + n) ∷ digits 4 number ++ digits 3 location ++ words_bytes ws ≡ take (8 + 11 * n) d =
    grown d ((48 + n) ∷ digits 4 number ++ digits 3 location) (words_bytes ws) 8 (11 * n) (8 + 11 * n) two
    (words_written d 8 ws (omega arith) r.fields.words e) refl in
    grown d ((48 + n) ∷ digits 4 number ++ digits 3 location ++ words_bytes ws) (digits 3 problem) (8 + 11 * n) 3 size three
    (ap (digits 3) (sym r.posed) ∙ number_written d (8 + 11 * n) 3 (omega arith) (λ o i l. r.fields.back o i (omega arith))) (omega (arith, r.long))

-- ---- first-order cards, in the same four steps

pub record FirstRead (d : List ℕ) (order problem : ℕ) : Type 0 where
  pub kind : get_or d 0 0 ≡ 84
  pub whole : 7 ≤ length d
  pub figures : AllDigits d 1 7
  pub from : 1 ≤ order
  pub upto : order + 1 ≤ 1000
  pub ordered : number_in d 1 3 ≡ order
  pub posed : number_in d 4 3 ≡ problem

pub first_is : (d : List ℕ) (order problem : ℕ) → FirstRead d order problem → card_of d ≡ First order problem
unfolding card_of first_of
first_is [] order problem r = absurd (let z : ⊥ = omega arith in z)
first_is (k ∷ t) order problem r =
    let d : List ℕ = k ∷ t in
    let b : bad_from 0 d 1 6 ≡ 7 = none_bad 0 d 1 6 (front_due 0 d 7 (omega arith) r.figures) in
    simp (
      le-leb 49 k (omega arith),
      lt-leb k 53 (omega arith),
      eq-eqb k 84 r.kind,
      le-ltb (length d) 7 r.whole,
      b,
      r.ordered,
      r.posed,
      le-leb 1 order r.from,
      le-leb (order + 1) 1000 r.upto,
    )

data_first : {o p a b c d e : ℕ} → Data a b c d e ≡ First o p → ⊥
data_first q = first_data (sym q)

no_first_order : (n : ℕ) (d : List ℕ) {order problem : ℕ} → data_of n d ≡ First order problem → ⊥
unfolding data_of
no_first_order n d =
    pick_never (ltb (length d) (11 + 11 * n)) _ _ _ bad_first
    (pick_never (ltb (bad_from n d 1 (11 + 11 * n - 1)) (11 + 11 * n)) _ _ _ bad_first (pick_never (cells_fit (number_in d 5 3) n) _ _ _ data_first bad_first))

pub first_read : (d : List ℕ) (order problem : ℕ) → card_of d ≡ First order problem → FirstRead d order problem
unfolding card_of first_of
first_read [] order problem e = absurd (let z : ◌≡◌ {A = ℕ} 0 1 = cc in omega arith)
first_read (k ∷ t) order problem e =
    let d : List ℕ = k ∷ t in
    let e₀ = pick_else (is_data_kind k) _ _ _ (no_first_order (k - 48) d) e in
    let e₁ = pick_then (eqb k 84) _ _ _ bad_first e₀.1 in
    let e₂ = pick_else (ltb (length d) 7) _ _ _ bad_first e₁.1 in
    let e₃ = pick_else (ltb (bad_from 0 d 1 6) 7) _ _ _ bad_first e₂.1 in
    let e₄ = pick_then (cells_fit (number_in d 1 3) 1) _ _ _ bad_first e₃.1 in
    let lowest = both_first (leb 1 (number_in d 1 3)) (leb (number_in d 1 3 + 1) 1000) e₄.0 in
    let highest = both_second (leb 1 (number_in d 1 3)) (leb (number_in d 1 3 + 1) 1000) e₄.0 in
    let same : number_in d 1 3 ≡ order = cc e₄.1 in
    record {
      kind = eqb-true k 84 e₁.0;
      whole = ltb-false (length d) 7 e₂.0;
      figures = due_front 0 d 7 (omega arith) (all_due 0 d 1 6 (ltb-false (bad_from 0 d 1 6) 7 e₃.0));
      from = omega (arith, leb-true 1 (number_in d 1 3) lowest);
      upto = omega (arith, leb-true (number_in d 1 3 + 1) 1000 highest);
      ordered = same;
      posed = cc e₄.1;
    }

module _ (order problem : ℕ) (rest : List ℕ) where
  abbrev first_bytes : List ℕ
  first_bytes = first_card order problem ++ rest

  order_place : drop 1 first_bytes ≡ digits 3 order ++ (digits 3 problem ++ rest)
  unfolding first_card
  order_place = simp append_assoc

  posed_place : drop 4 first_bytes ≡ digits 3 problem ++ rest
  posed_place = behind first_bytes (digits 3 order) _ 1 3 4 order_place (length_digits 3 order) refl

  pub first_written_read : 1 ≤ order → order < 1000 → problem < 1000 → FirstRead first_bytes order problem
  unfolding first_card
  first_written_read from upto short = record {
    kind = refl;
    whole = omega (arith, length-append (first_card order problem) rest, length_first order problem);
    figures = digits_join first_bytes 1 4 7 (digits_there first_bytes _ 1 3 order order_place) (digits_there first_bytes _ 4 3 problem posed_place);
    from = from;
    upto = omega arith;
    ordered = number_read first_bytes _ 1 3 order order_place upto;
    posed = number_read first_bytes _ 4 3 problem posed_place short;
  }

pub first_read_written : (d : List ℕ) (order problem : ℕ) → FirstRead d order problem → first_card order problem ≡ take 7 d
unfolding first_card
first_read_written [] order problem r = absurd (let z : ⊥ = omega arith in z)
first_read_written (k ∷ t) order problem r =
    let d : List ℕ = k ∷ t in
    let one : 84 ∷ digits 3 order ≡ take 4 d =
    ap₂ (λ (b : ℕ) (l : List ℕ). b ∷ l) (sym r.kind)
    (ap (digits 3) (sym r.ordered) ∙ number_written d 1 3 (omega arith) (λ o i l. r.figures o i (omega arith))) in
    grown d (84 ∷ digits 3 order) (digits 3 problem) 4 3 7 one
    (ap (digits 3) (sym r.posed) ∙ number_written d 4 3 (omega arith) (λ o i l. r.figures o (omega arith) l)) refl
