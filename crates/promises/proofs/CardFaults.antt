-- The card that begins at a place of a deck, by its kind byte: what it is read as, for each thing that may be wrong with it and where nothing
-- is. Assumes nothing.
use Prim.Native.Nat.{ℕ, zero, suc, ◌+◌, ◌-◌, ◌*◌, ◌≤◌, ◌<◌}
use mathlib.Core.Path.{◌≡◌, refl, ap, subst, ◌∙◌}
use mathlib.Core.List.{List}
use mathlib.Core.Bool.{Bool, true, false}
use native.Mathlib.Nat.{add-zero}
use native.Mathlib.Omega.{arith}
use lib.Dec.{leb, ltb, eqb}
use lib.ListN.{length, get_or, drop, length-drop}
use lib.Seq.{get_or-drop}
use borrow.Author.Tests.{ltb-true, ltb-false, leb-true, le-leb}
use Rattle.rules.specs.Words.{pick, both}
use Rattle.rules.specs.Cards.{first_kind, number_in, is_due, bad_from, cells_fit, is_data_kind}
use Rattle.rules.specs.Decks.{card_at}
use Rattle.rules.specs.declared.Fault.TheVariants.{UnknownKind, CutShort, BadByte, BadPlace}
use Rattle.rules.specs.declared.Card.TheVariants.{Data, First, Bad}
use Rattle.rules.proofs.Digits.{number_dropped}
use Rattle.rules.proofs.Dues.{AllDue, bad_more, bad_here, none_bad}
use Rattle.rules.proofs.ByKind.{OfKind, read_unknown, read_known, read_cut, read_byte, read_place, read_first, read_data}
use Rattle.promises.specs.DeckFaults.{words_of, bytes_of, field_of, cells_of, byte_at, three_digits, Known, Whole, DueUpto, InRange}

-- its location or first order stands behind the kind byte and within the card
pub field_within : (k : ℕ) → 1 ≤ bytes_of k → (1 ≤ field_of k) × (field_of k < bytes_of k)
field_within k = by_kind (is_data_kind k) (eqb k first_kind)
  where
    by_kind : (s f : Bool) → 1 ≤ pick s (11 + 11 * (k - 48)) (pick f 7 0) → (1 ≤ pick s 5 1) × (pick s 5 1 < pick s (11 + 11 * (k - 48)) (pick f 7 0))
    by_kind true f h = (omega arith, omega arith)
    by_kind false true h = (omega arith, omega arith)
    by_kind false false h = absurd (let z : ⊥ = omega arith in z)

-- ---- the tests on the way

-- the search ends at a byte that is not due and before which all are
bad_is : (n : ℕ) (d : List ℕ) (k a o : ℕ) → a ≤ o → o < a + k → AllDue n d a o → is_due n o (get_or d o 0) ≡ false → bad_from n d a k ≡ o
bad_is n d zero a o g l h e = absurd (let z : ⊥ = omega arith in z)
bad_is n d (suc k) a o g l h e = by_place (bad_is n d k (suc a) o) (ltb a o) refl
  where
    Later : Type 0
    Later = suc a ≤ o → o < suc a + k → AllDue n d (suc a) o → is_due n o (get_or d o 0) ≡ false → bad_from n d (suc a) k ≡ o

    by_place : Later → (t : Bool) → ltb a o ≡ t → bad_from n d a (suc k) ≡ o
    by_place later true q =
        let i = ltb-true a o q in
        bad_more n d a k (h a (omega arith) i) ∙ later i (omega arith) (λ x j m. h x (omega arith) m) e
    by_place later false q =
        let s : a ≡ o = omega (arith, ltb-false a o q) in
        bad_here n d a k (ap (λ (x : ℕ). is_due n x (get_or d x 0)) s ∙ e) ∙ s

-- a location or first order in range, and out of it
fit : (x n : ℕ) → (1 ≤ x) × (x + n ≤ 1000) → cells_fit x n ≡ true
fit x n h = simp (le-leb 1 x h.0, le-leb (x + n) 1000 h.1)

unfit : (x n : ℕ) → ((1 ≤ x) × (x + n ≤ 1000) → ⊥) → cells_fit x n ≡ false
unfit x n h = by_tests (leb 1 x) refl (leb (x + n) 1000) refl
  where
    by_tests : (a : Bool) → leb 1 x ≡ a → (b : Bool) → leb (x + n) 1000 ≡ b → both a b ≡ false
    by_tests true p true q = absurd (h (leb-true 1 x p, leb-true (x + n) 1000 q))
    by_tests true p false q = refl
    by_tests false p b q = refl

-- the digits that it is written with
three : (d : List ℕ) (a : ℕ) → number_in d a 3 ≡ three_digits d a
unfolding number_in
three d a = rw (add-zero a) (omega arith)

-- ---- the card at a place

-- the bytes from there on begin with its kind byte
pub kind_left : (deck : List ℕ) (p : ℕ) → get_or (drop p deck) 0 0 ≡ byte_at deck p
kind_left deck p = get_or-drop p deck 0 0 ∙ ap (byte_at deck) (add-zero p)

module _ (deck : List ℕ) (p : ℕ) (here : p < length deck) where
  some_left : 0 < length (drop p deck)
  some_left = omega (arith, length-drop p deck)

  pub card_unknown : bytes_of (byte_at deck p) ≡ 0 → card_at deck p ≡ Bad UnknownKind 0
  card_unknown z = read_unknown (drop p deck) some_left (ap bytes_of (kind_left deck p) ∙ z)

  module _ (known : Known deck p) where
    card_known : OfKind (drop p deck) (byte_at deck p)
    card_known = subst (OfKind (drop p deck)) (kind_left deck p) (read_known (drop p deck) some_left (rw (kind_left deck p) known))

    pub card_cut : length deck < p + bytes_of (byte_at deck p) → card_at deck p ≡ Bad CutShort 0
    card_cut l = read_cut card_known (omega (arith, length-drop p deck))

    module _ (whole : Whole deck p) where
      left : bytes_of (byte_at deck p) ≤ length (drop p deck)
      left = omega (arith, length-drop p deck)

      due_left : (e : ℕ) → DueUpto deck p e → AllDue (words_of (byte_at deck p)) (drop p deck) 1 e
      due_left e h o i l = ap (is_due (words_of (byte_at deck p)) o) (get_or-drop p deck o 0) ∙ h o i l

      pub card_byte : (o : ℕ) → 1 ≤ o → o < bytes_of (byte_at deck p) → DueUpto deck p o
          → is_due (words_of (byte_at deck p)) o (byte_at deck (p + o)) ≡ false → card_at deck p ≡ Bad BadByte o
      card_byte o g l h e =
          read_byte card_known left
          (bad_is _ (drop p deck) (bytes_of (byte_at deck p) - 1) 1 o g (omega arith) (due_left o h)
          (ap (is_due (words_of (byte_at deck p)) o) (get_or-drop p deck o 0) ∙ e))
          l

      module _ (due : DueUpto deck p (bytes_of (byte_at deck p))) where
        none_left : bad_from (words_of (byte_at deck p)) (drop p deck) 1 (bytes_of (byte_at deck p) - 1) ≡ bytes_of (byte_at deck p)
        none_left = none_bad _ (drop p deck) 1 (bytes_of (byte_at deck p) - 1) (λ o i l. due_left _ due o i (omega arith)) ∙ omega arith

        field_left : number_in (drop p deck) (field_of (byte_at deck p)) 3 ≡ three_digits deck (p + field_of (byte_at deck p))
        field_left = number_dropped deck p (field_of (byte_at deck p)) 3 ∙ three deck (p + field_of (byte_at deck p))

        pub card_place : (InRange deck p → ⊥) → card_at deck p ≡ Bad BadPlace (field_of (byte_at deck p))
        card_place out = read_place card_known left none_left (omega arith) (rw field_left (unfit _ _ out))

        -- in range it is a first-order card or a data card, of its bytes
        module _ (range : InRange deck p) where
          fits_left : cells_fit (number_in (drop p deck) (field_of (byte_at deck p)) 3) (cells_of (byte_at deck p)) ≡ true
          fits_left = rw field_left (fit _ _ range)

          pub first_due : eqb (byte_at deck p) first_kind ≡ true → (order : ℕ) × (problem : ℕ) × (card_at deck p ≡ First order problem)
          first_due e = (_, _, read_first card_known left none_left (omega arith) fits_left e)

          pub data_due : eqb (byte_at deck p) first_kind ≡ false
              → (number : ℕ) × (location : ℕ) × (words : ℕ) × (problem : ℕ) × (card_at deck p ≡ Data number location words problem (bytes_of (byte_at deck p)))
          data_due e = (_, _, _, _, read_data card_known left none_left (omega arith) fits_left e)
