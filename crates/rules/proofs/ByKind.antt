-- What is read at the start of some bytes, by their kind byte: the form of a card of that kind; and for each test on the way what is read, where
-- something is wrong with the card and where nothing is. Assumes nothing.
use Prim.Native.Nat.{ℕ, ◌+◌, ◌-◌, ◌*◌, ◌≤◌, ◌<◌}
use mathlib.Core.Path.{◌≡◌, refl, ◌∙◌}
use mathlib.Core.List.{List, [], ◌∷◌}
use mathlib.Core.Bool.{Bool, true, false}
use native.Mathlib.Omega.{arith}
use lib.Dec.{leb, eqb}
use lib.ListN.{length, get_or}
use borrow.Author.Tests.{lt-ltb, le-ltb, leb-true, ne_eqb}
use Rattle.rules.specs.Words.{pick}
use Rattle.rules.specs.Cards.{zero_byte, first_kind, word_place, data_size, first_size, number_in, bad_from, cells_fit, whole_card, data_of, first_of, is_data_kind, card_of}
use Rattle.rules.specs.declared.Fault.TheVariants.{UnknownKind, CutShort, BadByte, BadPlace}
use Rattle.rules.specs.declared.Card.{Card}
use Rattle.rules.specs.declared.Card.TheVariants.{Data, First, Bad}
use Rattle.rules.proofs.Tests.{both_second}

-- ---- a card by its kind byte

-- how many words it has, and how many bytes; no bytes where no deck has such a card
abbrev pub words_of : ℕ → ℕ
words_of k = pick (is_data_kind k) (k - zero_byte) 0

abbrev pub bytes_of : ℕ → ℕ
bytes_of k = pick (is_data_kind k) (data_size (k - zero_byte)) (pick (eqb k first_kind) first_size 0)

-- where its location or first order stands, of three digits, and how many cells that names
abbrev pub field_of : ℕ → ℕ
field_of k = pick (is_data_kind k) 5 1

abbrev pub cells_of : ℕ → ℕ
cells_of k = pick (is_data_kind k) (k - zero_byte) 1

-- ---- bytes that are read by a form

-- what they are if nothing is wrong, by whether that is a first-order card
abbrev card_in : List ℕ → Bool → ℕ → ℕ → ℕ → Card
card_in d first n size field =
    pick first (First (number_in d field 3) (number_in d 4 3))
    (Data (number_in d 1 4) (number_in d field 3) n (number_in d (word_place n) 3) size)

-- as a card of n words and so many bytes, whose location or first order stands at the place field and names so many cells
pub record Formed (d : List ℕ) (first : Bool) (n size field cells : ℕ) : Type 0 where
  is : card_of d ≡ whole_card n size d (pick (cells_fit (number_in d field 3) cells) (card_in d first n size field) (Bad BadPlace field))

-- each test on the way
module _ {d : List ℕ} {first : Bool} {n size field cells : ℕ} (h : Formed d first n size field cells) where
  pub read_cut : length d < size → card_of d ≡ Bad CutShort 0
  read_cut l = h.is ∙ simp (lt-ltb (length d) size l)

  module _ (whole : size ≤ length d) {o : ℕ} (e : bad_from n d 1 (size - 1) ≡ o) where
    pub read_byte : o < size → card_of d ≡ Bad BadByte o
    read_byte l = h.is ∙ simp (le-ltb (length d) size whole, e, lt-ltb o size l)

    module _ (due : size ≤ o) where
      pub read_place : cells_fit (number_in d field 3) cells ≡ false → card_of d ≡ Bad BadPlace field
      read_place t = h.is ∙ simp (le-ltb (length d) size whole, e, le-ltb o size due, t)

      module _ (t : cells_fit (number_in d field 3) cells ≡ true) where
        read_good : card_of d ≡ card_in d first n size field
        read_good = h.is ∙ simp (le-ltb (length d) size whole, e, le-ltb o size due, t)

        pub read_first : first ≡ true → card_of d ≡ First (number_in d field 3) (number_in d 4 3)
        read_first k = read_good ∙ simp k

        pub read_data : first ≡ false → card_of d ≡ Data (number_in d 1 4) (number_in d field 3) n (number_in d (word_place n) 3) size
        read_data k = read_good ∙ simp k

-- ---- bytes by their first

-- read by the form of the kind k
abbrev pub OfKind : List ℕ → ℕ → Type 0
OfKind d k = Formed d (eqb k first_kind) (words_of k) (bytes_of k) (field_of k) (cells_of k)

pub read_known : (d : List ℕ) → 0 < length d → 1 ≤ bytes_of (get_or d 0 0) → OfKind d (get_or d 0 0)
unfolding card_of data_of first_of
read_known [] l h = absurd (let z : ⊥ = omega arith in z)
read_known (k ∷ t) l h = by_kind (is_data_kind k) refl (eqb k first_kind) refl
  where
    by_kind : (s : Bool) → is_data_kind k ≡ s → (f : Bool) → eqb k first_kind ≡ f → OfKind (k ∷ t) k
    by_kind true e f g =
        let u = leb-true k 53 (both_second (leb 49 k) (leb k 53) e) in
        record { is = rw (e, ne_eqb k 84 (λ z. omega arith)) }
    by_kind false e true g = record { is = rw (e, g) }
    by_kind false e false g = absurd (let z : 1 ≤ 0 = rw (e, g) at h in omega arith)

pub read_unknown : (d : List ℕ) → 0 < length d → bytes_of (get_or d 0 0) ≡ 0 → card_of d ≡ Bad UnknownKind 0
unfolding card_of
read_unknown [] l h = absurd (let z : ⊥ = omega arith in z)
read_unknown (k ∷ t) l h = by_kind (is_data_kind k) refl (eqb k first_kind) refl
  where
    by_kind : (s : Bool) → is_data_kind k ≡ s → (f : Bool) → eqb k first_kind ≡ f → card_of (k ∷ t) ≡ Bad UnknownKind 0
    by_kind true e f g = absurd (let z : 11 + 11 * (k - 48) ≡ 0 = rw e at h in omega arith)
    by_kind false e true g = absurd (let z : 7 ≡ 0 = rw (e, g) at h in omega arith)
    by_kind false e false g = rw (e, g)
