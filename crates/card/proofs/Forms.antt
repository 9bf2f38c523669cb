-- What is read of a card, by its form and by each test on the way. Assumes nothing.
use Rattle.std.proofs.Common.{None, Some}
use Rattle.std.proofs.lemmas.Option.{none-some, same_Some}
use mathlib.Core.Path.{◌≡◌, refl, sym, ap, subst, ◌∙◌}
use mathlib.Core.List.{List, [], ◌∷◌}
use mathlib.Core.Bool.{Bool, true, false}
use Prim.Native.Nat.{ℕ, ◌+◌, ◌-◌, ◌*◌, ◌≤◌, ◌<◌}
use native.Mathlib.Nat.{pos_of_ne-zero}
use native.Mathlib.Omega.{arith}
use lib.Dec.{eqb, leb}
use lib.ListN.{length, get_or}
use borrow.Author.Tests.{eq-eqb, ne_eqb, leb-true}
use Rattle.rules.specs.Words.{pick}
use Rattle.rules.specs.Cards.{number_in, bad_from, cells_fit, is_data_kind, card_of}
use Rattle.rules.specs.declared.Fault.TheVariants.{UnknownKind, CutShort, BadByte, BadPlace}
use Rattle.rules.specs.declared.Card.TheVariants.{Data, First, Bad, End}
use Rattle.rules.proofs.Tests.{both_second}
use Rattle.rules.proofs.ByKind.{words_of, bytes_of, field_of, cells_of, Formed, read_unknown, read_known, read_cut, read_byte, read_place, read_first, read_data}
use Rattle.card.specs.declared.fields.Form.{Form}
use Rattle.card.specs.Forms.{data_form, first_form, form_of}

-- no bytes, no card
pub card_none : (d : List ℕ) → length d ≡ 0 → card_of d ≡ End
unfolding card_of
card_none [] h = refl
card_none (k ∷ t) h = absurd (let z : ⊥ = omega arith in z)

-- the form of a kind is that of its cards, none of which has more than five words or 66 bytes
abbrev kind_form : ℕ → Form
kind_form k = record { words = words_of k; size = bytes_of k; place = field_of k; cells = cells_of k }

pub record FormOf (k : ℕ) (f : Form) : Type 0 where
  pub is : f ≡ kind_form k
  pub some : 1 ≤ bytes_of k
  pub words : f.words ≤ 5
  pub size : f.size ≤ 66
  pub place : f.place ≤ 5
  pub cells : f.cells ≤ 5

pub form_is : {k : ℕ} {f : Form} → Some f ≡ form_of k → FormOf k f
unfolding form_of
form_is {k} {f} = by_kind (is_data_kind k) refl (eqb k 84) refl
  where
    by_kind : (s : Bool) → is_data_kind k ≡ s → (t : Bool) → eqb k 84 ≡ t
        → Some f ≡ pick s (Some (data_form (k - 48))) (pick t (Some first_form) None) → FormOf k f
    by_kind true e t g q =
        let l : k ≤ 53 = leb-true k 53 (both_second (leb 49 k) (leb k 53) e) in
        subst (λ (f : Form). FormOf k f) (sym (same_Some _ _ q))
        (record { is = rw e; some = rw e (omega arith); words = omega arith; size = omega arith; place = omega arith; cells = omega arith })
    by_kind false e true g q =
        subst (λ (f : Form). FormOf k f) (sym (same_Some _ _ q))
        (record { is = rw (e, g); some = rw (e, g) (omega arith); words = omega arith; size = omega arith; place = omega arith; cells = omega arith })
    by_kind false e false g q = absurd (none-some _ (sym q))

form_none : (k : ℕ) → None ≡ form_of k → bytes_of k ≡ 0
unfolding form_of
form_none k = by_kind (is_data_kind k) refl (eqb k 84) refl
  where
    by_kind : (s : Bool) → is_data_kind k ≡ s → (t : Bool) → eqb k 84 ≡ t
        → None ≡ pick s (Some (data_form (k - 48))) (pick t (Some first_form) None) → bytes_of k ≡ 0
    by_kind true e t g q = absurd (none-some _ q)
    by_kind false e true g q = absurd (none-some _ q)
    by_kind false e false g q = rw (e, g)

pub card_unknown : (d : List ℕ) → (length d ≡ 0 → ⊥) → None ≡ form_of (get_or d 0 0) → card_of d ≡ Bad UnknownKind 0
card_unknown d some e = read_unknown d (pos_of_ne-zero some) (form_none (get_or d 0 0) e)

-- bytes d whose first is of the form f; and such bytes that are enough, and the first place b that is bad
pub record Begun (d : List ℕ) (f : Form) : Type 0 where
  pub some : length d ≡ 0 → ⊥
  pub form : Some f ≡ form_of (get_or d 0 0)

pub record Whole (d : List ℕ) (f : Form) (b : ℕ) : Type 0 where
  pub begun : Begun d f
  pub whole : f.size ≤ length d
  pub looked : b ≡ bad_from f.words d 1 (f.size - 1)

module _ {d : List ℕ} {f : Form} (h : Begun d f) where
  card_formed : Formed d (eqb (get_or d 0 0) 84) f.words f.size f.place f.cells
  card_formed =
      let k = form_is h.form in
      subst (λ (g : Form). Formed d (eqb (get_or d 0 0) 84) g.words g.size g.place g.cells)
      (sym k.is) (read_known d (pos_of_ne-zero h.some) k.some)

  pub card_cut : length d < f.size → card_of d ≡ Bad CutShort 0
  card_cut = read_cut card_formed

module _ {d : List ℕ} {f : Form} {b : ℕ} (h : Whole d f b) where
  whole_formed : Formed d (eqb (get_or d 0 0) 84) f.words f.size f.place f.cells
  whole_formed = card_formed h.begun

  pub card_byte : b < f.size → card_of d ≡ Bad BadByte b
  card_byte = read_byte whole_formed h.whole (sym h.looked)

  pub card_place : f.size ≤ b → cells_fit (number_in d f.place 3) f.cells ≡ false → card_of d ≡ Bad BadPlace f.place
  card_place = read_place whole_formed h.whole (sym h.looked)

  pub card_first : f.size ≤ b → cells_fit (number_in d f.place 3) f.cells ≡ true → get_or d 0 0 ≡ 84
      → card_of d ≡ First (number_in d f.place 3) (number_in d 4 3)
  card_first l t k = read_first whole_formed h.whole (sym h.looked) l t (eq-eqb (get_or d 0 0) 84 k)

  pub card_data : f.size ≤ b → cells_fit (number_in d f.place 3) f.cells ≡ true → (get_or d 0 0 ≡ 84 → ⊥)
      → card_of d ≡ Data (number_in d 1 4) (number_in d f.place 3) f.words (number_in d (8 + 11 * f.words) 3) f.size
  card_data l t k = read_data whole_formed h.whole (sym h.looked) l t (ne_eqb (get_or d 0 0) 84 k)

-- no card is empty, and a first-order card has seven bytes
pub form_some : (k : ℕ) {f : Form} → Some f ≡ form_of k → 1 ≤ f.size
form_some k e =
    let h = form_is e in
    subst (λ (f : Form). 1 ≤ f.size) (sym h.is) h.some

pub form_first : (k : ℕ) {f : Form} → Some f ≡ form_of k → k ≡ 84 → f.size ≡ 7
form_first k e q =
    let h = form_is e in
    ap (λ (f : Form). f.size) h.is ∙ ap bytes_of q
