-- The byte that is due at each place of a card: where the search for the first bad byte ends, and that a card whose every byte is due
-- is one whose fields are digits and words. Assumes nothing.
use mathlib.Core.Path.{◌≡◌, refl, sym, ap, ◌∙◌}
use mathlib.Core.List.{List}
use mathlib.Core.Bool.{Bool, true, false}
use Prim.Native.Nat.{ℕ, zero, suc, ◌+◌, ◌-◌, ◌*◌, ◌/◌, ◌%◌, ◌≤◌, ◌<◌}
use native.Mathlib.Nat.{add-zero}
use native.Mathlib.Omega.{arith}
use lib.Dec.{ltb, eqb}
use lib.ListN.{get_or}
use borrow.Author.Tests.{ltb-true, ltb-false, lt-ltb, le-ltb, le-leb, lt-leb, eq-eqb, ne_eqb, eqb-true, eqb-false}
use Rattle.rules.specs.Words.{pick, both}
use Rattle.rules.specs.Cards.{is_digit, is_sign, sign_due, is_due, bad_from}
use Rattle.rules.proofs.Digits.{AllDigits}
use Rattle.rules.proofs.Fields.{WordAt}

-- the byte at each place from a up to e of a card of n words is the one due
abbrev pub AllDue : ℕ → List ℕ → ℕ → ℕ → Type 0
AllDue n d a e = (o : ℕ) → a ≤ o → o < e → is_due n o (get_or d o 0) ≡ true

-- ---- the search

-- it goes on past a byte that is due, and stops at one that is not
pub bad_more : (n : ℕ) (d : List ℕ) (o k : ℕ) → is_due n o (get_or d o 0) ≡ true → bad_from n d o (suc k) ≡ bad_from n d (suc o) k
unfolding bad_from
bad_more n d o k e = ap (λ (t : Bool). pick t (bad_from n d (suc o) k) o) e

pub bad_here : (n : ℕ) (d : List ℕ) (o k : ℕ) → is_due n o (get_or d o 0) ≡ false → bad_from n d o (suc k) ≡ o
unfolding bad_from
bad_here n d o k e = ap (λ (t : Bool). pick t (bad_from n d (suc o) k) o) e

-- it stays within the places that it is given
pub bad_within : (n : ℕ) (d : List ℕ) (o k : ℕ) → bad_from n d o k ≤ o + k
unfolding bad_from
bad_within n d o zero = omega arith
bad_within n d o (suc k) = by_test (is_due n o (get_or d o 0)) (bad_within n d (suc o) k)
  where
    by_test : (t : Bool) → bad_from n d (suc o) k ≤ suc o + k → pick t (bad_from n d (suc o) k) o ≤ o + suc k
    by_test true h = omega arith
    by_test false h = omega arith

-- it finds none where every byte is due, and only there
pub none_bad : (n : ℕ) (d : List ℕ) (o k : ℕ) → AllDue n d o (o + k) → bad_from n d o k ≡ o + k
unfolding bad_from
none_bad n d o zero h = sym (add-zero o)
none_bad n d o (suc k) h =
    bad_more n d o k (h o (omega arith) (omega arith)) ∙ none_bad n d (suc o) k (λ p i l. h p (omega arith) (omega arith)) ∙ omega arith

pub all_due : (n : ℕ) (d : List ℕ) (o k : ℕ) → o + k ≤ bad_from n d o k → AllDue n d o (o + k)
unfolding bad_from
all_due n d o zero h p i l = absurd (let z : ⊥ = omega arith in z)
all_due n d o (suc k) h p i l = by_first (all_due n d (suc o) k) (is_due n o (get_or d o 0)) refl
  where
    Later : Type 0
    Later = suc o + k ≤ bad_from n d (suc o) k → AllDue n d (suc o) (suc o + k)

    by_place : Later → is_due n o (get_or d o 0) ≡ true → (t : Bool) → ltb o p ≡ t → is_due n p (get_or d p 0) ≡ true
    by_place later e true q = later (omega (arith, bad_more n d o k e)) p (ltb-true o p q) (omega arith)
    by_place later e false q =
        let s : o ≡ p = omega (arith, ltb-false o p q) in
        ap (λ (x : ℕ). is_due n x (get_or d x 0)) (sym s) ∙ e

    by_first : Later → (t : Bool) → is_due n o (get_or d o 0) ≡ t → is_due n p (get_or d p 0) ≡ true
    by_first later true e = by_place later e (ltb o p) refl
    by_first later false e = absurd (let z : ⊥ = omega (arith, bad_here n d o k e) in z)

-- ---- where a sign is due

plain_front : (n o : ℕ) → o < 8 → sign_due n o ≡ false
plain_front n o h = simp (lt-leb 8 o h)

plain_back : (n o : ℕ) → 8 + 11 * n ≤ o → sign_due n o ≡ false
plain_back n o h = simp (le-leb 8 o (omega arith), le-ltb o (8 + 11 * n) h)

sign_place : (n i : ℕ) → i < n → sign_due n (8 + 11 * i) ≡ true
sign_place n i h =
    simp (le-leb 8 (8 + 11 * i) (omega arith), lt-ltb (8 + 11 * i) (8 + 11 * n) (omega arith), eq-eqb ((8 + 11 * i - 8) % 11) 0 (omega arith))

plain_inside : (n i o : ℕ) → 8 + 11 * i < o → o < 8 + 11 * i + 11 → sign_due n o ≡ false
plain_inside n i o h k =
    let e : eqb ((o - 8) % 11) 0 ≡ false = ne_eqb ((o - 8) % 11) 0 (λ z. omega arith) in
    simp (le-leb 8 o (omega arith), e) (never (ltb o (8 + 11 * n)))
  where
    never : (t : Bool) → both t false ≡ false
    never true = refl
    never false = refl

digit_due : (n o b : ℕ) → sign_due n o ≡ false → is_due n o b ≡ is_digit b
digit_due n o b e = ap (λ (t : Bool). pick t (is_sign b) (is_digit b)) e

sign_due_lem : (n o b : ℕ) → sign_due n o ≡ true → is_due n o b ≡ is_sign b
sign_due_lem n o b e = ap (λ (t : Bool). pick t (is_sign b) (is_digit b)) e

-- up to the first word's place every byte due is a digit
pub front_due : (n : ℕ) (d : List ℕ) (e : ℕ) → e ≤ 8 → AllDigits d 1 e → AllDue n d 1 e
front_due n d e h f o i l = digit_due n o (get_or d o 0) (plain_front n o (omega arith)) ∙ f o i l

pub due_front : (n : ℕ) (d : List ℕ) (e : ℕ) → e ≤ 8 → AllDue n d 1 e → AllDigits d 1 e
due_front n d e h f o i l = sym (digit_due n o (get_or d o 0) (plain_front n o (omega arith))) ∙ f o i l

-- ---- a card by its fields: seven digits behind the kind, the words, three digits

pub record Fields (n : ℕ) (d : List ℕ) : Type 0 where
  pub front : AllDigits d 1 8
  pub words : (i : ℕ) → i < n → WordAt d (8 + 11 * i)
  pub back : AllDigits d (8 + 11 * n) (11 + 11 * n)

pub fields_due : (n : ℕ) (d : List ℕ) → Fields n d → AllDue n d 1 (11 + 11 * n)
fields_due n d f o i l = by_front (ltb o 8) refl
  where
    q : ℕ
    q = (o - 8) / 11

    by_sign : 8 ≤ o → o < 8 + 11 * n → (t : Bool) → eqb (8 + 11 * q) o ≡ t → is_due n o (get_or d o 0) ≡ true
    by_sign g h true e =
        let s : 8 + 11 * q ≡ o = eqb-true (8 + 11 * q) o e in
        ap (λ (x : ℕ). is_due n x (get_or d x 0)) (sym s)
        ∙ sign_due_lem n (8 + 11 * q) (get_or d (8 + 11 * q) 0) (sign_place n q (omega arith))
        ∙ (f.words q (omega arith)).sign
    by_sign g h false e =
        let s : ((8 + 11 * q ≡ o) → ⊥) = eqb-false (8 + 11 * q) o e in
        let u : 8 + 11 * q < o = omega arith in
        digit_due n o (get_or d o 0) (plain_inside n q o u (omega arith)) ∙ (f.words q (omega arith)).figures o (omega arith) (omega arith)

    by_back : 8 ≤ o → (t : Bool) → ltb o (8 + 11 * n) ≡ t → is_due n o (get_or d o 0) ≡ true
    by_back g true e = by_sign g (ltb-true o (8 + 11 * n) e) (eqb (8 + 11 * q) o) refl
    by_back g false e =
        let h = ltb-false o (8 + 11 * n) e in
        digit_due n o (get_or d o 0) (plain_back n o h) ∙ f.back o h l

    by_front : (t : Bool) → ltb o 8 ≡ t → is_due n o (get_or d o 0) ≡ true
    by_front true e = front_due n d 8 (omega arith) f.front o i (ltb-true o 8 e)
    by_front false e = by_back (ltb-false o 8 e) (ltb o (8 + 11 * n)) refl

pub due_fields : (n : ℕ) (d : List ℕ) → AllDue n d 1 (11 + 11 * n) → Fields n d
due_fields n d h = record {
  front = due_front n d 8 (omega arith) (λ o i l. h o i (omega arith));
  words = λ i l. record {
    sign = sym (sign_due_lem n (8 + 11 * i) (get_or d (8 + 11 * i) 0) (sign_place n i l)) ∙ h (8 + 11 * i) (omega arith) (omega arith);
    figures = λ o j k. sym (digit_due n o (get_or d o 0) (plain_inside n i o (omega arith) (omega arith))) ∙ h o (omega arith) (omega arith);
  };
  back = λ o i l. sym (digit_due n o (get_or d o 0) (plain_back n o i)) ∙ h o (omega arith) l;
}
