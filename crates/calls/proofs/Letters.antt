-- Laws of words: a number is known by its digits, from the first on, and one that has grown past the largest budget stays past it.
-- Assumes nothing.
use Prim.Native.Nat.{ℕ, ◌+◌, ◌-◌, ◌*◌, ◌≤◌, ◌<◌, min}
use mathlib.Core.Path.{◌≡◌, refl, sym, ap, ◌∙◌}
use mathlib.Core.List.{List, [], ◌∷◌}
use mathlib.Core.Bool.{Bool, true, false}
use native.Mathlib.Numerals.{add-one}
use native.Mathlib.Omega.{arith}
use lib.Dec.{leb, ltb}
use lib.ListN.{length, drop, get_or, drop_of_length-le}
use lib.Seq.{drop-cons}
use borrow.Author.Tests.{leb-true, lt-ltb, le-ltb}
use Rattle.rules.specs.Words.{both}
use Rattle.rules.specs.Cards.{is_digit}
use Rattle.octets.specs.Longer.{with_digit}
use Rattle.rules.proofs.Tests.{both_first}
use Rattle.calls.specs.Words.{all_digits, is_number, value_from, capped_number}
use Rattle.std.specs.Prelude.{Some, None}

-- ---- numbers

pub digit_low : (b : ℕ) → is_digit b ≡ true → 48 ≤ b
digit_low b e = leb-true 48 b (both_first (leb 48 b) (leb b 57) e)

digits_next : (t : List ℕ) (i : ℕ) → i < length t → all_digits (drop i t) ≡ both (is_digit (get_or t i 0)) (all_digits (drop (i + 1) t))
unfolding all_digits
digits_next t i h = rw (add-one, drop-cons t i 0 h)

digits_end : (t : List ℕ) (i : ℕ) → length t ≤ i → all_digits (drop i t) ≡ true
unfolding all_digits
digits_end t i h = rw (drop_of_length-le t h)

value_next : (t : List ℕ) (i x : ℕ) → i < length t → value_from x (drop i t) ≡ value_from (with_digit x (get_or t i 0)) (drop (i + 1) t)
unfolding value_from
value_next t i x h = rw (add-one, drop-cons t i 0 h)

value_end : (t : List ℕ) (i x : ℕ) → length t ≤ i → value_from x (drop i t) ≡ x
unfolding value_from
value_end t i x h = rw (drop_of_length-le t h)

capped_digit : (x d : ℕ) → min 1000000 (10 * min 1000000 x + d) ≡ min 1000000 (10 * x + d)
capped_digit x d = omega arith

capped : (x : ℕ) (l : List ℕ) → min 1000000 (value_from (min 1000000 x) l) ≡ min 1000000 (value_from x l)
unfolding value_from
capped x [] = omega arith
capped x (b ∷ l) =
    sym (capped (10 * min 1000000 x + (b - 48)) l)
    ∙ ap (λ (y : ℕ). min 1000000 (value_from y l)) (capped_digit x (b - 48))
    ∙ capped (10 * x + (b - 48)) l

-- ---- the loop over the digits

-- what is left of the digits of t behind those of x is the whole number, as far as it is told
pub record Left (t : List ℕ) (x i : ℕ) : Type 0 where
  pub within : i ≤ length t
  pub small : x ≤ 1000000
  pub rest : all_digits (drop i t) ≡ all_digits t
  pub value : min 1000000 (value_from x (drop i t)) ≡ min 1000000 (value_from 0 t)

pub left_begins : (t : List ℕ) → Left t 0 0
left_begins t = record { within = omega arith; small = omega arith; rest = refl; value = refl }

no_number : (t : List ℕ) → is_number t ≡ false → None ≡ capped_number t
unfolding capped_number
no_number t e = rw e

pub left_none : (t : List ℕ) → length t ≡ 0 → None ≡ capped_number t
left_none t e = no_number t (rw (le-ltb 0 (length t) (omega arith)))

all_but : (n : Bool) → both n false ≡ false
all_but true = refl
all_but false = refl

module _ (t : List ℕ) (x i : ℕ) (l : Left t x i) (h : i < length t) where
  pub left_bad : is_digit (get_or t i 0) ≡ false → None ≡ capped_number t
  left_bad e =
      let d : all_digits t ≡ false = sym l.rest ∙ digits_next t i h ∙ rw e in
      no_number t (rw d (all_but (ltb 0 (length t))))

  pub left_more : (y : ℕ) → is_digit (get_or t i 0) ≡ true → y ≡ min 1000000 (with_digit x (get_or t i 0)) → Left t y (i + 1)
  left_more y d e =
      record {
        within = omega arith;
        small = omega arith;
        rest = sym (digits_next t i h ∙ rw d) ∙ l.rest;
        value =
            rw e
            (capped (with_digit x (get_or t i 0)) (drop (i + 1) t) ∙ ap (λ (z : ℕ). min 1000000 z) (sym (value_next t i x h)) ∙ l.value);
      }

pub left_ends : (t : List ℕ) (x i : ℕ) → Left t x i → length t ≤ i → 0 < length t → Some x ≡ capped_number t
unfolding capped_number
left_ends t x i l h k =
    let d : all_digits t ≡ true = sym l.rest ∙ digits_end t i h in
    let v : x ≡ min 1000000 (value_from 0 t) =
    let s = l.small in
    let m : min 1000000 x ≡ x = omega arith in
    sym m ∙ ap (λ (z : ℕ). min 1000000 z) (sym (value_end t i x h)) ∙ l.value in
    rw (d, lt-ltb 0 (length t) k) (ap Some v)
