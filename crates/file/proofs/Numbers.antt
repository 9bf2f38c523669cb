-- The text of cells: what one byte does, and that numbers which have ended stay, so that too many of them are too many at the end.
-- Assumes nothing.
use Rattle.std.proofs.Common.{None, Some}
use Prim.Native.Nat.{ℕ, ◌^◌, ◌≤◌, ◌<◌}
use mathlib.Core.Path.{◌≡◌, refl, ap, ◌∙◌}
use mathlib.Core.List.{List, [], ◌∷◌}
use mathlib.Core.Bool.{Bool, true, false}
use native.Mathlib.Omega.{arith}
use lib.Dec.{ltb}
use lib.ListN.{length, length-append}
use borrow.Author.Tests.{ne_eqb}
use Rattle.std.specs.Prelude.{Ok, Err, is_ok}
use Rattle.rules.specs.Words.{pick, both}
use Rattle.rules.specs.Cards.{is_digit}
use Rattle.octets.specs.Longer.{with_digit, longer}
use Rattle.octets.specs.declared.reads.DigitError.TheVariants.{TooLarge, NoDigit}
use Rattle.file.specs.Texts.{is_gap, takes, ended, numbers_from, numbers_in, is_count}

-- ---- one byte

-- what a number with one more digit is says whether the number takes it
module _ (x b : ℕ) where
  pub takes_is : takes x b ≡ is_ok (longer x b)
  unfolding longer
  takes_is = by_tests (is_digit b) (ltb (with_digit x b) (2 ^ 64))
    where
      by_tests : (d t : Bool) → both d t ≡ is_ok (pick d (pick t (Ok (with_digit x b)) (Err TooLarge)) (Err NoDigit))
      by_tests true true = refl
      by_tests true false = refl
      by_tests false t = refl

module _ (done : List ℕ) (begun : Bool) (x b : ℕ) (text : List ℕ) where
  pub gap_read : is_gap b ≡ true → numbers_from done begun x (b ∷ text) ≡ numbers_from (ended done begun x) false 0 text
  unfolding numbers_from
  gap_read g =
      ap (λ (t : Bool). pick t (numbers_from (ended done begun x) false 0 text) (pick (takes x b) (numbers_from done true (with_digit x b) text) None)) g

  other_read : is_gap b ≡ false → numbers_from done begun x (b ∷ text) ≡ pick (takes x b) (numbers_from done true (with_digit x b) text) None
  unfolding numbers_from
  other_read g =
      ap (λ (t : Bool). pick t (numbers_from (ended done begun x) false 0 text) (pick (takes x b) (numbers_from done true (with_digit x b) text) None)) g

  pub digit_read : is_gap b ≡ false → takes x b ≡ true → numbers_from done begun x (b ∷ text) ≡ numbers_from done true (with_digit x b) text
  digit_read g t = other_read g ∙ ap (λ (s : Bool). pick s (numbers_from done true (with_digit x b) text) None) t

  pub bad_read : is_gap b ≡ false → takes x b ≡ false → numbers_from done begun x (b ∷ text) ≡ None
  bad_read g t = other_read g ∙ ap (λ (s : Bool). pick s (numbers_from done true (with_digit x b) text) None) t

-- ---- numbers that have ended

grown : (done : List ℕ) (begun : Bool) (x : ℕ) → length done ≤ length (ended done begun x)
grown done true x = omega (arith, length-append done (x ∷ []))
grown done false x = omega arith

-- more than n have ended
pub too_many : (n : ℕ) (done : List ℕ) (begun : Bool) (x : ℕ) (text : List ℕ) → n < length done → is_count n (numbers_from done begun x text) ≡ false
unfolding numbers_from is_count
too_many n done begun x [] h = ne_eqb (length (ended done begun x)) n (λ e. omega (arith, grown done begun x))
too_many n done begun x (b ∷ text) h =
    by_gap (is_gap b) (takes x b) refl refl (too_many n done true (with_digit x b) text h)
    (too_many n (ended done begun x) false 0 text (omega (arith, grown done begun x)))
  where
    by_gap : (g t : Bool) → is_gap b ≡ g → takes x b ≡ t
        → is_count n (numbers_from done true (with_digit x b) text) ≡ false
        → is_count n (numbers_from (ended done begun x) false 0 text) ≡ false
        → is_count n (numbers_from done begun x (b ∷ text)) ≡ false
    by_gap true t g k digit gap = ap (is_count n) (gap_read done begun x b text g) ∙ gap
    by_gap false true g k digit gap = ap (is_count n) (digit_read done begun x b text g k) ∙ digit
    by_gap false false g k digit gap = ap (is_count n) (bad_read done begun x b text g k)

-- ---- examples: a space first, a zero first, the two bytes of a line end; the largest number, and one that is too large

small_text : numbers_in (32 ∷ 48 ∷ 55 ∷ 13 ∷ 10 ∷ 49 ∷ 50 ∷ []) ≡ Some (7 ∷ 12 ∷ [])
unfolding numbers_in numbers_from
small_text = refl

largest : numbers_from [] true 1844674407370955161 (53 ∷ []) ≡ Some (18446744073709551615 ∷ [])
unfolding numbers_from
largest = refl

too_large : numbers_from [] true 1844674407370955161 (54 ∷ []) ≡ None
unfolding numbers_from
too_large = refl
