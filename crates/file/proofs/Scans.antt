-- A text read byte by byte into cells: the numbers that have ended are the first cells, and what is left of the text has the numbers of
-- the whole. Assumes nothing.
use Rattle.std.proofs.Common.{Option, Some}
use mathlib.Core.Path.{◌≡◌, refl, sym, ap, ap₂, ◌∙◌}
use mathlib.Core.List.{List, [], ◌∷◌}
use mathlib.Core.Bool.{Bool, true, false}
use Prim.Native.Nat.{ℕ, ◌+◌, ◌≤◌, ◌<◌}
use native.Mathlib.Numerals.{add-one}
use native.Mathlib.Omega.{arith}
use lib.Dec.{eqb}
use lib.ListN.{length, get_or, take, drop, set, length-append, length-set, drop_of_length-le}
use lib.Seq.{drop-cons, length-take-le, take-suc-set, take_all}
use borrow.Author.Tests.{eqb-true}
use Rattle.rules.specs.Words.{pick}
use Rattle.octets.specs.Longer.{with_digit}
use Rattle.file.specs.Texts.{is_gap, takes, ended, numbers_from, numbers_in, is_count}
use Rattle.rules.proofs.Tests.{false_true}
use Rattle.file.proofs.Numbers.{gap_read, digit_read, bad_read, too_many}
use Rattle.file.specs.Reads.{Scanned}

-- i bytes are read, n numbers have ended, and x is what there is of the next, if it was begun
pub record Reading (size : ℕ) (text cells : List ℕ) (n : ℕ) (begun : Bool) (x i : ℕ) : Type 0 where
  pub whole : length cells ≡ size
  pub few : n ≤ length cells
  pub far : i ≤ length text
  pub same : numbers_from (take n cells) begun x (drop i text) ≡ numbers_in text

pub reading_begins : (text cells : List ℕ) → Reading (length cells) text cells 0 false 0 0
unfolding numbers_in
reading_begins text cells = record { whole = refl; few = omega arith; far = omega arith; same = refl }

-- a number that ends is the next cell, and counted even where there is none
length-ended : (cells : List ℕ) (n : ℕ) (begun : Bool) (x : ℕ) → n ≤ length cells → length (ended (take n cells) begun x) ≡ pick begun (n + 1) n
length-ended cells n true x h = length-append (take n cells) (x ∷ []) ∙ omega (arith, length-take-le n cells h)
length-ended cells n false x h = length-take-le n cells h

length_after : (cells : List ℕ) (n : ℕ) (begun : Bool) (x : ℕ) → length (pick begun (set cells n x) cells) ≡ length cells
length_after cells n true x = length-set cells n x
length_after cells n false x = refl

ended_cells : (cells : List ℕ) (n : ℕ) (begun : Bool) (x : ℕ) → pick begun (n + 1) n ≤ length cells
    → take (pick begun (n + 1) n) (pick begun (set cells n x) cells) ≡ ended (take n cells) begun x
ended_cells cells n true x h = ap (λ (k : ℕ). take k (set cells n x)) (add-one n) ∙ take-suc-set cells n x (omega arith)
ended_cells cells n false x h = refl

none_counted : {n : ℕ} {found : Option (List ℕ)} {cells : List ℕ} → is_count n found ≡ false → Scanned n found false cells
none_counted e = record { answer = sym e; numbers = λ t. false_true t }

module _ {size : ℕ} {text cells : List ℕ} {n : ℕ} {begun : Bool} {x i : ℕ} (r : Reading size text cells n begun x i) where
  here : i < length text → numbers_from (take n cells) begun x (get_or text i 0 ∷ drop (i + 1) text) ≡ numbers_in text
  here h =
      ap (numbers_from (take n cells) begun x) (sym (drop-cons text i 0 h ∙ ap (λ (k : ℕ). get_or text i 0 ∷ drop k text) (sym (add-one i))))
      ∙ r.same

  at_gap : i < length text → is_gap (get_or text i 0) ≡ true → numbers_from (ended (take n cells) begun x) false 0 (drop (i + 1) text) ≡ numbers_in text
  at_gap h g = sym (gap_read (take n cells) begun x (get_or text i 0) (drop (i + 1) text) g) ∙ here h

  -- a gap: the number begun has ended
  pub reading_gap : (m : ℕ) (after : List ℕ) → i < length text → is_gap (get_or text i 0) ≡ true
      → m ≡ pick begun (n + 1) n
      → after ≡ pick begun (set cells n x) cells
      → m ≤ length after
      → Reading size text after m false 0 (i + 1)
  reading_gap m after h g p q l =
      let k : length after ≡ length cells = ap length q ∙ length_after cells n begun x in
      record {
        whole = k ∙ r.whole;
        few = l;
        far = omega arith;
        same = ap (λ (t : List ℕ). numbers_from t false 0 (drop (i + 1) text)) (ap₂ take p q ∙ ended_cells cells n begun x (omega arith)) ∙ at_gap h g;
      }

  pub reading_full : (m : ℕ) (after : List ℕ) → i < length text → is_gap (get_or text i 0) ≡ true
      → m ≡ pick begun (n + 1) n
      → after ≡ pick begun (set cells n x) cells
      → length after < m
      → Scanned size (numbers_in text) false after
  reading_full m after h g p q l =
      none_counted
      (ap (is_count size) (sym (at_gap h g))
      ∙ too_many size (ended (take n cells) begun x) false 0 (drop (i + 1) text)
      (omega (arith, r.whole, ap length q ∙ length_after cells n begun x, length-ended cells n begun x r.few)))

  -- a digit, or a byte that is neither
  pub reading_digit : (y : ℕ) → i < length text → is_gap (get_or text i 0) ≡ false → takes x (get_or text i 0) ≡ true
      → y ≡ with_digit x (get_or text i 0)
      → Reading size text cells n true y (i + 1)
  reading_digit y h g t e =
      record {
        whole = r.whole;
        few = r.few;
        far = omega arith;
        same = ap (λ (z : ℕ). numbers_from (take n cells) true z (drop (i + 1) text)) e
            ∙ sym (digit_read (take n cells) begun x (get_or text i 0) (drop (i + 1) text) g t)
            ∙ here h;
      }

  pub reading_bad : i < length text → is_gap (get_or text i 0) ≡ false → takes x (get_or text i 0) ≡ false
      → Scanned size (numbers_in text) false cells
  unfolding is_count
  reading_bad h g t =
      none_counted (ap (is_count size) (sym (here h) ∙ bad_read (take n cells) begun x (get_or text i 0) (drop (i + 1) text) g t))

  -- the end of the text: the number begun has ended
  pub reading_ends : (m : ℕ) (after : List ℕ) → length text ≤ i
      → m ≡ pick begun (n + 1) n
      → after ≡ pick begun (set cells n x) cells
      → Scanned size (numbers_in text) (eqb m (length after)) after
  unfolding numbers_from is_count
  reading_ends m after h p q =
      let k : length after ≡ length cells = ap length q ∙ length_after cells n begun x in
      let found : numbers_in text ≡ Some (ended (take n cells) begun x) =
      sym r.same ∙ ap (numbers_from (take n cells) begun x) (drop_of_length-le text h) in
      record {
        answer = ap₂ eqb (p ∙ sym (length-ended cells n begun x r.few)) (k ∙ r.whole) ∙ sym (ap (is_count size) found);
        numbers = λ t.
            let e : m ≡ length after = eqb-true m (length after) t in
            found ∙ ap Some (sym (ended_cells cells n begun x (omega arith)) ∙ sym (ap₂ take p q) ∙ take_all m after (omega arith));
      }
