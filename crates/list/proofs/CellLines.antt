-- Laws of the lines of marked cells: how long they are, and that those of the first cells are no longer than those of all. Assumes nothing.
use Rattle.std.proofs.Common.{None, Some}
use Prim.Native.Nat.{ℕ, zero, suc, ◌+◌, ◌-◌, ◌*◌, ◌≤◌, ◌<◌}
use mathlib.Core.Path.{◌≡◌, refl, ap, ◌∙◌}
use mathlib.Core.Bool.{Bool, true, false}
use mathlib.Core.List.{List, [], ◌∷◌, ◌++◌}
use native.Mathlib.Numerals.{add-one}
use native.Mathlib.Omega.{arith}
use borrow.Author.Tests.{lt-leb, le-leb}
use lib.Dec.{leb}
use lib.ListN.{length, length-append}
use Rattle.rules.specs.Words.{pick, both, is_word}
use Rattle.rules.specs.Drum.{cell_at, shown}
use Rattle.rules.specs.Answers.{Cell}
use Rattle.list.specs.Listing.{cell_line, cell_shown}
use Rattle.list.specs.Marked.{line_of, lines_upto}
use Rattle.list.proofs.Lengths.{length_cell}

-- ---- one line, by the tests on address and word

pub no_address : (a w : ℕ) → 999 < a → cell_shown a w ≡ []
unfolding cell_shown
no_address a w h = simp (lt-leb a 999 h)

pub no_word : (a w : ℕ) → a ≤ 999 → 19999999999 < w → cell_shown a w ≡ []
unfolding cell_shown
no_word a w l h = simp (le-leb a 999 l, lt-leb w 19999999999 h)

pub whole_line : (a w : ℕ) → a ≤ 999 → w ≤ 19999999999 → length (cell_shown a w) ≡ 44
unfolding cell_shown
whole_line a w l h = simp (le-leb a 999 l, le-leb w 19999999999 h, length_cell a w)

-- a line that is there is that of the cell's word
shown_some : (a w : ℕ) → (length (cell_shown a w) ≡ 0 → ⊥) → cell_shown a w ≡ cell_line a w
unfolding cell_shown
shown_some a w n = by_test (both (leb a 999) (is_word w)) n
  where
    by_test : (t : Bool) → (length (pick t (cell_line a w) []) ≡ 0 → ⊥) → pick t (cell_line a w) [] ≡ cell_line a w
    by_test true k = refl
    by_test false k = absurd (k refl)

pub line_some : (a : ℕ) (x : Cell) → (length (line_of a x) ≡ 0 → ⊥) → line_of a x ≡ cell_line a (shown x)
line_some a None n = absurd (n refl)
line_some a (Some w) n = shown_some a w n

pub line_none : (l : List ℕ) → length l ≡ 0 → l ≡ []
line_none [] e = refl
line_none (x ∷ l) e = absurd (let z : ⊥ = omega (arith, e) in z)

line_short : (a : ℕ) (x : Cell) → length (line_of a x) ≤ 44
unfolding cell_shown
line_short a None = omega arith
line_short a (Some w) = by_test (both (leb a 999) (is_word w))
  where
    by_test : (t : Bool) → length (pick t (cell_line a w) []) ≤ 44
    by_test true = omega (arith, length_cell a w)
    by_test false = omega arith

-- ---- the lines of the first cells

pub upto_more : (v : List Cell) (a : ℕ) → lines_upto v (a + 1) ≡ lines_upto v a ++ line_of a (cell_at v a)
unfolding lines_upto
upto_more v a = ap (lines_upto v) (add-one a)

pub length_more : (v : List Cell) (a : ℕ) → length (lines_upto v (a + 1)) ≡ length (lines_upto v a) + length (line_of a (cell_at v a))
length_more v a = ap length (upto_more v a) ∙ length-append (lines_upto v a) (line_of a (cell_at v a))

pub upto_short : (v : List Cell) (a : ℕ) → length (lines_upto v a) ≤ 44 * a
unfolding lines_upto
upto_short v zero = omega arith
upto_short v (suc a) =
    omega (arith, length-append (lines_upto v a) (line_of a (cell_at v a)), upto_short v a, line_short a (cell_at v a))

-- the lines of a cells are no longer than those of k cells more
upto_rises : (v : List Cell) (a k : ℕ) → length (lines_upto v a) ≤ length (lines_upto v (a + k))
upto_rises v a zero = omega (arith, ap (λ (n : ℕ). length (lines_upto v n)) (let z : a + 0 ≡ a = omega arith in z))
upto_rises v a (suc k) =
    omega (arith, upto_rises v a k, length_more v (a + k), ap (λ (n : ℕ). length (lines_upto v n)) (let z : a + suc k ≡ a + k + 1 = omega arith in z))

pub upto_all : (v : List Cell) (a : ℕ) → a < 1000 → length (lines_upto v (a + 1)) ≤ length (lines_upto v 1000)
upto_all v a h =
    let k : ℕ = 1000 - (a + 1) in
    omega (arith, upto_rises v (a + 1) k, ap (λ (n : ℕ). length (lines_upto v n)) (let z : a + 1 + k ≡ 1000 = omega arith in z))
