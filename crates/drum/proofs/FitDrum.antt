-- Check 10, cell by cell: that each cell fits is what the whole asks. Assumes nothing.
use mathlib.Core.Path.{◌≡◌, refl, sym, ap, ap₂, ◌∙◌}
use mathlib.Core.List.{List, [], ◌∷◌}
use mathlib.Core.Bool.{Bool, true, false, ◌&&◌}
use Prim.Native.Nat.{ℕ, zero, suc, ◌+◌, ◌≤◌, ◌<◌}
use native.Mathlib.Numerals.{add-one}
use native.Mathlib.Omega.{arith}
use lib.Dec.{leb}
use lib.ListN.{length, get_or, drop, drop_of_length-le}
use lib.Seq.{drop-cons}
use borrow.Author.Tests.{eq-eqb, ne_eqb, le-leb, lt-leb}
use Rattle.std.specs.List.{list_all, zip}
use Rattle.rules.specs.Words.{both}
use Rattle.rules.specs.Drum.{cell_of, view, marks_fit, word_fits, words_fit, drum_fits}

abbrev pub fits : ℕ × ℕ → Bool
fits p = both (leb p.0 1) (word_fits (cell_of p.0 p.1))

swapped : (p q r s : Bool) → both (both p q) (both r s) ≡ both (both p r) (both q s)
swapped true true r s = refl
swapped true false true s = refl
swapped true false false s = refl
swapped false q r s = refl

cells_fit : (drum marks : List ℕ) → length drum ≡ length marks
    → list_all fits (zip marks drum) ≡ both (marks_fit marks) (words_fit (view drum marks))
unfolding marks_fit view words_fit
cells_fit [] [] e = refl
cells_fit [] (m ∷ ms) e = absurd (omega arith)
cells_fit (d ∷ ds) [] e = absurd (omega arith)
cells_fit (d ∷ ds) (m ∷ ms) e =
    ap (λ (x : Bool). fits (m, d) && x) (cells_fit ds ms (omega arith))
    ∙ same (fits (m, d)) (both (marks_fit ms) (words_fit (view ds ms)))
    ∙ swapped (leb m 1) (word_fits (cell_of m d)) (marks_fit ms) (words_fit (view ds ms))
  where
    same : (x y : Bool) → (x && y) ≡ both x y
    same true y = refl
    same false y = refl

abbrev pub whole : List ℕ → List ℕ → Bool
whole drum marks = drum_fits (length drum) marks (view drum marks)

pub short_drum : (drum marks : List ℕ) → (length drum ≡ 1000 → ⊥) → false ≡ whole drum marks
unfolding drum_fits
short_drum drum marks n = simp (ne_eqb (length drum) 1000 n)

pub short_marks : (drum marks : List ℕ) → length drum ≡ 1000 → (length marks ≡ 1000 → ⊥) → false ≡ whole drum marks
unfolding drum_fits
short_marks drum marks e n = simp (eq-eqb (length drum) 1000 e, ne_eqb (length marks) 1000 n)

pub long_enough : (drum marks : List ℕ) → length drum ≡ 1000 → length marks ≡ 1000 → list_all fits (zip marks drum) ≡ whole drum marks
unfolding drum_fits
long_enough drum marks e f =
    simp (eq-eqb (length drum) 1000 e, eq-eqb (length marks) 1000 f) (cells_fit drum marks (e ∙ sym f))
