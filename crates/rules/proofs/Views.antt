-- Laws of the view, the marks and the overlay. Each goes cell by cell along the lists. Assumes nothing.
use Rattle.std.proofs.Common.{None, Some}
use Prim.Native.Nat.{ℕ, zero, suc, ◌≤◌, ◌<◌}
use mathlib.Core.Path.{◌≡◌, refl, sym, ap, ◌∙◌}
use mathlib.Core.List.{List, [], ◌∷◌}
use mathlib.Core.Bool.{Bool, true}
use native.Mathlib.Nat.{suc_inj, not-suc-le-zero, le_of_suc-le-suc}
use native.Mathlib.Omega.{arith}
use lib.Dec.{eqb, leb}
use lib.ListN.{length, get_or, set}
use borrow.Author.Tests.{leb-true, eqb-true}
use Rattle.rules.specs.Words.{both}
use Rattle.rules.specs.Drum.{cell_of, view, store, mark_of, marks_of, number_over, overlay, marks_fit, words_fit, drum_fits}
use Rattle.rules.specs.Answers.{Cell}
use Rattle.rules.proofs.Tests.{both_first, both_second}

-- ---- lengths

pub length-overlay : (ds : List ℕ) (v : List Cell) → length (overlay ds v) ≡ length ds
unfolding overlay
length-overlay [] v = refl
length-overlay (d ∷ ds) [] = refl
length-overlay (d ∷ ds) (c ∷ v) = ap suc (length-overlay ds v)

-- ---- the lent drum and marks, from their own view

number_again : (m d : ℕ) → number_over (cell_of m d) d ≡ d
number_again zero d = refl
number_again (suc m) d = refl

pub overlay_view : (ds ms : List ℕ) → overlay ds (view ds ms) ≡ ds
unfolding view overlay
overlay_view [] ms = refl
overlay_view (d ∷ ds) [] = refl
overlay_view (d ∷ ds) (m ∷ ms) = simp (number_again m d, overlay_view ds ms)

mark_again : (m d : ℕ) → m ≤ 1 → mark_of (cell_of m d) ≡ m
mark_again zero d h = refl
mark_again (suc m) d h = omega arith

pub marks_view : (ds ms : List ℕ) → length ds ≡ length ms → marks_fit ms ≡ true → marks_of (view ds ms) ≡ ms
unfolding view marks_of marks_fit
marks_view [] [] e h = refl
marks_view [] (m ∷ ms) e h = let z : ⊥ = omega arith in absurd z
marks_view (d ∷ ds) [] e h = let z : ⊥ = omega arith in absurd z
marks_view (d ∷ ds) (m ∷ ms) e h =
    simp (mark_again m d (leb-true m 1 (both_first (leb m 1) (marks_fit ms) h)), marks_view ds ms (suc_inj e) (both_second (leb m 1) (marks_fit ms) h))

-- ---- what check 10 tells of the lent drum and marks

pub record Fit (drum marks : List ℕ) : Type 0 where
  pub drum_long : length drum ≡ 1000
  pub marks_long : length marks ≡ 1000
  pub marks_fit_lem : marks_fit marks ≡ true
  pub words_fit_lem : words_fit (view drum marks) ≡ true

pub fit : (drum marks : List ℕ) → drum_fits (length drum) marks (view drum marks) ≡ true → Fit drum marks
unfolding drum_fits
fit drum marks e =
    let sizes : Bool = both (eqb (length drum) 1000) (eqb (length marks) 1000) in
    let words : Bool = both (marks_fit marks) (words_fit (view drum marks)) in
    let l : sizes ≡ true = both_first sizes words e in
    let r : words ≡ true = both_second sizes words e in
    record {
      drum_long = eqb-true (length drum) 1000 (both_first (eqb (length drum) 1000) (eqb (length marks) 1000) l);
      marks_long = eqb-true (length marks) 1000 (both_second (eqb (length drum) 1000) (eqb (length marks) 1000) l);
      marks_fit_lem = both_first (marks_fit marks) (words_fit (view drum marks)) r;
      words_fit_lem = both_second (marks_fit marks) (words_fit (view drum marks)) r;
    }

pub marks_again : (drum marks : List ℕ) → Fit drum marks → marks_of (view drum marks) ≡ marks
marks_again drum marks f = marks_view drum marks (f.drum_long ∙ sym f.marks_long) f.marks_fit_lem

-- ---- a cell that is unmarked in the end

-- no cell of v that has become foreign in v' was owned: marks are never taken away
abbrev pub Grows : List Cell → List Cell → Type 0
Grows v v' = (i : ℕ) → get_or (marks_of v') i 0 ≡ 0 → get_or (marks_of v) i 0 ≡ 0

pub store_grows : (v : List Cell) (a w : ℕ) → Grows v (store v a w)
unfolding marks_of
store_grows [] a w i e = e
store_grows (c ∷ v) zero w zero e = omega arith
store_grows (c ∷ v) zero w (suc i) e = e
store_grows (c ∷ v) (suc a) w zero e = e
store_grows (c ∷ v) (suc a) w (suc i) e = store_grows v a w i e

number_kept : (c : Cell) (d : ℕ) → mark_of c ≡ 0 → number_over c d ≡ d
number_kept None d e = refl
number_kept (Some w) d e = let z : ⊥ = omega arith in absurd z

pub overlay_kept : (ds : List ℕ) (v : List Cell) (i : ℕ) → get_or (marks_of v) i 0 ≡ 0 → get_or (overlay ds v) i 0 ≡ get_or ds i 0
unfolding overlay marks_of
overlay_kept [] v i e = refl
overlay_kept (d ∷ ds) [] i e = refl
overlay_kept (d ∷ ds) (c ∷ v) zero e = number_kept c d e
overlay_kept (d ∷ ds) (c ∷ v) (suc i) e = overlay_kept ds v i e

-- ---- what code that has the lent drum and marks needs to know

pub length-view : (ds ms : List ℕ) → length ds ≡ length ms → length (view ds ms) ≡ length ds
unfolding view
length-view [] ms e = refl
length-view (d ∷ ds) [] e = sym e
length-view (d ∷ ds) (m ∷ ms) e = ap suc (length-view ds ms (suc_inj e))

pub length_marks : (v : List Cell) → length (marks_of v) ≡ length v
unfolding marks_of
length_marks [] = refl
length_marks (c ∷ v) = ap suc (length_marks v)

cell_again : (c : Cell) (d : ℕ) → cell_of (mark_of c) (number_over c d) ≡ c
cell_again None d = refl
cell_again (Some w) d = refl

-- the cells that drum and marks show are the cells that were laid over
pub view_again : (ds : List ℕ) (v : List Cell) → length ds ≡ length v → view (overlay ds v) (marks_of v) ≡ v
unfolding view marks_of overlay
view_again [] [] e = refl
view_again [] (c ∷ v) e = let z : ⊥ = omega arith in absurd z
view_again (d ∷ ds) [] e = let z : ⊥ = omega arith in absurd z
view_again (d ∷ ds) (c ∷ v) e = simp (cell_again c d, view_again ds v (suc_inj e))

-- a store
pub marks_store : (v : List Cell) (a w : ℕ) → set (marks_of v) a 1 ≡ marks_of (store v a w)
unfolding marks_of
marks_store [] a w = refl
marks_store (c ∷ v) zero w = refl
marks_store (c ∷ v) (suc a) w = ap (λ (l : List ℕ). mark_of c ∷ l) (marks_store v a w)

pub overlay-store : (ds : List ℕ) (v : List Cell) (a w : ℕ) → a < length v → set (overlay ds v) a w ≡ overlay ds (store v a w)
unfolding overlay
overlay-store ds [] a w h = absurd (not-suc-le-zero h)
overlay-store [] (c ∷ v) a w h = refl
overlay-store (d ∷ ds) (c ∷ v) zero w h = refl
overlay-store (d ∷ ds) (c ∷ v) (suc a) w h = ap (λ (l : List ℕ). number_over c d ∷ l) (overlay-store ds v a w (le_of_suc-le-suc h))
