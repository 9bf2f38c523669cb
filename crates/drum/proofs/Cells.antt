-- A cell of a lent drum and its marks, by its mark and its number, and what cells are held after a store. Assumes nothing.
use Rattle.std.proofs.Common.{None, Some}
use Prim.Native.Nat.{ℕ, zero, suc, ◌≤◌, ◌<◌}
use mathlib.Core.Path.{◌≡◌, refl, sym, ap, ◌∙◌}
use mathlib.Core.List.{List, [], ◌∷◌}
use mathlib.Core.Bool.{Bool, true, false}
use native.Mathlib.Nat.{not-suc-le-zero, le_of_suc-le-suc}
use native.Mathlib.Omega.{arith}
use lib.ListN.{length, get_or, set, length-set}
use borrow.Author.Tests.{lt-ltb}
use Rattle.rules.specs.Words.{pick}
use Rattle.rules.specs.Drum.{cell_of, view, cell_at, store}
use Rattle.rules.specs.Answers.{Cell}
use Rattle.rules.proofs.Views.{length-overlay, length_marks, marks_store, overlay-store, view_again}
use Rattle.drum.specs.Held.{Words, Holds, is_cell, Stored}

-- ---- of any runs

pub past_drum : (ds ms : List ℕ) (a : ℕ) → length ds ≤ a → None ≡ cell_at (view ds ms) a
unfolding view
past_drum [] ms a h = refl
past_drum (d ∷ ds) [] a h = refl
past_drum (d ∷ ds) (m ∷ ms) zero h = absurd (not-suc-le-zero h)
past_drum (d ∷ ds) (m ∷ ms) (suc a) h = past_drum ds ms a (le_of_suc-le-suc h)

pub past_marks : (ds ms : List ℕ) (a : ℕ) → length ms ≤ a → None ≡ cell_at (view ds ms) a
unfolding view
past_marks [] ms a h = refl
past_marks (d ∷ ds) [] a h = refl
past_marks (d ∷ ds) (m ∷ ms) zero h = absurd (not-suc-le-zero h)
past_marks (d ∷ ds) (m ∷ ms) (suc a) h = past_marks ds ms a (le_of_suc-le-suc h)

foreign_by : (m d : ℕ) → m ≡ 0 → None ≡ cell_of m d
foreign_by m d e = rw e

owned_by : (m d : ℕ) → (m ≡ 0 → ⊥) → Some d ≡ cell_of m d
owned_by zero d n = absurd (n refl)
owned_by (suc m) d n = refl

cell_at_lem : (ds ms : List ℕ) (a : ℕ) → a < length ds → a < length ms → cell_of (get_or ms a 0) (get_or ds a 0) ≡ cell_at (view ds ms) a
unfolding view
cell_at_lem [] ms a h k = absurd (not-suc-le-zero h)
cell_at_lem (d ∷ ds) [] a h k = absurd (not-suc-le-zero k)
cell_at_lem (d ∷ ds) (m ∷ ms) zero h k = refl
cell_at_lem (d ∷ ds) (m ∷ ms) (suc a) h k = cell_at_lem ds ms a (le_of_suc-le-suc h) (le_of_suc-le-suc k)

module _ (ds ms : List ℕ) (a : ℕ) (h : a < length ds) (k : a < length ms) where
  pub unmarked : get_or ms a 0 ≡ 0 → None ≡ cell_at (view ds ms) a
  unmarked e = foreign_by (get_or ms a 0) (get_or ds a 0) e ∙ cell_at_lem ds ms a h k

  pub marked : (get_or ms a 0 ≡ 0 → ⊥) → Some (get_or ds a 0) ≡ cell_at (view ds ms) a
  marked n = owned_by (get_or ms a 0) (get_or ds a 0) n ∙ cell_at_lem ds ms a h k

-- ---- of runs that hold cells

store_words : (v : List Cell) (a w : ℕ) → w ≤ 19999999999 → Words v → Words (store v a w)
store_words [] a w g h i = h i
store_words (c ∷ v) zero w g h zero = g
store_words (c ∷ v) zero w g h (suc i) = h (suc i)
store_words (c ∷ v) (suc a) w g h zero = h 0
store_words (c ∷ v) (suc a) w g h (suc i) = store_words v a w g (λ j. h (suc j)) i

module _ {drum₀ drum marks : List ℕ} {v : List Cell} (h : Holds drum₀ drum marks v) where
  -- the cells are those that the drum and the marks show
  pub seen : view drum marks ≡ v
  seen = rw (h.drum_is, h.marks_are) (view_again drum₀ v (h.old_long ∙ sym h.long))

  pub drum_long : length drum ≡ 1000
  drum_long = ap length h.drum_is ∙ length-overlay drum₀ v ∙ h.old_long

  pub marks_long : length marks ≡ 1000
  marks_long = ap length h.marks_are ∙ length_marks v ∙ h.long

  pub kept : {d k : List ℕ} (a w : ℕ) → a < 1000 → w ≤ 19999999999 → Stored drum marks a w d k → Holds drum₀ d k (store v a w)
  kept {d} {k} a w l g s =
      let e : is_cell drum marks a ≡ true = simp (lt-ltb a (length drum) (omega (arith, drum_long)), lt-ltb a (length marks) (omega (arith, marks_long))) in
      record {
        drum_is =
            s.drum_is
            ∙ ap (λ (t : Bool). pick t (set drum a w) drum) e
            ∙ ap (λ (x : List ℕ). set x a w) h.drum_is
            ∙ overlay-store drum₀ v a w (omega (arith, h.long));
        marks_are =
            s.marks_are
            ∙ ap (λ (t : Bool). pick t (set marks a 1) marks) e
            ∙ ap (λ (x : List ℕ). set x a 1) h.marks_are
            ∙ marks_store v a w;
        old_long = h.old_long;
        long = length-set v a (Some w) ∙ h.long;
        words = store_words v a w g h.words;
      }

-- ---- what a store leaves

pub not_stored : (drum marks : List ℕ) (a w : ℕ) → is_cell drum marks a ≡ false → Stored drum marks a w drum marks
not_stored drum marks a w e = record { drum_is = rw e; marks_are = rw e }

pub stored : (drum marks : List ℕ) (a w : ℕ) → a < length drum → a < length marks → Stored drum marks a w (set drum a w) (set marks a 1)
stored drum marks a w h k =
    let e : is_cell drum marks a ≡ true = simp (lt-ltb a (length drum) h, lt-ltb a (length marks) k) in record { drum_is = rw e; marks_are = rw e }
