-- What holds of the machine between any two orders of a run that passed its entry checks: its cells and state would pass them again.
-- Each order stores words alone and keeps every number of the state within its bounds. Assumes nothing.
use Rattle.std.proofs.Common.{None, Some}
use Prim.Native.Nat.{ℕ, zero, suc, ◌≤◌}
use mathlib.Core.Path.{◌≡◌, refl, ap, ◌∙◌}
use mathlib.Core.List.{List, [], ◌∷◌}
use mathlib.Core.Bool.{true}
use native.Mathlib.Omega.{arith}
use lib.Dec.{leb}
use lib.ListN.{length}
use borrow.Author.Tests.{leb-true, le-leb}
use Rattle.rules.specs.Words.{is_word}
use Rattle.rules.specs.Drum.{cell_at, word_at, store, is_owned, marks_of, marks_fit, word_fits, words_fit}
use Rattle.rules.specs.Decks.{may_stand}
use Rattle.rules.specs.Machine.{count_a, count_b, count_c}
use Rattle.rules.specs.Running.{box_fits, state_fits}
use Rattle.rules.specs.Answers.{Cell}
use Rattle.rules.specs.declared.State.{State}
use Rattle.rules.proofs.Tests.{both_first, both_second}

-- ---- cells

pub record Cells (v : List Cell) : Type 0 where
  pub long : length v ≡ 1000
  pub words : (a : ℕ) → word_at v a ≤ 19999999999
  pub owned : is_owned (cell_at v 0) ≡ true

pub all_words : (v : List Cell) → words_fit v ≡ true → (a : ℕ) → word_at v a ≤ 19999999999
unfolding words_fit
all_words [] e a = omega arith
all_words (None ∷ v) e zero = omega arith
all_words (Some w ∷ v) e zero = leb-true w 19999999999 (both_first (is_word w) (words_fit v) e)
all_words (c ∷ v) e (suc a) = all_words v (both_second (word_fits c) (words_fit v) e) a

pub words_fit_lem : (v : List Cell) → ((a : ℕ) → word_at v a ≤ 19999999999) → words_fit v ≡ true
unfolding words_fit
words_fit_lem [] h = refl
words_fit_lem (None ∷ v) h = words_fit_lem v (λ a. h (suc a))
words_fit_lem (Some w ∷ v) h = rw (le-leb w 19999999999 (h 0)) (words_fit_lem v (λ a. h (suc a)))

pub marks_of_fit : (v : List Cell) → marks_fit (marks_of v) ≡ true
unfolding marks_fit marks_of
marks_of_fit [] = refl
marks_of_fit (None ∷ v) = marks_of_fit v
marks_of_fit (Some w ∷ v) = marks_of_fit v

store_long : (v : List Cell) (a w : ℕ) → length (store v a w) ≡ length v
store_long [] a w = refl
store_long (c ∷ v) zero w = refl
store_long (c ∷ v) (suc a) w = ap suc (store_long v a w)

store_words : (v : List Cell) (a w : ℕ) → w ≤ 19999999999 → ((k : ℕ) → word_at v k ≤ 19999999999) → (k : ℕ) → word_at (store v a w) k ≤ 19999999999
store_words [] a w g h i = h i
store_words (c ∷ v) zero w g h zero = g
store_words (c ∷ v) zero w g h (suc i) = h (suc i)
store_words (c ∷ v) (suc a) w g h zero = h 0
store_words (c ∷ v) (suc a) w g h (suc i) = store_words v a w g (λ j. h (suc j)) i

store_owned : (v : List Cell) (a w : ℕ) → is_owned (cell_at v 0) ≡ true → is_owned (cell_at (store v a w) 0) ≡ true
store_owned [] a w e = e
store_owned (c ∷ v) zero w e = refl
store_owned (c ∷ v) (suc a) w e = e

pub cells_stored : {v : List Cell} (a w : ℕ) → w ≤ 19999999999 → Cells v → Cells (store v a w)
cells_stored {v} a w l h =
    record {
      long = store_long v a w ∙ h.long;
      words = store_words v a w l h.words;
      owned = store_owned v a w h.owned;
    }

pub cells_begun : (v : List Cell) → length v ≡ 1000 → words_fit v ≡ true → is_owned (cell_at v 0) ≡ true → Cells v
cells_begun v l f o = record { long = l; words = all_words v f; owned = o }

-- ---- the state

pub record Steady (deck : List ℕ) (behind : ℕ) (s : State) : Type 0 where
  pub location : s.location ≤ 1000
  pub of_a_lem : count_a s ≤ 999
  pub of_b_lem : count_b s ≤ 999
  pub of_c : count_c s ≤ 999
  pub counter : s.counter ≤ 9999
  pub problem : s.problem ≤ 999
  pub mode : s.mode ≤ 1
  pub tracing : s.tracing ≤ s.mode
  pub reader : may_stand deck behind s.reader ≡ true

-- Check 12 says just this, with cell 000 and the budget.
module _ (v : List Cell) (deck : List ℕ) (behind : ℕ) (s : State) (budget : ℕ) where
  pub steady_from : state_fits v deck behind s budget ≡ true → (budget ≤ 999999) × Steady deck behind s × (is_owned (cell_at v 0) ≡ true)
  unfolding state_fits
  steady_from e =
      let e₁ = both_second (leb budget 999999) _ e in
      let e₂ = both_second (leb s.location 1000) _ e₁ in
      let e₃ = both_second (box_fits s) _ e₂ in
      let e₄ = both_second (leb s.counter 9999) _ e₃ in
      let e₅ = both_second (leb s.problem 999) _ e₄ in
      let e₆ = both_second (leb s.mode 1) _ e₅ in
      let e₇ = both_second (leb s.tracing 1) _ e₆ in
      let e₈ = both_second (leb s.tracing s.mode) _ e₇ in
      let box = both_first (box_fits s) _ e₂ in
      let rest = both_second (leb (count_a s) 999) _ box in (
        leb-true budget 999999 (both_first (leb budget 999999) _ e),
        record {
          location = leb-true s.location 1000 (both_first (leb s.location 1000) _ e₁);
          of_a_lem = leb-true (count_a s) 999 (both_first (leb (count_a s) 999) _ box);
          of_b_lem = leb-true (count_b s) 999 (both_first (leb (count_b s) 999) _ rest);
          of_c = leb-true (count_c s) 999 (both_second (leb (count_b s) 999) _ rest);
          counter = leb-true s.counter 9999 (both_first (leb s.counter 9999) _ e₃);
          problem = leb-true s.problem 999 (both_first (leb s.problem 999) _ e₄);
          mode = leb-true s.mode 1 (both_first (leb s.mode 1) _ e₅);
          tracing = leb-true s.tracing s.mode (both_first (leb s.tracing s.mode) _ e₇);
          reader = both_second (is_owned (cell_at v 0)) _ e₈;
        },
        both_first (is_owned (cell_at v 0)) _ e₈,
      )

  pub steady_fits : budget ≤ 999999 → Steady deck behind s → is_owned (cell_at v 0) ≡ true → state_fits v deck behind s budget ≡ true
  unfolding state_fits
  steady_fits l h o =
      rw (
        le-leb budget 999999 l,
        le-leb s.location 1000 h.location,
        le-leb (count_a s) 999 h.of_a_lem,
        le-leb (count_b s) 999 h.of_b_lem,
        le-leb (count_c s) 999 h.of_c,
        le-leb s.counter 9999 h.counter,
        le-leb s.problem 999 h.problem,
        le-leb s.mode 1 h.mode,
        le-leb s.tracing 1 (omega (arith, h.tracing, h.mode)),
        le-leb s.tracing s.mode h.tracing,
        o,
      ) h.reader
