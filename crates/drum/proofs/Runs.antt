-- A block whose cells are all marked, cell by cell, and its words as those of a card. Assumes nothing.
use Prim.Native.Nat.{ℕ, zero, suc, ◌+◌, ◌≤◌, ◌<◌, min}
use mathlib.Core.Path.{◌≡◌, refl, sym, ap, ◌∙◌}
use mathlib.Core.List.{List}
use mathlib.Core.Bool.{Bool, true, false, ◌&&◌}
use native.Mathlib.Omega.{arith}
use lib.Dec.{leb}
use lib.ListN.{length, take}
use borrow.Author.Tests.{leb-true, leb-false}
use Rattle.std.specs.List.{list_all, range_with_len}
use Rattle.rules.specs.Words.{both}
use Rattle.rules.specs.Drum.{view, is_owned, shown, word_at}
use Rattle.rules.specs.Codes.{owned_at, owned_from}
use Rattle.rules.specs.Orders.{words_from}
use Rattle.rules.specs.Answers.{Cell}
use Rattle.drum.specs.Blocks.{first_words}
use Rattle.drum.proofs.Cells.{past_drum}

module _ (v : List Cell) where
  -- the first of the cells may be looked at first
  owned_first : (n b : ℕ) → owned_from v b (suc n) ≡ both (owned_at v b) (owned_from v (b + 1) n)
  unfolding owned_from
  owned_first zero b = ap (λ (i : ℕ). owned_at v i) (omega arith) ∙ alone (owned_at v b)
    where
      alone : (x : Bool) → x ≡ both x true
      alone true = refl
      alone false = refl
  owned_first (suc n) b =
      ap (λ (x : Bool). both x (owned_at v (b + suc n))) (owned_first n b)
      ∙ grouped (owned_at v b) (owned_from v (b + 1) n) (owned_at v (b + suc n))
      ∙ ap (λ (i : ℕ). both (owned_at v b) (both (owned_from v (b + 1) n) (owned_at v i))) (omega arith)
    where
      grouped : (x y z : Bool) → both (both x y) z ≡ both x (both y z)
      grouped true y z = refl
      grouped false y z = refl

  pub owned_in_range : (n b : ℕ) → list_all (owned_at v) (range_with_len b n) ≡ owned_from v b n
  unfolding owned_from
  owned_in_range zero b = refl
  owned_in_range (suc n) b =
      ap (λ (x : Bool). owned_at v b && x) (owned_in_range n (b + 1)) ∙ same (owned_at v b) _ ∙ sym (owned_first n b)
    where
      same : (x y : Bool) → (x && y) ≡ both x y
      same true y = refl
      same false y = refl

-- past the drum nothing is marked, and nothing is shown
module _ (drum marks : List ℕ) (a : ℕ) (l : length drum ≤ a) where
  pub unowned_past : owned_at (view drum marks) a ≡ false
  unowned_past = ap is_owned (sym (past_drum drum marks a l))

  pub nothing_past : 0 ≡ word_at (view drum marks) a
  nothing_past = ap shown (past_drum drum marks a l)

-- cells that end past the drum are not all marked, and none is shown there
pub owned_past : (drum marks : List ℕ) (b n : ℕ) → 0 < n → length drum < b + n → false ≡ owned_from (view drum marks) b n
unfolding owned_from
owned_past drum marks b zero k l = absurd (omega arith)
owned_past drum marks b (suc n) k l = rw (unowned_past drum marks (b + n) (omega arith)) (none (owned_from (view drum marks) b n))
  where
    none : (x : Bool) → false ≡ both x false
    none true = refl
    none false = refl

pub shown_past : (drum marks : List ℕ) (a m : ℕ) → length drum ≤ m → word_at (view drum marks) (min a m) ≡ word_at (view drum marks) a
shown_past drum marks a m l = by_place (leb m a) refl
  where
    by_place : (t : Bool) → leb m a ≡ t → word_at (view drum marks) (min a m) ≡ word_at (view drum marks) a
    by_place true u =
        let k = leb-true m a u in
        sym (nothing_past drum marks (min a m) (omega arith)) ∙ nothing_past drum marks a (omega arith)
    by_place false u = let k = leb-false m a u in ap (λ (i : ℕ). word_at (view drum marks) i) (omega arith)

-- of no more than five words none is left out
pub gathered : (v : List Cell) (b n : ℕ) → n ≤ 5 → take n (first_words v b n) ≡ words_from v b n
unfolding words_from
gathered v b zero l = refl
gathered v b (suc zero) l = refl
gathered v b (suc (suc zero)) l = refl
gathered v b (suc (suc (suc zero))) l = refl
gathered v b (suc (suc (suc (suc zero)))) l = refl
gathered v b (suc (suc (suc (suc (suc zero))))) l = refl
gathered v b (suc (suc (suc (suc (suc (suc n)))))) l = let z : ⊥ = omega arith in absurd z
