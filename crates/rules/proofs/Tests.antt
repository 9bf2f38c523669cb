-- Tests: two together, and two of which each follows from the other. Assumes nothing.
use Prim.Native.Nat.{ℕ, ◌≤◌}
use mathlib.Core.Path.{◌≡◌, refl, sym, ◌∙◌}
use mathlib.Core.Bool.{Bool, true, false}
use native.Mathlib.Omega.{arith}
use lib.Dec.{leb}
use borrow.Author.Tests.{leb-true, le-leb}
use Rattle.rules.specs.Words.{both}

pub false_true : {A : Type 0} → false ≡ true → A
false_true t = let z : ◌≡◌ {A = ℕ} 0 1 = cc in absurd (omega arith)

pub both_first : (a b : Bool) → both a b ≡ true → a ≡ true
both_first true b t = refl
both_first false b t = t

pub both_second : (a b : Bool) → both a b ≡ true → b ≡ true
both_second true b t = t
both_second false b t = false_true t

pub same_test : (a b x y : ℕ) → (a ≤ b → x ≤ y) → (x ≤ y → a ≤ b) → leb a b ≡ leb x y
same_test a b x y forth back = by_test (leb a b) refl
  where
    by_test : (t : Bool) → leb a b ≡ t → t ≡ leb x y
    by_test true p = sym (le-leb x y (forth (leb-true a b p)))
    by_test false p = sym (by_other (leb x y) refl)
      where
        by_other : (o : Bool) → leb x y ≡ o → o ≡ false
        by_other false q = refl
        by_other true q = false_true (sym p ∙ le-leb a b (back (leb-true x y q)))
