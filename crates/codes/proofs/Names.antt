-- Every name is ten letters long, by one test over the whole table. Assumes nothing.
use Prim.Native.Nat.{ℕ}
use mathlib.Core.Path.{◌≡◌, refl}
use mathlib.Core.Bool.{Bool, true, false}
use mathlib.Core.List.{List, [], ◌∷◌}
use borrow.Author.Tests.{eqb-true}
use lib.Dec.{eqb}
use lib.ListN.{length}
use Rattle.rules.specs.Words.{pick, both}
use Rattle.rules.specs.Bytes.{bytes}
use Rattle.rules.specs.Codes.{Row, codes, name_in}
use Rattle.rules.proofs.Tests.{both_first, both_second}

abbrev all_ten : List Row → Bool
all_ten [] = true
all_ten (r ∷ rs) = both (eqb (length r.name) 10) (all_ten rs)

ten_in : (k : ℕ) (rs : List Row) → all_ten rs ≡ true → length (name_in k rs) ≡ 10
unfolding name_in bytes
ten_in k [] h = refl
ten_in k (r ∷ rs) h = by_test (eqb k r.code) (ten_in k rs (both_second (eqb (length r.name) 10) (all_ten rs) h))
  where
    by_test : (t : Bool) → length (name_in k rs) ≡ 10 → length (pick t r.name (name_in k rs)) ≡ 10
    by_test true e = eqb-true (length r.name) 10 (both_first (eqb (length r.name) 10) (all_ten rs) h)
    by_test false e = e

pub name_ten : (k : ℕ) → length (name_in k codes) ≡ 10
unfolding codes bytes
name_ten k = ten_in k codes refl
