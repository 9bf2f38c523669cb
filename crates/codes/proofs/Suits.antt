-- Each row of the table suits, and so does what is looked up in it. Assumes nothing.
use Rattle.std.proofs.Common.{Some}
use Prim.Native.Nat.{ℕ}
use mathlib.Core.Path.{refl}
use mathlib.Core.Bool.{Bool, true, false}
use mathlib.Core.List.{List, [], ◌∷◌}
use lib.Dec.{eqb}
use Rattle.rules.specs.Words.{pick}
use Rattle.rules.specs.Codes.{Row, codes, lookup}
use Rattle.codes.specs.Suits.{Suits, SuitsBuilt}

abbrev AllSuit : List Row → Type 0
AllSuit [] = Unit {0}
AllSuit (r ∷ rs) = Suits r.operation r.class × AllSuit rs

rows_suit : (k : ℕ) (rs : List Row) → AllSuit rs → SuitsBuilt (lookup k rs)
unfolding lookup
rows_suit k [] h = tt
rows_suit k (r ∷ rs) h = by_test (eqb k r.code) (rows_suit k rs h.1)
  where
    by_test : (t : Bool) → SuitsBuilt (lookup k rs) → SuitsBuilt (pick t (Some (r.operation, r.class)) (lookup k rs))
    by_test true s = h.0
    by_test false s = s

pub suits : (k : ℕ) → SuitsBuilt (lookup k codes)
unfolding codes
suits k =
    rows_suit k codes
    (refl, (refl, (refl, (refl, (refl, (refl, (refl, (refl, (refl, (refl, (refl, (refl, (refl, (refl, (refl, (refl, (refl, (refl, (refl, (refl, (refl, (refl, (refl, (refl, (refl, (refl, (refl, (refl, (refl, (refl, (refl, (refl, (refl, (refl, (refl, (refl, (refl, (refl, (refl, (refl, tt))))))))))))))))))))))))))))))))))))))))
