-- The table by the number of its row: what stands in the first row with a code is what the rules find for the code. Assumes nothing.
use Rattle.std.proofs.Common.{None, Some}
use Prim.Native.Nat.{ℕ, zero, suc, ◌+◌, ◌≤◌, ◌<◌}
use mathlib.Core.Path.{◌≡◌, refl, ap}
use mathlib.Core.Bool.{Bool, true, false}
use mathlib.Core.List.{List, [], ◌∷◌}
use native.Mathlib.Nat.{le_of_suc-le-suc, zero-add}
use native.Mathlib.Numerals.{add-one}
use native.Mathlib.Omega.{arith}
use borrow.Author.Tests.{eq-eqb, ne_eqb}
use lib.Dec.{eqb}
use lib.ListN.{length, drop}
use Rattle.rules.specs.Words.{pick}
use Rattle.rules.specs.Codes.{Row, codes, lookup, name_in}
use Rattle.codes.specs.Rows.{row_in, row_built, name_at, code_at}

pub found : (k : ℕ) (rs : List Row) → row_built (row_in k rs) rs ≡ lookup k rs
unfolding lookup row_in
found k [] = refl
found k (r ∷ rs) = by_test (eqb k r.code) (found k rs)
  where
    by_test : (t : Bool) → row_built (row_in k rs) rs ≡ lookup k rs
        → row_built (pick t 0 (suc (row_in k rs))) (r ∷ rs) ≡ pick t (Some (r.operation, r.class)) (lookup k rs)
    by_test true e = refl
    by_test false e = e

pub named : (k : ℕ) (rs : List Row) → name_at (row_in k rs) rs ≡ name_in k rs
unfolding name_in row_in
named k [] = refl
named k (r ∷ rs) = by_test (eqb k r.code) (named k rs)
  where
    by_test : (t : Bool) → name_at (row_in k rs) rs ≡ name_in k rs → name_at (pick t 0 (suc (row_in k rs))) (r ∷ rs) ≡ pick t r.name (name_in k rs)
    by_test true e = refl
    by_test false e = e

-- ---- numbers that no row has

unbuilt : (rs : List Row) (n : ℕ) → length rs ≤ n → None ≡ row_built n rs
unbuilt [] n l = refl
unbuilt (r ∷ rs) zero l = let z : ⊥ = omega arith in absurd z
unbuilt (r ∷ rs) (suc n) l = unbuilt rs n (le_of_suc-le-suc l)

pub no_row : (n : ℕ) → 40 ≤ n → None ≡ row_built n codes
unfolding codes
no_row n l = unbuilt codes n l

-- none of the numbers below n
abbrev pub NoneBelow : ℕ → ℕ → Type 0
NoneBelow zero x = Unit {0}
NoneBelow (suc n) x = NoneBelow n x × (x ≡ n → ⊥)

pub past : (n x : ℕ) → NoneBelow n x → n ≤ x
past zero x t = omega arith
past (suc n) x t = let p : n ≤ x = past n x t.0 in omega (arith, t.1)

-- ---- the search for the row of a code: what is left of the table has the answer of the whole

row_here : (k i : ℕ) (rs : List Row) → i < length rs → code_at i rs ≡ k → row_in k (drop i rs) ≡ 0
unfolding row_in
row_here k i [] l e = absurd (let z : ⊥ = omega arith in z)
row_here k zero (r ∷ rs) l e = simp (eq-eqb k r.code (omega (arith, e)))
row_here k (suc i) (r ∷ rs) l e = row_here k i rs (le_of_suc-le-suc l) e

row_next : (k i : ℕ) (rs : List Row) → i < length rs → (code_at i rs ≡ k → ⊥) → row_in k (drop i rs) ≡ suc (row_in k (drop (suc i) rs))
unfolding row_in
row_next k i [] l n = absurd (let z : ⊥ = omega arith in z)
row_next k zero (r ∷ rs) l n = simp (ne_eqb k r.code (λ e. n (omega (arith, e))))
row_next k (suc i) (r ∷ rs) l n = row_next k i rs (le_of_suc-le-suc l) n

-- the rows before i have another code
pub record Searched (k i : ℕ) : Type 0 where
  pub upto : i ≤ 40
  pub same : i + row_in k (drop i codes) ≡ row_in k codes

pub search_begin : (k : ℕ) → Searched k 0
search_begin k = record { upto = omega arith; same = zero-add (row_in k codes) }

module _ (k i : ℕ) (h : Searched k i) where
  pub search_found : i < 40 → code_at i codes ≡ k → i ≡ row_in k codes
  unfolding codes
  search_found l e = omega (arith, row_here k i codes l e, h.same)

  pub search_more : i < 40 → (code_at i codes ≡ k → ⊥) → Searched k (i + 1)
  unfolding codes
  search_more l n = record {
    upto = omega arith;
    same = omega (arith, row_next k i codes l n, h.same, ap (λ (j : ℕ). row_in k (drop j codes)) (add-one i));
  }

  pub search_end : 40 ≤ i → i ≡ row_in k codes
  unfolding codes row_in
  search_end l =
      let z : i ≡ 40 = omega (arith, h.upto) in
      omega (arith, h.same, ap (λ (j : ℕ). row_in k (drop j codes)) z)
