-- A list of nine numbers is its nine elements: so the state in it has the same nine numbers, and the nine numbers of a state are the
-- same state. Assumes nothing.
use Prim.Native.Nat.{ℕ, zero, suc}
use mathlib.Core.Path.{◌≡◌, refl, ap, subst}
use mathlib.Core.List.{List, [], ◌∷◌}
use lib.ListN.{length, get_or, drop}
use native.Mathlib.Omega.{arith}
use Rattle.rules.specs.Machine.{counting}
use Rattle.rules.specs.States.{state_in, numbers_of}
use Rattle.rules.specs.declared.State.{State}

-- the first n elements, one by one
abbrev pub spelt : ℕ → List ℕ → List ℕ
spelt zero l = []
spelt (suc n) l = get_or l 0 0 ∷ spelt n (drop 1 l)

pub spelt_whole : (n : ℕ) (l : List ℕ) → length l ≡ n → spelt n l ≡ l
spelt_whole zero [] h = refl
spelt_whole zero (x ∷ l) h = absurd (let z : ⊥ = omega arith in z)
spelt_whole (suc n) [] h = absurd (let z : ⊥ = omega arith in z)
spelt_whole (suc n) (x ∷ l) h = ap {B = List ℕ} (λ t. x ∷ t) (spelt_whole n l (omega arith))

pub kept : (l : List ℕ) → length l ≡ 9 → numbers_of (state_in l) ≡ l
kept l h = subst (λ (x : List ℕ). numbers_of (state_in x) ≡ x) (spelt_whole 9 l h) refl

-- a loop box has three counts
pub state_kept : (s : State) → length s.counts ≡ 3 → state_in (numbers_of s) ≡ s
state_kept s h =
    subst (λ (c : List ℕ). state_in (numbers_of (counting s c)) ≡ counting s c) (spelt_whole 3 s.counts h) refl

-- the order of the nine, by an example
nine : numbers_of (state_in (101 ∷ 1 ∷ 2 ∷ 3 ∷ 4 ∷ 7 ∷ 65 ∷ 1 ∷ 0 ∷ []))
    ≡ 101 ∷ 1 ∷ 2 ∷ 3 ∷ 4 ∷ 7 ∷ 65 ∷ 1 ∷ 0 ∷ []
nine = refl
