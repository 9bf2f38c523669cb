-- The blocks that are ahead of a cell: those of the drum, whatever steps they are looked for by, and what the next of them is. Assumes nothing.
use Rattle.std.proofs.Common.{None}
use Prim.Native.Nat.{ℕ, zero, suc, ◌+◌, ◌-◌, ◌≤◌, ◌<◌}
use native.Mathlib.Omega.{arith}
use mathlib.Core.Path.{◌≡◌, refl, sym, ap, ◌∙◌}
use mathlib.Core.List.{List, [], ◌∷◌}
use lib.ListN.{length, get_or-eq_default}
use Rattle.std.specs.List.{prefix_len, range_with_len}
use Rattle.rules.specs.Words.{pick}
use Rattle.rules.specs.Drum.{is_owned, view}
use Rattle.rules.specs.Codes.{owned_at}
use Rattle.rules.specs.Making.{Block, neighbours, blocks_from}
use Rattle.rules.specs.Answers.{Cell}
use Rattle.making.specs.Made.{Long, blocks_left}

-- neighbours are the marked ones at the start of a range
pub as_prefix : (v : List Cell) (a n : ℕ) → prefix_len (owned_at v) (range_with_len a n) ≡ neighbours v a n
unfolding neighbours
as_prefix v a zero = refl
as_prefix v a (suc n) = rw (as_prefix v (a + 1) n) (ap (λ (k : ℕ). pick (owned_at v a) k 0) (one_up (neighbours v (a + 1) n)))
  where
    one_up : (k : ℕ) → 1 + k ≡ suc k
    one_up k = omega arith

-- behind the last cell there are none
no_neighbour : (v : List Cell) (a : ℕ) → length v ≤ a → neighbours v a 5 ≡ 0
unfolding neighbours
no_neighbour v a l = rw (ap is_owned (get_or-eq_default v None l)) refl

none_from : (v : List Cell) (k a : ℕ) → length v ≤ a → blocks_from k v a ≡ []
unfolding blocks_from
none_from v zero a l = refl
none_from v (suc k) a l = rw (blocks_from, no_neighbour v a l) (none_from v k (a + 1) (omega arith))

-- steps past the last cell find no more
enough : (v : List Cell) (k j a : ℕ) → length v ≤ a + k → blocks_from (k + j) v a ≡ blocks_from k v a
unfolding blocks_from
enough v zero j a l = let z : 0 + j ≡ j = omega arith in rw (z, blocks_from) (none_from v j a (omega arith))
enough v (suc k) j a l =
    let z : suc k + j ≡ suc (k + j) = omega arith in rw z (by_run (neighbours v a 5) refl (λ (n : ℕ). enough v k j (a + n)))
  where
    by_run : (n : ℕ) → neighbours v a 5 ≡ n → ((m : ℕ) → length v ≤ a + m + k → blocks_from (k + j) v (a + m) ≡ blocks_from k v (a + m))
        → blocks_from (suc (k + j)) v a ≡ blocks_from (suc k) v a
    by_run zero e go = rw (blocks_from, e) (go 1 (omega arith))
    by_run (suc n) e go = rw (blocks_from, e) (ap (λ (bs : List Block). record { location = a; cells = suc n } ∷ bs) (go (suc n) (omega arith)))

module _ (drum marks : List ℕ) (a : ℕ) where
  pub none_left : 1000 ≤ a → blocks_left drum marks a ≡ []
  unfolding blocks_from
  none_left l = let z : 1000 - a ≡ 0 = omega arith in rw z refl

  pub left_passed : a < 1000 → neighbours (view drum marks) a 5 ≡ 0 → blocks_left drum marks a ≡ blocks_left drum marks (a + 1)
  unfolding blocks_from
  left_passed l e =
      let k : 1000 - a ≡ suc (1000 - (a + 1)) = omega arith in
      rw (k, blocks_from, e) refl

  pub left_taken : (n : ℕ) → a < 1000 → n ≡ neighbours (view drum marks) a 5 → 1 ≤ n → Long drum marks
      → blocks_left drum marks a ≡ record { location = a; cells = n } ∷ blocks_left drum marks (a + n)
  unfolding blocks_from
  left_taken zero l e s long = let z : ⊥ = omega arith in absurd z
  left_taken (suc m) l e s long =
      let k : 1000 - a ≡ suc (1000 - (a + 1)) = omega arith in
      by_steps (1000 - (a + 1)) k
    where
      by_steps : (k : ℕ) → 1000 - a ≡ suc k
          → blocks_from (1000 - a) (view drum marks) a ≡ record { location = a; cells = suc m } ∷ blocks_from (1000 - (a + suc m)) (view drum marks) (a + suc m)
      by_steps k q =
          let v = view drum marks in
          let more : k ≡ (1000 - (a + suc m)) + (k - (1000 - (a + suc m))) = omega arith in
          let same : blocks_from k v (a + suc m) ≡ blocks_from (1000 - (a + suc m)) v (a + suc m) =
          ap (λ (i : ℕ). blocks_from i v (a + suc m)) more ∙ enough v (1000 - (a + suc m)) (k - (1000 - (a + suc m))) (a + suc m) (omega (arith, long)) in
          rw (q, blocks_from, sym e) (ap (λ (bs : List Block). record { location = a; cells = suc m } ∷ bs) same)
