-- Keys: the code of an order and its slot go by the same three cases. Assumes nothing.
use Prim.Native.Nat.{ℕ, ◌+◌, ◌*◌, ◌/◌, ◌≤◌, ◌<◌}
use mathlib.Core.Path.{◌≡◌, refl}
use mathlib.Core.Bool.{Bool, true, false}
use native.Mathlib.Omega.{arith}
use borrow.Author.Tests.{lt-ltb, le-ltb, eq-eqb, ne_eqb, eqb-true, ltb-true, ltb-false}
use lib.Dec.{eqb, ltb}
use Rattle.rules.specs.Words.{pick, a_in, first_digit}
use Rattle.rules.specs.Codes.{code_in, is_block_move}
use Rattle.rules.proofs.Tests.{both_first, both_second}
use Rattle.codes.specs.Keys.{key_in, slot_of, code_of_slot}

-- the digit is 0; it is MOVE with A not 000; neither
pub code_short : (w : ℕ) → key_in w < 1000 → key_in w ≡ code_in w
unfolding code_in
code_short w l = simp (eq-eqb (first_digit w) 0 (omega arith)) (omega arith)

pub code_move : (w : ℕ) → 9000 < key_in w → 9001 ≡ code_in w
unfolding code_in
code_move w l =
    simp (ne_eqb (first_digit w) 0 (λ e. omega (arith, e)), eq-eqb (first_digit w) 9 (omega arith), lt-ltb 0 (a_in w) (omega arith))

pub code_long : (w : ℕ) → 1000 ≤ key_in w → key_in w ≤ 9000 → key_in w / 1000 * 1000 ≡ code_in w
unfolding code_in
code_long w l m = by_move (is_block_move w) refl
  where
    d : eqb (first_digit w) 0 ≡ false
    d = ne_eqb (first_digit w) 0 (λ e. omega (arith, e))

    by_move : (t : Bool) → is_block_move w ≡ t → key_in w / 1000 * 1000 ≡ pick (eqb (first_digit w) 0) (a_in w) (pick t 9001 (1000 * first_digit w))
    by_move true e =
        let n : first_digit w ≡ 9 = eqb-true (first_digit w) 9 (both_first (eqb (first_digit w) 9) (ltb 0 (a_in w)) e) in
        let a : 0 < a_in w = ltb-true 0 (a_in w) (both_second (eqb (first_digit w) 9) (ltb 0 (a_in w)) e) in
        let z : ⊥ = omega arith in
        absurd z
    by_move false e = simp d (omega arith)

pub slot_small : (key : ℕ) → slot_of key ≤ 1009
unfolding slot_of
slot_small key = by_short (ltb key 1000) refl
  where
    by_long : (t : Bool) → ltb 9000 key ≡ t → pick t 1009 (999 + key / 1000) ≤ 1009
    by_long true e = omega arith
    by_long false e = omega (arith, ltb-false 9000 key e)

    by_short : (t : Bool) → ltb key 1000 ≡ t → pick t key (pick (ltb 9000 key) 1009 (999 + key / 1000)) ≤ 1009
    by_short true e = omega (arith, ltb-true key 1000 e)
    by_short false e = by_long (ltb 9000 key) refl

pub slot_code : (w : ℕ) → code_of_slot (slot_of (key_in w)) ≡ code_in w
unfolding slot_of
slot_code w = by_short (ltb (key_in w) 1000) refl
  where
    by_long : (t : Bool) → ltb 9000 (key_in w) ≡ t → 1000 ≤ key_in w → code_of_slot (pick t 1009 (999 + key_in w / 1000)) ≡ code_in w
    by_long true e l = code_move w (ltb-true 9000 (key_in w) e)
    by_long false e l =
        let m : key_in w ≤ 9000 = ltb-false 9000 (key_in w) e in
        simp (le-ltb (999 + key_in w / 1000) 1000 (omega arith), ne_eqb (999 + key_in w / 1000) 1009 (λ q. omega (arith, q)))
        (omega (arith, code_long w l m))

    by_short : (t : Bool) → ltb (key_in w) 1000 ≡ t → code_of_slot (pick t (key_in w) (pick (ltb 9000 (key_in w)) 1009 (999 + key_in w / 1000))) ≡ code_in w
    by_short true e = simp e (code_short w (ltb-true (key_in w) 1000 e))
    by_short false e = by_long (ltb 9000 (key_in w)) refl (ltb-false (key_in w) 1000 e)
