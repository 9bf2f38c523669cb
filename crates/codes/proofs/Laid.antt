-- The table laid out by slots: after n turns the first n rows stand at their slots, and after all of them each slot has the row of its
-- code, by one test over the whole index. Assumes nothing.
use Prim.Native.Nat.{ℕ, zero, suc, ◌+◌, ◌≤◌, ◌<◌}
use mathlib.Core.Path.{◌≡◌, refl, sym, ap, ◌∙◌}
use mathlib.Core.Bool.{Bool, true, false}
use mathlib.Core.List.{List}
use native.Mathlib.Nat.{zero-add, add-zero, add-suc, suc-add, le_of_suc-le-suc, not-suc-le-zero}
use native.Mathlib.Numerals.{add-one}
use native.Mathlib.Omega.{arith}
use borrow.Author.Tests.{lt-ltb}
use lib.ListN.{length, get_or, set, replicate, length-set}
use Rattle.rules.specs.Codes.{codes, lookup}
use Rattle.codes.specs.Rows.{row_in, row_built, code_at}
use Rattle.codes.specs.Keys.{key_in, slot_of, code_of_slot}
use Rattle.codes.specs.Slots.{done_as, entry_at, listed, index_for, built_in, Indexed}
use Rattle.codes.proofs.Found.{found}
use Rattle.codes.proofs.Keyed.{slot_small, slot_code}

unfoldable pub laid_out : ℕ → List ℕ
laid_out zero = replicate 1010 40
laid_out (suc n) = set (laid_out n) (slot_of (code_at n codes)) n

pub laid_more : (n : ℕ) (index : List ℕ) (slot code : ℕ) → index ≡ laid_out n → slot ≡ slot_of code → code ≡ code_at n codes
    → set index slot n ≡ laid_out (n + 1)
unfolding laid_out
laid_more n index slot code e s k = rw (add-one n) (λ i. set (e i) ((s ∙ ap slot_of k) i) n)

pub long_enough : (n : ℕ) → length (laid_out n) ≡ 1010
unfolding laid_out
long_enough zero = refl
long_enough (suc n) = length-set (laid_out n) (slot_of (code_at n codes)) n ∙ long_enough n

pub laid_plain : laid_out 40 ≡ index_for false
unfolding laid_out codes row_in slot_of listed
laid_plain = refl

pub laid_traced : set (laid_out 40) 410 (get_or (laid_out 40) 454 0) ≡ index_for true
unfolding laid_out codes row_in slot_of listed
laid_traced = refl

-- ---- what an order finds

behind : (rule : ℕ → ℕ) (i n k : ℕ) → k < n → get_or (listed rule i n) k 0 ≡ rule (i + k)
unfolding listed
behind rule i zero k l = absurd (not-suc-le-zero l)
behind rule i (suc n) zero l = ap rule (sym (add-zero i))
behind rule i (suc n) (suc k) l = behind rule (suc i) n k (le_of_suc-le-suc l) ∙ ap rule (suc-add i k ∙ sym (add-suc i k))

at_slot : (t : Bool) (j : ℕ) → j ≤ 1009 → built_in (index_for t) j ≡ lookup (done_as t (code_of_slot j)) codes
at_slot t j l =
    let m : j < 1010 = omega arith in
    simp (lt-ltb j 1010 m)
    (ap (λ (n : ℕ). row_built n codes) (behind (entry_at t) 0 1010 j m ∙ ap (entry_at t) (zero-add j)) ∙ found (done_as t (code_of_slot j)) codes)

pub indexed : (t : Bool) (index : List ℕ) → index ≡ index_for t → Indexed t index
indexed t index e = record {
  whole = e;
  finds = λ w.
      ap (λ (l : List ℕ). built_in l (slot_of (key_in w))) e
      ∙ at_slot t (slot_of (key_in w)) (slot_small (key_in w))
      ∙ ap (λ (k : ℕ). lookup (done_as t k) codes) (slot_code w);
}
