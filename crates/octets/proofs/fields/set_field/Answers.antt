-- `octets::set_field` meets its contract. The loop's invariant: the last digits stand in the output, and all else is as it was.
-- Assumes nothing.
use mathlib.Core.List.{List}
use mathlib.Core.Path.{◌≡◌, sym, ap, ◌∙◌}
use Prim.Native.Nat.{ℕ, suc, ◌+◌, ◌-◌, ◌/◌, ◌%◌, ◌^◌, ◌≤◌}
use native.Mathlib.Nat.{pow-suc, div-div-eq-div-mul}
use native.Mathlib.Omega.{arith}
use lib.ListN.{length, set}
use Rattle.rules.specs.Cards.{digits}
use Rattle.rules.proofs.Digits.{length_digits}
use Rattle.octets.proofs.Splices.{splice_none, splice_before}
use Rattle.octets.proofs.fields.set_field.Goals as goal
use Rattle.octets.proofs.fields.set_field.Invariants.{Passed}

none_passed : (out₀ : List ℕ) (x e : ℕ) → Passed out₀ x 0 e out₀ x
unfolding digits
none_passed out₀ x e = record { left = omega arith; bytes = splice_none e out₀ }

one_passed : (out₀ : List ℕ) (x k e : ℕ) (out : List ℕ) (y : ℕ) → Passed out₀ x k (suc e) out y → suc e + k ≤ length out₀
    → Passed out₀ x (suc k) e (set out e (48 + y % 10)) (y / 10)
unfolding digits
one_passed out₀ x k e out y p h = record {
  left = ap (λ (t : ℕ). t / 10) p.left ∙ div-div-eq-div-mul x (10 ^ k) 10 ∙ ap (λ (t : ℕ). x / t) (sym (pow-suc 10 k));
  bytes =
      ap (λ (t : ℕ). set out e (48 + t % 10)) p.left
      ∙ ap (λ (d : List ℕ). set d e (48 + x / 10 ^ k % 10)) p.bytes
      ∙ splice_before e (48 + x / 10 ^ k % 10) (digits k x) out₀ (omega (arith, h, length_digits k x));
}

pub loop-i-init : goal.loop-i-init
loop-i-init c =
    let a = c.args in
    let q : a.n - a.n ≡ 0 = omega arith in
    rw q (none_passed a.out.now a.x (a.a + a.n))

pub loop-i-preserved : goal.loop-i-preserved
loop-i-preserved c =
    let a = c.args in
    let l = c.loop-i in
    let e : ℕ = a.a + (l.i - 1) in
    let q : a.n - (l.i - 1) ≡ suc (a.n - l.i) = omega arith in
    let r : a.a + l.i ≡ suc e = omega arith in
    rw q (one_passed _ _ _ e _ _ (rw r at l.invariant) (omega arith))
