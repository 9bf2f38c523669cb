-- The halves of a product and of a quotient, from a place up: a power of ten that both have cancels. Assumes nothing.
use Prim.Native.Nat.{ℕ, ◌+◌, ◌*◌, ◌/◌, ◌^◌}
use mathlib.Core.Path.{◌≡◌, sym, ap, subst, ◌∙◌}
use native.Mathlib.Nat.{mul_assoc, mul-div_cancel, mul-div-mul_right, div-one, zero-div, div-div-eq-div-mul}
use lib.Pow.{pow-add}
use Rattle.rules.specs.Rounding.{Form, fraction, placed, settled}
use Rattle.rules.specs.Rounded.{Rounded}
use Rattle.rules.proofs.Nearest.{ten_above}
use Rattle.rules.proofs.Rounding.{settled_is}

-- of nothing
pub none_halves : (p q : ℕ) → p ≡ 0 → fraction p q ≡ 0
none_halves p q z = ap (λ (t : ℕ). 2 * t / q) z ∙ zero-div q

-- of a whole number p times 10 ^ j
pub whole_halves : (p j : ℕ) → fraction (p * 10 ^ j) 1 / 10 ^ j ≡ 2 * p
whole_halves p j =
    ap (λ (t : ℕ). t / 10 ^ j) (div-one (2 * (p * 10 ^ j)) ∙ sym (mul_assoc 2 p (10 ^ j)))
    ∙ mul-div_cancel (2 * p) {n = 10 ^ j} (ten_above j)

-- of a quotient of which p has j places more than q, and i more than that
pub quotient_halves : (p q i y j : ℕ) → fraction (p * 10 ^ (i + (y + j))) (q * 10 ^ y) / 10 ^ j ≡ 2 * (p * 10 ^ i) / q
quotient_halves p q i y j =
    let c : ℕ = 10 ^ (y + j) in
    let above : 2 * (p * 10 ^ (i + (y + j))) ≡ 2 * (p * 10 ^ i) * c =
    ap (λ (t : ℕ). 2 * t) (ap (λ (t : ℕ). p * t) (pow-add 10 i (y + j)) ∙ sym (mul_assoc p (10 ^ i) c)) ∙ sym (mul_assoc 2 (p * 10 ^ i) c) in
    let below : q * 10 ^ y * 10 ^ j ≡ q * c = mul_assoc q (10 ^ y) (10 ^ j) ∙ ap (λ (t : ℕ). q * t) (sym (pow-add 10 y j)) in
    div-div-eq-div-mul (2 * (p * 10 ^ (i + (y + j)))) (q * 10 ^ y) (10 ^ j)
    ∙ ap (λ (t : ℕ). t / (q * 10 ^ y * 10 ^ j)) above
    ∙ ap (λ (t : ℕ). 2 * (p * 10 ^ i) * c / t) below
    ∙ mul-div-mul_right (2 * (p * 10 ^ i)) q (ten_above (y + j))

-- so a whole number of units is settled by its digits
pub settled_whole : (f : Form) (s p j k m : ℕ) → Rounded f.digits (2 * p) (10 ^ k) m → settled f s (fraction (p * 10 ^ j) 1) ≡ placed f s m (j + k)
settled_whole f s p j k m r =
    settled_is f s (fraction (p * 10 ^ j) 1) j k m (subst (λ (h : ℕ). Rounded f.digits h (10 ^ k) m) (sym (whole_halves p j)) r)
