-- Rounding in 64 bits: whoever has found the unit has found the definition's answer. Assumes nothing.
use Rattle.std.proofs.Common.{Err, Ok}
use Prim.Native.Nat.{ℕ, ◌+◌, ◌-◌, ◌*◌, ◌/◌, ◌^◌, ◌≤◌, ◌<◌}
use mathlib.Core.Path.{◌≡◌, refl, sym, ap, subst, ◌∙◌}
use native.Mathlib.Nat.{pow-suc, div-one}
use native.Mathlib.Numerals.{add-one}
use native.Mathlib.Omega.{arith}
use Rattle.rules.specs.Arithmetic.{word_of}
use Rattle.rules.specs.Rounding.{single, nearest, placed, settled}
use Rattle.rules.specs.Rounded.{Rounded}
use Rattle.rules.specs.declared.Refusal.TheVariants.{OutOfRange}
use Rattle.rules.proofs.Rounded.{unit_rounded}
use Rattle.rules.proofs.Rounding.{placed_within, placed_below, placed_above, settled_is}

-- the unit u is the power e of ten, and in units a tenth as large there would be more than eight digits
pub record Unit (h u e : ℕ) : Type 0 where
  pub power : u ≡ 10 ^ e
  pub full : 2 * (10 ^ 8 * u) ≤ 10 * h + u

pub next : (h u e : ℕ) → Unit h u e → 200000000 * u ≤ h + u → Unit h (u * 10) (e + 1)
next h u e w l =
    record { power = ap (λ (v : ℕ). v * 10) w.power ∙ sym (pow-suc 10 e) ∙ ap (λ (v : ℕ). 10 ^ v) (sym (add-one e)); full = omega arith }

module _ (h u e : ℕ) (w : Unit h u e) (few : h + u < 200000000 * u) where
  rounded : Rounded 8 h (10 ^ e) ((h / u + 1) / 2)
  unfolding nearest
  rounded =
      let i : u ≡ 10 ^ e = w.power in
      subst (λ (v : ℕ). Rounded 8 h (10 ^ e) ((h / v + 1) / 2)) (sym i)
      (unit_rounded 8 h e (subst (λ (v : ℕ). 2 * (10 ^ 8 * v) ≤ 10 * h + v) i w.full) (subst (λ (v : ℕ). h + v < 2 * (10 ^ 8 * v)) i (omega arith)))

  pub eight_digits : (h / u + 1) / 2 < 10 ^ 8
  eight_digits = rounded.fits

  pub settles : (s j x : ℕ) → x / 10 ^ j ≡ h → settled single s x ≡ placed single s ((h / u + 1) / 2) (j + e)
  settles s j x i = settled_is single s x j e ((h / u + 1) / 2) (subst (λ (v : ℕ). Rounded 8 v (10 ^ e) ((h / u + 1) / 2)) (sym i) rounded)

-- halves that make eight digits as they are
pub eight_already : (h s j x : ℕ) → 20000000 ≤ h → h + 1 < 200000000 → x / 10 ^ j ≡ h → settled single s x ≡ placed single s ((h + 1) / 2) j
eight_already h s j x least most i =
    let here : j + 0 ≡ j = omega arith in
    settles h 1 0 (record { power = refl; full = omega arith }) (omega arith) s j x i
    ∙ ap (λ (v : ℕ). placed single s ((v + 1) / 2) (j + 0)) (div-one h)
    ∙ ap (placed single s ((h + 1) / 2)) here

-- the word of sign s and digits m at the place e, whose exponent is judged
module _ (s m e : ℕ) where
  pub word_below : e < 100 → word_of (placed single s m e) ≡ Err OutOfRange
  word_below l = ap word_of (placed_below single s m e l)

  pub word_above : 200 ≤ e → word_of (placed single s m e) ≡ Err OutOfRange
  word_above l = ap word_of (placed_above single s m e l)

  pub word_within : 100 ≤ e → e < 200 → word_of (placed single s m e) ≡ Ok (s * 10000000000 + m * 100 + (e - 100))
  word_within l g = ap word_of (placed_within single s m e l g)

pub ruleset placed_words = (word_below, word_above, word_within)
