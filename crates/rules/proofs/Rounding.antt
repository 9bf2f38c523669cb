-- The definition of a rounded result, for any form of numbers: whoever has digits and a place that are right has its answer, and its own
-- answer is right. Assumes nothing.
use Prim.Native.Nat.{ℕ, suc, ◌+◌, ◌-◌, ◌*◌, ◌/◌, ◌^◌, ◌≤◌, ◌<◌}
use mathlib.Core.Path.{◌≡◌, refl, sym, ap, subst, subst₂, ◌∙◌}
use mathlib.Core.Bool.{Bool, true, false}
use native.Mathlib.Nat.{lt_of_not-le, mul_comm}
use native.Mathlib.Decide.{dec_le}
use native.Mathlib.Omega.{arith}
use lib.Dec.{eqb, leb, ltb}
use lib.Pow.{pow-add}
use borrow.Author.Tests.{leb-true, ltb-true, eq-eqb, ne_eqb, le-leb, lt-leb, lt-ltb, le-ltb}
use Rattle.rules.specs.Words.{pick}
use Rattle.rules.specs.Rounding.{Form, nought, value, outside, nearest, place_in, placed, settled}
use Rattle.rules.specs.Rounded.{Rounded}
use Rattle.rules.proofs.Nearest.{ten_above, Right, place_right, place_beyond, right_place}
use Rattle.rules.proofs.Rounded.{rounded_nearest, rounded_right, rounded_some, right_rounded, lift}

-- The exponent is judged on the place of the rounded digits.
module _ (f : Form) (s m e : ℕ) where
  pub placed_within : f.exponents ≤ e → e < 2 * f.exponents → placed f s m e ≡ value s m (e - f.exponents)
  unfolding placed
  placed_within l g = rw (le-leb f.exponents e l, lt-ltb e (2 * f.exponents) g)

  pub placed_below : e < f.exponents → placed f s m e ≡ outside
  unfolding placed
  placed_below l = rw (lt-leb f.exponents e l)

  pub placed_above : 2 * f.exponents ≤ e → placed f s m e ≡ outside
  unfolding placed
  placed_above l = rw (le-leb f.exponents e (omega arith), le-ltb e (2 * f.exponents) l)

module _ (f : Form) (s h : ℕ) where
  pub settled_none : h ≡ 0 → settled f s h ≡ nought
  unfolding settled
  settled_none z = rw (eq-eqb h 0 z)

  settled_some : 0 < h → settled f s h ≡ placed f s (nearest h (place_in f h)) (place_in f h)
  unfolding settled
  settled_some l = rw (ne_eqb h 0 (λ z. omega arith))

  -- the definition's answer is at the right place
  pub settled_at : (e : ℕ) → 0 < h → Right f.digits h e → settled f s h ≡ placed f s (nearest h e) e
  settled_at e some r = either (dec_le e (4 * f.exponents))
    where
      either : Dec (e ≤ 4 * f.exponents) → settled f s h ≡ placed f s (nearest h e) e
      either (yes l) = settled_some some ∙ ap (λ (x : ℕ). placed f s (nearest h x) x) (place_right f.digits h (4 * f.exponents) e r l)
      either (no g) =
          let l : 4 * f.exponents < e = lt_of_not-le g in
          let w : place_in f h ≡ 4 * f.exponents = place_beyond f.digits h (4 * f.exponents) e r l in
          settled_some some ∙ placed_above f s (nearest h (place_in f h)) (place_in f h) (omega arith) ∙ sym (placed_above f s (nearest h e) e (omega arith))

  -- and it is no zero, but for no halves
  pub settled_zero : settled f s h ≡ nought → 0 < h → ⊥
  unfolding placed
  settled_zero i some = by_low (leb f.exponents e) (ltb e (2 * f.exponents)) (sym (settled_some some) ∙ i)
    where
      e : ℕ
      e = place_in f h

      by_low : (b c : Bool) → pick b (pick c (value s (nearest h e) (e - f.exponents)) outside) outside ≡ nought → ⊥
      by_low true true j = let z : ◌≡◌ {A = ℕ} 0 1 = cc in omega arith
      by_low true false j = let z : ◌≡◌ {A = ℕ} 0 1 = cc in omega arith
      by_low false c j = let z : ◌≡◌ {A = ℕ} 0 1 = cc in omega arith

-- Whoever has the digits of a magnitude from the place j up, and has rounded those, has the definition's answer.
pub settled_is : (f : Form) (s h j k m : ℕ) → Rounded f.digits (h / 10 ^ j) (10 ^ k) m → settled f s h ≡ placed f s m (j + k)
settled_is f s h j k m r =
    let l : Rounded f.digits h (10 ^ k * 10 ^ j) m = lift f.digits h (10 ^ j) (10 ^ k) m (ten_above j) r in
    let g : Rounded f.digits h (10 ^ (j + k)) m = subst (λ (u : ℕ). Rounded f.digits h u m) (mul_comm (10 ^ k) (10 ^ j) ∙ sym (pow-add 10 j k)) l in
    settled_at f s h (j + k) (rounded_some f.digits h (j + k) m g) (rounded_right f.digits h (j + k) m g)
    ∙ ap (λ (x : ℕ). placed f s x (j + k)) (rounded_nearest f.digits h (j + k) m g)

-- A number of the form that the definition answers has the sign asked for and is rounded.
pub record Answer (f : Form) (s h t m a : ℕ) : Type 0 where
  pub sign : t ≡ s
  pub range : a < f.exponents
  pub rounded : Rounded f.digits h (10 ^ (a + f.exponents)) m

pub answered : (f : Form) (s h t m a : ℕ) → settled f s h ≡ value t m a → Answer f s h t m a
unfolding settled placed
answered f s h t m a i = by_none (eqb h 0) refl i
  where
    e : ℕ
    e = place_in f h

    by_high : (b : Bool) → ltb e (2 * f.exponents) ≡ b → f.exponents ≤ e → pick b (value s (nearest h e) (e - f.exponents)) outside ≡ value t m a → Answer f s h t m a
    by_high true w l i =
        let g : e < 2 * f.exponents = ltb-true e (2 * f.exponents) w in
        let x : e - f.exponents ≡ a = cc in
        let y : nearest h e ≡ m = cc in
        let k : ℕ = a + f.exponents - 1 in
        let z : e ≡ suc k = omega arith in
        let r : Right f.digits h (suc k) = subst (Right f.digits h) z (right_place f.digits h (4 * f.exponents) (omega arith)) in
        record {
          sign = cc;
          range = omega arith;
          rounded =
              subst₂ (λ (c n : ℕ). Rounded f.digits h (10 ^ c) n) (omega arith) (ap (nearest h) (sym z) ∙ y)
              (right_rounded f.digits h k r);
        }
    by_high false w l i = let z : ◌≡◌ {A = ℕ} 0 1 = cc in absurd (omega arith)

    by_low : (b : Bool) → leb f.exponents e ≡ b → pick b (pick (ltb e (2 * f.exponents)) (value s (nearest h e) (e - f.exponents)) outside) outside ≡ value t m a → Answer f s h t m a
    by_low true w i = by_high (ltb e (2 * f.exponents)) refl (leb-true f.exponents e w) i
    by_low false w i = let z : ◌≡◌ {A = ℕ} 0 1 = cc in absurd (omega arith)

    by_none : (b : Bool) → eqb h 0 ≡ b → pick b nought (pick (leb f.exponents e) (pick (ltb e (2 * f.exponents)) (value s (nearest h e) (e - f.exponents)) outside) outside) ≡ value t m a → Answer f s h t m a
    by_none true w i = let z : ◌≡◌ {A = ℕ} 0 1 = cc in absurd (omega arith)
    by_none false w i = by_low (leb f.exponents e) refl i
