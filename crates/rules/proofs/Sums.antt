-- Sums, for any form: the three cases of two signs, that the order of the operands does not matter, what two operands over the smaller
-- exponent come to, and that one far below the other changes no digit. Assumes nothing.
use Prim.Native.Nat.{ℕ, ◌+◌, ◌-◌, ◌*◌, ◌^◌, ◌≤◌, ◌<◌}
use mathlib.Core.Path.{◌≡◌, refl, sym, ap, ◌∙◌}
use mathlib.Core.Bool.{Bool, true, false}
use native.Mathlib.Nat.{mul_assoc, mul_comm, mul-sub, mul-le-mul_right, mul-lt-mul_of_pos_right}
use native.Mathlib.Omega.{arith}
use lib.Dec.{eqb, leb}
use lib.Pow.{pow-add}
use borrow.Author.Tests.{eqb-true, eqb-false, leb-true, leb-false, eq-eqb, ne_eqb, le-leb, lt-leb}
use Rattle.rules.specs.Rounding.{Form, Settled, fraction, settled, placed, sum}
use Rattle.rules.specs.Rounded.{Rounded}
use Rattle.rules.proofs.Nearest.{ten_above}
use Rattle.rules.proofs.Rounding.{settled_none}
use Rattle.rules.proofs.Fractions.{settled_whole}

module _ (f : Form) (s x t y : ℕ) where
  pub sum_same : s ≡ t → sum f s x t y ≡ settled f s (fraction (x + y) 1)
  unfolding sum
  sum_same i = rw (eq-eqb s t i)

  pub sum_first : (s ≡ t → ⊥) → y ≤ x → sum f s x t y ≡ settled f s (fraction (x - y) 1)
  unfolding sum
  sum_first i l = rw (ne_eqb s t i, le-leb y x l)

  pub sum_second : (s ≡ t → ⊥) → x < y → sum f s x t y ≡ settled f t (fraction (y - x) 1)
  unfolding sum
  sum_second i l = rw (ne_eqb s t i, lt-leb y x l)

-- two equal magnitudes of two signs leave nothing
sum_nothing : (f : Form) (s x y : ℕ) → x ≤ y → settled f s (fraction (x - y) 1) ≡ Settled.nought
sum_nothing f s x y l = settled_none f s (fraction (x - y) 1) (omega arith)

pub sum_swaps : (f : Form) (s x t y : ℕ) → sum f s x t y ≡ sum f t y s x
sum_swaps f s x t y = by_sign (eqb s t) refl
  where
    by_sign : (b : Bool) → eqb s t ≡ b → sum f s x t y ≡ sum f t y s x
    by_sign true w =
        let i : s ≡ t = eqb-true s t w in
        sum_same f s x t y i ∙ ap (λ (r : ℕ). settled f r (fraction (x + y) 1)) i ∙ ap (λ (v : ℕ). settled f t (fraction v 1)) (omega arith) ∙ sym (sum_same f t y s x (sym i))
    by_sign false w = by_size (leb y x) refl (leb x y) refl
      where
        i : s ≡ t → ⊥
        i = eqb-false s t w

        j : t ≡ s → ⊥
        j k = i (sym k)

        by_size : (b : Bool) → leb y x ≡ b → (c : Bool) → leb x y ≡ c → sum f s x t y ≡ sum f t y s x
        by_size true p true q =
            let u : y ≤ x = leb-true y x p in
            let v : x ≤ y = leb-true x y q in
            sum_first f s x t y i u ∙ sum_nothing f s x y v ∙ sym (sum_nothing f t y x u) ∙ sym (sum_first f t y s x j v)
        by_size true p false q = sum_first f s x t y i (leb-true y x p) ∙ sym (sum_second f t y s x j (leb-false x y q))
        by_size false p true q = sum_second f s x t y i (leb-false y x p) ∙ sym (sum_first f t y s x j (leb-true x y q))
        by_size false p false q =
            let u : x < y = leb-false y x p in
            let v : y < x = leb-false x y q in
            absurd (omega arith)

difference : (a b c : ℕ) → a * c - b * c ≡ (a - b) * c
difference a b c = ap (λ (v : ℕ). v - b * c) (mul_comm a c) ∙ ap (λ (v : ℕ). c * a - v) (mul_comm b c) ∙ sym (mul-sub c a b) ∙ mul_comm c (a - b)

-- The sum of the digits m at the exponent x and n at y, of which y is no larger: both are counted in units of y.
abbrev pub sum_at : Form → ℕ → ℕ → ℕ → ℕ → ℕ → ℕ → Settled
sum_at f s m x t n y = sum f s (m * 10 ^ (x + f.exponents)) t (n * 10 ^ (y + f.exponents))

module _ (f : Form) (s m x t n y : ℕ) (order : y ≤ x) where
  aligned : m * 10 ^ (x + f.exponents) ≡ m * 10 ^ (x - y) * 10 ^ (y + f.exponents)
  aligned =
      ap (λ (v : ℕ). m * v) (ap (λ (v : ℕ). 10 ^ v) (omega arith) ∙ pow-add 10 (x - y) (y + f.exponents))
      ∙ sym (mul_assoc m (10 ^ (x - y)) (10 ^ (y + f.exponents)))

  pub same_at : s ≡ t → sum_at f s m x t n y ≡ settled f s (fraction ((m * 10 ^ (x - y) + n) * 10 ^ (y + f.exponents)) 1)
  same_at i =
      sum_same f s (m * 10 ^ (x + f.exponents)) t (n * 10 ^ (y + f.exponents)) i
      ∙ ap (λ (v : ℕ). settled f s (fraction v 1)) (ap (λ (v : ℕ). v + n * 10 ^ (y + f.exponents)) aligned ∙ omega arith)

  pub first_at : (s ≡ t → ⊥) → n ≤ m * 10 ^ (x - y) → sum_at f s m x t n y ≡ settled f s (fraction ((m * 10 ^ (x - y) - n) * 10 ^ (y + f.exponents)) 1)
  first_at i l =
      let g : n * 10 ^ (y + f.exponents) ≤ m * 10 ^ (x + f.exponents) = rw aligned (mul-le-mul_right (10 ^ (y + f.exponents)) l) in
      sum_first f s (m * 10 ^ (x + f.exponents)) t (n * 10 ^ (y + f.exponents)) i g
      ∙ ap (λ (v : ℕ). settled f s (fraction v 1)) (ap (λ (v : ℕ). v - n * 10 ^ (y + f.exponents)) aligned ∙ difference (m * 10 ^ (x - y)) n (10 ^ (y + f.exponents)))

  pub second_at : (s ≡ t → ⊥) → m * 10 ^ (x - y) < n → sum_at f s m x t n y ≡ settled f t (fraction ((n - m * 10 ^ (x - y)) * 10 ^ (y + f.exponents)) 1)
  second_at i l =
      let g : m * 10 ^ (x + f.exponents) < n * 10 ^ (y + f.exponents) = rw aligned (mul-lt-mul_of_pos_right l (ten_above (y + f.exponents))) in
      sum_second f s (m * 10 ^ (x + f.exponents)) t (n * 10 ^ (y + f.exponents)) i g
      ∙ ap (λ (v : ℕ). settled f t (fraction v 1)) (ap (λ (v : ℕ). n * 10 ^ (y + f.exponents) - v) aligned ∙ difference n (m * 10 ^ (x - y)) (10 ^ (y + f.exponents)))

  -- an operand of less than a twentieth of the other's last place changes no digit
  module _ (least : 10 ^ f.digits ≤ 10 * m) (most : m < 10 ^ f.digits) (far : 20 * n ≤ 10 ^ (x - y)) where
    room : 10 ^ f.digits * 10 ^ (x - y) ≤ 10 * m * 10 ^ (x - y)
    room = mul-le-mul_right (10 ^ (x - y)) least

    unmoved : (v : ℕ) → v ≤ m * 10 ^ (x - y) + n → m * 10 ^ (x - y) ≤ v + n → settled f s (fraction (v * 10 ^ (y + f.exponents)) 1) ≡ placed f s m (x + f.exponents)
    unmoved v high low =
        let r : Rounded f.digits (2 * v) (10 ^ (x - y)) m =
        record { reached = omega arith; not_passed = omega (arith, ten_above (x - y)); fits = most; full = omega (arith, room) } in
        settled_whole f s v (y + f.exponents) (x - y) m r ∙ ap (placed f s m) (omega arith)

    pub far_at : sum_at f s m x t n y ≡ placed f s m (x + f.exponents)
    far_at = by_sign (eqb s t) refl
      where
        by_sign : (b : Bool) → eqb s t ≡ b → sum_at f s m x t n y ≡ placed f s m (x + f.exponents)
        by_sign true w = same_at (eqb-true s t w) ∙ unmoved (m * 10 ^ (x - y) + n) (omega arith) (omega arith)
        by_sign false w =
            let l : n ≤ m * 10 ^ (x - y) = omega (arith, room, mul-le-mul_right (10 ^ (x - y)) (ten_above f.digits)) in
            first_at (eqb-false s t w) l ∙ unmoved (m * 10 ^ (x - y) - n) (omega arith) (omega arith)
