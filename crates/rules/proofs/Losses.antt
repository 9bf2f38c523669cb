-- The digits that a sum loses, for any form. Like signs lose none. Where two or more are lost, the exponents are at most one apart: what is
-- left is then a whole number of the result's units, so that nothing is rounded. Assumes nothing.
use Prim.Native.Nat.{ℕ, suc, ◌+◌, ◌-◌, ◌*◌, ◌^◌, max, ◌≤◌, ◌<◌}
use mathlib.Core.Path.{◌≡◌, sym, ap, subst, ◌∙◌}
use mathlib.Core.Logic.{◌⊎◌, inl, inr, ⊎_elim}
use native.Mathlib.Nat.{eq-or-lt_of_le, lt_of_not-le, mul_assoc, mul-sub, mul-le-mul, mul-le-mul_left, mul-le-mul_right, mul-lt-mul_of_pos_right, pow-suc}
use native.Mathlib.Decide.{dec_le, ℕ_discrete}
use native.Mathlib.Omega.{arith}
use lib.Pow.{pow-add}
use Rattle.rules.specs.Rounding.{Form, Value, value, fraction, settled, scaled, sum}
use Rattle.rules.specs.Rounded.{Rounded}
use Rattle.rules.proofs.Nearest.{ten_above, ten_rises, nearest_is}
use Rattle.rules.proofs.Rounded.{rounded_nearest, rounded_first}
use Rattle.rules.proofs.Rounding.{Answer, answered}
use Rattle.rules.proofs.Sums.{sum_same, sum_first, sum_second}

-- ---- what is rounded

-- the larger of two less the smaller
abbrev pub apart : ℕ → ℕ → ℕ
apart p q = (p - q) + (q - p)

-- the unit of an exponent
abbrev unit : Form → ℕ → ℕ
unit f e = 10 ^ (e + f.exponents)

-- the digits m at the exponent a, one of the form's, are the whole number v, rounded
pub record Rounds (f : Form) (v m a : ℕ) : Type 0 where
  pub range : a < f.exponents
  pub rounded : Rounded f.digits (fraction v 1) (unit f a) m

settled_rounds : (f : Form) (s v r m a : ℕ) → settled f s (fraction v 1) ≡ value r m a → Rounds f v m a
settled_rounds f s v r m a i =
    let z : Answer f s (fraction v 1) r m a = answered f s (fraction v 1) r m a i in
    record { range = z.range; rounded = z.rounded }

module _ (f : Form) (s p t q r m a : ℕ) (i : sum f s p t q ≡ value r m a) where
  like_rounds : s ≡ t → Rounds f (p + q) m a
  like_rounds same = settled_rounds f s (p + q) r m a (sym (sum_same f s p t q same) ∙ i)

  unlike_rounds : (s ≡ t → ⊥) → Rounds f (apart p q) m a
  unlike_rounds other = by_size (dec_le q p)
    where
      by_size : Dec (q ≤ p) → Rounds f (apart p q) m a
      by_size (yes l) = subst (λ (v : ℕ). Rounds f v m a) (omega arith) (settled_rounds f s (p - q) r m a (sym (sum_first f s p t q other l) ∙ i))
      by_size (no g) =
          let l : p < q = lt_of_not-le g in
          subst (λ (v : ℕ). Rounds f v m a) (omega arith) (settled_rounds f t (q - p) r m a (sym (sum_second f s p t q other l) ∙ i))

  pub sum_rounds : (v : ℕ) × Rounds f v m a
  sum_rounds = by_sign (ℕ_discrete s t)
    where
      by_sign : Dec (s ≡ t) → (v : ℕ) × Rounds f v m a
      by_sign (yes same) = (p + q, like_rounds same)
      by_sign (no other) = (apart p q, unlike_rounds other)

-- ---- units

-- so many units of one place, counted in those of a lower one
finer : (m j e : ℕ) {k : ℕ} → k ≡ j + e → m * 10 ^ k ≡ m * 10 ^ j * 10 ^ e
finer m j e i = ap (λ (k : ℕ). m * 10 ^ k) i ∙ ap (λ (k : ℕ). m * k) (pow-add 10 j e) ∙ sym (mul_assoc m (10 ^ j) (10 ^ e))

apart_units : (p q u : ℕ) → apart (p * u) (q * u) ≡ apart p q * u
apart_units p q u = omega (arith, mul-sub u p q, mul-sub u q p)

-- ---- what is lost

-- z came of x and of y, whose exponent is no larger.
pub record Lost (f : Form) (x y z : Value) : Type 0 where
  pub some : 0 < z.leading
  pub carries : x.sign ≡ y.sign → (z.exponent ≡ x.exponent) ⊎ (z.exponent ≡ suc x.exponent)
  pub smaller : 1 ≤ x.exponent - z.exponent → scaled f z * 10 ^ (x.exponent - z.exponent - 1) < scaled f x
  pub within : max (scaled f x) (scaled f y) < scaled f z * 10 ^ (x.exponent - z.exponent + 1)
  pub exact : 2 ≤ x.exponent - z.exponent → scaled f z ≡ apart (scaled f x) (scaled f y)
  pub zeros : 2 ≤ x.exponent - z.exponent → (q : ℕ) × (z.leading ≡ q * 10 ^ (x.exponent - z.exponent - 1))

module _ (f : Form) (has : 0 < f.digits) (x y z : Value) (order : y.exponent ≤ x.exponent) (least : 10 ^ (f.digits - 1) ≤ x.leading) (most : x.leading < 10 ^ f.digits) (few : y.leading < 10 ^ f.digits) (i : sum f x.sign (scaled f x) y.sign (scaled f y) ≡ value z.sign z.leading z.exponent) where
  -- how many numbers the digits make, and the three exponents
  abbrev all : ℕ
  all = 10 ^ f.digits

  abbrev e : ℕ
  e = x.exponent

  abbrev c : ℕ
  c = y.exponent

  abbrev a : ℕ
  a = z.exponent

  tenfold : all ≡ 10 ^ (f.digits - 1) * 10
  tenfold = ap (λ (k : ℕ). 10 ^ k) (omega arith) ∙ pow-suc 10 (f.digits - 1)

  -- the digits are enough for what is rounded
  module _ (v : ℕ) (g : Rounds f v z.leading a) where
    enough : 2 * v + unit f a < 2 * (all * unit f a)
    enough = omega (arith, mul-le-mul_right (unit f a) g.rounded.fits)

    -- and they are all there
    first : 10 ^ (f.digits - 1) ≤ z.leading
    first =
        rounded_first (f.digits - 1) (fraction v 1) (unit f a) z.leading (ten_above (a + f.exponents))
        (subst (λ (d : ℕ). Rounded d (fraction v 1) (unit f a) z.leading) (omega arith) g.rounded)

  -- at an exponent below its own they are not enough for x; at its own they are for y
  over : (j b : ℕ) → j + b < e → all * 10 ^ j * unit f b ≤ scaled f x
  over j b l =
      let place : ℕ = j + (b + f.exponents) in
      let below : suc place ≤ e + f.exponents = omega arith in
      omega (
        arith,
        finer all j (b + f.exponents) {k = place} (omega arith),
        ap (λ (k : ℕ). k * 10 ^ place) tenfold,
        finer (10 ^ (f.digits - 1)) 1 place {k = suc place} (omega arith),
        mul-le-mul least (ten_rises below),
      )

  under : scaled f y < all * unit f c
  under = mul-lt-mul_of_pos_right few (ten_above (c + f.exponents))

  -- Like signs: below e the digits are not enough, and above the next they are not filled.
  carries : x.sign ≡ y.sign → (a ≡ e) ⊎ (a ≡ suc e)
  carries same =
      let g : Rounds f (scaled f x + scaled f y) z.leading a = like_rounds f x.sign (scaled f x) y.sign (scaled f y) z.sign z.leading a i same in
      let low : e < suc a = lt_of_not-le (λ l. omega (arith, enough _ g, over 0 a (omega arith))) in
      let high : a < suc (suc e) =
      lt_of_not-le (λ l.
      let two : suc (suc (e + f.exponents)) ≤ a + f.exponents = omega arith in
      let lower : c + f.exponents ≤ e + f.exponents = omega arith in
      omega (
        arith,
        under,
        mul-le-mul_right (unit f e) most,
        mul-le-mul_left all (ten_rises lower),
        mul-le-mul_left all (ten_rises two),
        finer all 2 (e + f.exponents) {k = suc (suc (e + f.exponents))} (omega arith),
        mul-le-mul_right (unit f a) (ten_above f.digits),
      )) in
      ⊎_elim (λ j. inl (omega arith)) (λ j. inr (omega arith)) (eq-or-lt_of_le {n = e} {m = a} (omega arith))

  smaller : z.leading < all → 1 ≤ e - a → scaled f z * 10 ^ (e - a - 1) < scaled f x
  smaller fits one =
      omega (
        arith,
        over 0 (e - 1) (omega arith),
        finer z.leading (a + f.exponents) (e - a - 1) {k = e - 1 + f.exponents} (omega arith),
        mul-lt-mul_of_pos_right fits (ten_above (e - 1 + f.exponents)),
      )

  -- at a place that is no lower than x's, ten times the result's digits are at least the number of all
  within : 10 ^ (f.digits - 1) ≤ z.leading → max (scaled f x) (scaled f y) < scaled f z * 10 ^ (e - a + 1)
  within first =
      let place : ℕ = a + f.exponents + (e - a) in
      let top : e + f.exponents ≤ place = omega arith in
      let next : c + f.exponents ≤ e + f.exponents = omega arith in
      omega (
        arith,
        under,
        mul-lt-mul_of_pos_right most (ten_above (e + f.exponents)),
        mul-le-mul_left all (ten_rises next),
        mul-le-mul_left all (ten_rises top),
        ap (λ (k : ℕ). k * 10 ^ place) tenfold,
        mul-le-mul_right (10 ^ place) first,
        finer z.leading (a + f.exponents) (e - a + 1) {k = place + 1} (omega arith),
        finer z.leading 1 place {k = place + 1} (omega arith),
      )

  module _ (two : 2 ≤ e - a) where
    rounds : Rounds f (apart (scaled f x) (scaled f y)) z.leading a
    rounds =
        unlike_rounds f x.sign (scaled f x) y.sign (scaled f y) z.sign z.leading a i
        (λ same. ⊎_elim (λ j. omega arith) (λ j. omega arith) (carries same))

    -- were y two places below x, nine tenths of x and more would be left, too much for the result's digits
    near : e < suc (suc c)
    near = lt_of_not-le (λ l. omega (arith, under, enough _ rounds, over 1 a (omega arith), over 1 c (omega arith), ten_above (a + f.exponents)))

    -- what is left, in units of y
    abbrev units : ℕ
    units = apart (x.leading * 10 ^ (e - c)) y.leading

    whole : apart (scaled f x) (scaled f y) ≡ units * 10 ^ (c - a) * unit f a
    whole =
        ap (λ (p : ℕ). apart p (scaled f y)) (finer x.leading (e - c) (c + f.exponents) (omega arith))
        ∙ apart_units (x.leading * 10 ^ (e - c)) y.leading (unit f c)
        ∙ finer units (c - a) (a + f.exponents) (omega (arith, near))

    digits : z.leading ≡ units * 10 ^ (c - a)
    digits =
        sym (rounded_nearest f.digits _ (a + f.exponents) z.leading rounds.rounded)
        ∙ nearest_is _ (a + f.exponents) (units * 10 ^ (c - a)) (omega (arith, whole)) (omega (arith, whole, ten_above (a + f.exponents)))

  pub lost : Lost f x y z
  lost =
      let g : (v : ℕ) × Rounds f v z.leading a = sum_rounds f x.sign (scaled f x) y.sign (scaled f y) z.sign z.leading a i in
      record {
        some = omega (arith, first g.0 g.1, ten_above (f.digits - 1));
        carries = carries;
        smaller = smaller g.1.rounded.fits;
        within = within (first g.0 g.1);
        exact = λ two. ap (λ (k : ℕ). k * unit f a) (digits two) ∙ sym (whole two);
        zeros = λ two. (units two * 10 ^ (suc c - e), digits two ∙ finer (units two) (suc c - e) (e - a - 1) (omega (arith, near two)));
      }
