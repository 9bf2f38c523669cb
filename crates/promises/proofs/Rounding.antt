-- Fractions and roots are rounded once, in any form: their halves know all that rounding asks. Assumes nothing.
use Prim.Native.Nat.{ℕ, zero, suc, ◌+◌, ◌-◌, ◌*◌, ◌^◌, ◌≤◌, ◌<◌}
use mathlib.Core.Path.{◌≡◌, sym, ap, subst, ◌∙◌}
use native.Mathlib.Nat.{lt_of_not-le, eq_of_mul-eq-mul_right, mul_assoc, mul-le-mul, mul-le-mul_left, mul-le-mul_right, le-div_iff_mul-le, pow-suc}
use native.Mathlib.Decide.{dec_le}
use native.Mathlib.Omega.{arith}
use lib.Pow.{pow-add}
use Rattle.rules.specs.Rounding.{Form, nought, value, outside, nearest, placed, settled, fraction, root_halves}
use Rattle.rules.specs.Rounded.{Rounded, RootCut}
use Rattle.rules.proofs.Nearest.{ten_above, ten_rises, nearest_reached, nearest_not_passed, nearest_is, Right, one_place, some_right}
use Rattle.rules.proofs.Rounded.{filled, tenth_filled, rounded_first, right_rounded}
use Rattle.rules.proofs.Rounding.{placed_within, placed_below, placed_above, settled_none, settled_zero, settled_at, Answer, answered}
use Rattle.rules.proofs.Roots.{no_larger, root_below_lem}
use Rattle.promises.specs.Rounding.{Magnitude, of_fraction, of_root, RoundedTo, Number, Somewhere, Rounds, FractionRounds, RootRounds, RootNeverHalf}

-- what is used of the halves of a magnitude
record Halves (x : Magnitude) (h : ℕ) : Type 0 where
  reach : (t : ℕ) → t ≤ h → x 1 t
  reached : (t : ℕ) → x 1 t → t ≤ h
  tenfold : (t : ℕ) → x 1 t → x 10 (10 * t)
  tenth : (t : ℕ) → x 10 (10 * t) → x 1 t
  less : (t v : ℕ) → t ≤ v → x 10 v → x 10 t

-- a unit and its tenth
tenth_unit : (d k : ℕ) → 2 * (10 ^ d * 10 ^ suc k) - 10 ^ suc k ≡ 10 * (2 * (10 ^ d * 10 ^ k) - 10 ^ k)
tenth_unit d k = ap (λ (u : ℕ). 2 * (10 ^ d * u) - u) (pow-suc 10 k) ∙ omega arith

module _ (f : Form) (some : 0 < f.digits) (x : Magnitude) (h : ℕ) (w : Halves x h) where
  -- digits and place that are right are the nearest, at the place that is found
  module _ (e m : ℕ) (r : RoundedTo f.digits x (10 ^ e) m) where
    is_nearest : nearest h e ≡ m
    is_nearest = nearest_is h e m (omega (arith, w.reached (2 * (m * 10 ^ e) - 10 ^ e) r.at_least)) (passed (dec_le (2 * (m * 10 ^ e) + 10 ^ e) h))
      where
        passed : Dec (2 * (m * 10 ^ e) + 10 ^ e ≤ h) → h < 2 * (m * 10 ^ e) + 10 ^ e
        passed (yes l) = absurd (r.below (w.reach (2 * (m * 10 ^ e) + 10 ^ e) l))
        passed (no g) = lt_of_not-le g

    is_right : Right f.digits h e
    is_right =
        record {
          enough = omega (arith, is_nearest, r.fits);
          not_below =
              λ k i.
              let full : x 10 (10 * (2 * (10 ^ f.digits * 10 ^ k) - 10 ^ k)) =
              subst (x 10) (ap (λ (t : ℕ). 2 * (10 ^ f.digits * 10 ^ t) - 10 ^ t) i ∙ tenth_unit f.digits k) r.full in
              filled f.digits h k (omega (arith, w.reached (2 * (10 ^ f.digits * 10 ^ k) - 10 ^ k) (w.tenth (2 * (10 ^ f.digits * 10 ^ k) - 10 ^ k) full)));
        }

    is_some : 0 < h
    is_some =
        let l : 10 * 1 ≤ 2 * (10 ^ f.digits * 10 ^ e) - 10 ^ e = omega (arith, ten_above e, mul-le-mul_right (10 ^ e) (ten_rises some)) in
        w.reached 1 (w.tenth 1 (w.less (10 * 1) (2 * (10 ^ f.digits * 10 ^ e) - 10 ^ e) l r.full))

    settles : (s : ℕ) → settled f s h ≡ placed f s m e
    settles s = settled_at f s h e is_some is_right ∙ ap (λ (t : ℕ). placed f s t e) is_nearest

  -- what is rounded by its halves, above the lowest place, is rounded
  by_halves : (k m : ℕ) → Rounded f.digits h (10 ^ suc k) m → RoundedTo f.digits x (10 ^ suc k) m
  by_halves k m r =
      let u : ℕ = 10 ^ suc k in
      let v : ℕ = 2 * (10 ^ f.digits * 10 ^ k) - 10 ^ k in
      let low : 2 * (m * u) - u ≤ h = omega (arith, r.reached) in
      let tenth-low : v ≤ h = omega (arith, tenth_filled f.digits h k r.full) in
      record {
        at_least = w.reach (2 * (m * u) - u) low;
        below = λ y. omega (arith, w.reached (2 * (m * u) + u) y, r.not_passed);
        fits = r.fits;
        full = subst (x 10) (sym (tenth_unit f.digits k)) (w.tenfold v (w.reach v tenth-low));
      }

  number : (s t m a : ℕ) → settled f s h ≡ value t m a → Number f x s t m a
  number s t m a i =
      let z : Answer f s h t m a = answered f s h t m a i in
      let c : ℕ = f.digits - 1 in
      let k : ℕ = a + f.exponents - 1 in
      let e : a + f.exponents ≡ suc k = omega (arith, z.range) in
      let r : Rounded (suc c) h (10 ^ (a + f.exponents)) m = subst (λ (d : ℕ). Rounded d h (10 ^ (a + f.exponents)) m) (omega arith) z.rounded in
      record {
        sign = z.sign;
        first = rounded_first c h (10 ^ (a + f.exponents)) m (ten_above (a + f.exponents)) r;
        range = z.range;
        rounded =
            subst (λ (j : ℕ). RoundedTo f.digits x (10 ^ j) m) (sym e)
            (by_halves k m (subst (λ (j : ℕ). Rounded f.digits h (10 ^ j) m) e z.rounded));
      }

  -- the right place has digits that are rounded; at the lowest place the magnitude must be large enough
  some_place : x 10 (2 * 10 ^ f.digits - 1) → Somewhere f.digits x
  some_place large = at (some_right f.digits h).place (some_right f.digits h).right
    where
      at : (e : ℕ) → Right f.digits h e → Somewhere f.digits x
      at zero r =
          let m : ℕ = nearest h 0 in
          let low : 2 * (m * 10 ^ 0) - 10 ^ 0 ≤ h = omega (arith, nearest_reached h 0) in
          record {
            place = 0;
            digits = m;
            rounded =
                record {
                  at_least = w.reach (2 * (m * 10 ^ 0) - 10 ^ 0) low;
                  below = λ y. omega (arith, w.reached (2 * (m * 10 ^ 0) + 10 ^ 0) y, nearest_not_passed h 0);
                  fits = r.enough;
                  full = subst (x 10) (omega arith) large;
                };
          }
      at (suc k) r =
          record { place = suc k; digits = nearest h (suc k); rounded = by_halves k (nearest h (suc k)) (right_rounded f.digits h k r) }

  -- a magnitude that has not d digits at the lowest place
  small : (s : ℕ) → x 1 1 → (x 10 (2 * 10 ^ f.digits - 1) → ⊥) → settled f s h ≡ outside
  small s one few = settled_at f s h 0 (w.reached 1 one) lowest ∙ judged (dec_le f.exponents 0)
    where
      lowest : Right f.digits h 0
      lowest = record { enough = either (dec_le (10 ^ f.digits) (nearest h 0)); not_below = λ k i. absurd (omega arith) }
        where
          either : Dec (10 ^ f.digits ≤ nearest h 0) → nearest h 0 < 10 ^ f.digits
          either (no g) = lt_of_not-le g
          either (yes l) =
              let v : ℕ = 2 * 10 ^ f.digits - 1 in
              let g : v ≤ h = omega (arith, nearest_reached h 0) in
              absurd (few (w.less v (10 * v) (omega arith) (w.tenfold v (w.reach v g))))

      judged : Dec (f.exponents ≤ 0) → placed f s (nearest h 0) 0 ≡ outside
      judged (yes l) = placed_above f s (nearest h 0) 0 (omega arith)
      judged (no g) = placed_below f s (nearest h 0) 0 (lt_of_not-le g)

  none : (s : ℕ) → (x 1 1 → ⊥) → settled f s h ≡ nought
  none s less = settled_none f s h (either (dec_le 1 h))
    where
      either : Dec (1 ≤ h) → h ≡ 0
      either (yes l) = absurd (less (w.reach 1 l))
      either (no g) = omega (arith, lt_of_not-le g)

  rounds : Rounds f x h
  rounds =
      record {
        number = number;
        some = some_place;
        only =
            λ e m c n r q.
            let i : e ≡ c = one_place f.digits h e c (is_right e m r) (is_right c n q) in
            (i, sym (is_nearest e m r) ∙ ap (nearest h) i ∙ is_nearest c n q);
        within = λ s e m r l g. settles e m r s ∙ placed_within f s m e l g;
        under = λ s e m r l. settles e m r s ∙ placed_below f s m e l;
        over = λ s e m r l. settles e m r s ∙ placed_above f s m e l;
        small = small;
        none = none;
        zero = λ s i y. settled_zero f s h i (w.reached 1 y);
      }

pub fraction_rounds : FractionRounds
fraction_rounds f some p q pos = rounds f some (of_fraction p q) (fraction p q) halves
  where
    halves : Halves (of_fraction p q) (fraction p q)
    halves =
        record {
          reach = λ t l. omega (arith, (le-div_iff_mul-le {k = q} {x = t} {y = 2 * p} pos).0 l);
          reached = λ t l. (le-div_iff_mul-le {k = q} {x = t} {y = 2 * p} pos).1 (omega arith);
          tenfold = λ t l. omega arith;
          tenth = λ t l. omega arith;
          less = λ t v g l. omega (arith, mul-le-mul_right q g);
        }

pub root_rounds : RootRounds
root_rounds f some n room = rounds f some (of_root n) (root_halves f n) halves
  where
    h : ℕ
    h = root_halves f n

    cut : RootCut (4 * n) h
    cut = root_below_lem (7 * f.exponents) (4 * n) room

    halves : Halves (of_root n) h
    halves =
        record {
          reach = λ t l. omega (arith, mul-le-mul l l, cut.reached);
          reached = λ t l. no_larger (4 * n) t h (omega arith) cut.not_passed;
          tenfold = λ t l. omega arith;
          tenth = λ t l. omega arith;
          less = λ t v g l. omega (arith, mul-le-mul g g);
        }

-- Where the power of ten is no more than that of the units, the root has more digits than its square could; and else an odd square would be
-- a multiple of 4.
pub root_never_half : RootNeverHalf
root_never_half f some n k e m few least i = either (dec_le (e + e) k)
  where
    odd : ℕ
    odd = 2 * m + 1

    square : odd * odd * 10 ^ (e + e) ≡ 4 * n * 10 ^ k
    square = ap (λ (t : ℕ). odd * odd * t) (pow-add 10 e e) ∙ omega arith

    either : Dec (e + e ≤ k) → ⊥
    either (yes l) =
        let up : 4 * n * 10 ^ k ≡ 4 * n * 10 ^ (k - (e + e)) * 10 ^ (e + e) =
        ap (λ (t : ℕ). 4 * n * t) (ap (λ (t : ℕ). 10 ^ t) (omega arith) ∙ pow-add 10 (k - (e + e)) (e + e)) ∙ sym (mul_assoc (4 * n) (10 ^ (k - (e + e))) (10 ^ (e + e))) in
        let j : odd * odd ≡ 4 * n * 10 ^ (k - (e + e)) = eq_of_mul-eq-mul_right (10 ^ (e + e)) (ten_above (e + e)) (odd * odd) (4 * n * 10 ^ (k - (e + e))) (square ∙ up) in
        omega arith
    either (no g) =
        let l : k < e + e = lt_of_not-le g in
        let up : odd * odd * 10 ^ (e + e) ≡ odd * odd * 10 ^ (e + e - k) * 10 ^ k =
        ap (λ (t : ℕ). odd * odd * t) (ap (λ (t : ℕ). 10 ^ t) (omega arith) ∙ pow-add 10 (e + e - k) k) ∙ sym (mul_assoc (odd * odd) (10 ^ (e + e - k)) (10 ^ k)) in
        let j : odd * odd * 10 ^ (e + e - k) ≡ 4 * n = eq_of_mul-eq-mul_right (10 ^ k) (ten_above k) (odd * odd * 10 ^ (e + e - k)) (4 * n) (sym up ∙ square) in
        let one : 1 ≤ e + e - k = omega arith in
        let ten : 10 ≤ 10 ^ (e + e - k) = ten_rises one in
        let digits : 10 ^ f.digits ≡ 10 ^ (f.digits - 1) * 10 = ap (λ (t : ℕ). 10 ^ t) (omega arith) ∙ pow-suc 10 (f.digits - 1) in
        omega (arith, mul-le-mul_left (odd * odd) ten)
