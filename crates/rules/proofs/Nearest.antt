-- The nearest whole number of units, and the place that a search from above finds: why there is one such place. Everything here holds
-- for any number of digits d. Assumes nothing.
use Prim.Native.Nat.{ℕ, zero, suc, ◌+◌, ◌*◌, ◌/◌, ◌^◌, ◌≤◌, ◌<◌}
use mathlib.Core.Path.{◌≡◌, refl, sym, subst, ◌∙◌}
use mathlib.Core.Bool.{Bool, true, false}
use native.Mathlib.Nat.{le_antisymm, lt_of_not-le, lt_of_mul-lt-mul_right, mul-le-mul_left, mul-le-mul_right, div-mul-le_self, lt-div-mul-add, le-div_iff_mul-le, one-le-pow, pow-le-pow_right, pow-suc, zero-lt-suc}
use native.Mathlib.Decide.{dec_le}
use native.Mathlib.Omega.{arith}
use lib.Dec.{ltb}
use borrow.Author.Tests.{ltb-true, ltb-false}
use Rattle.rules.specs.Words.{pick}
use Rattle.rules.specs.Rounding.{nearest, place}

pub ten_above : (k : ℕ) → 0 < 10 ^ k
ten_above k = one-le-pow k 10 (zero-lt-suc 9)

pub ten_rises : {e t : ℕ} → e ≤ t → 10 ^ e ≤ 10 ^ t
ten_rises l = pow-le-pow_right {n = 10} (zero-lt-suc 9) l

-- it is within half a unit, and the half goes up
module _ (h e : ℕ) where
  pub nearest_reached : 2 * (nearest h e * 10 ^ e) ≤ h + 10 ^ e
  unfolding nearest
  nearest_reached =
      let g : ℕ = h / 10 ^ e in
      let l : 2 * ((g + 1) / 2) ≤ g + 1 = omega arith in
      omega (arith, div-mul-le_self h (10 ^ e), mul-le-mul_right (10 ^ e) l)

  pub nearest_not_passed : h < 2 * (nearest h e * 10 ^ e) + 10 ^ e
  unfolding nearest
  nearest_not_passed =
      let g : ℕ = h / 10 ^ e in
      let l : g ≤ 2 * ((g + 1) / 2) = omega arith in
      omega (arith, lt-div-mul-add {a = h} {b = 10 ^ e} (ten_above e), mul-le-mul_right (10 ^ e) l)

-- whatever is within half a unit in that way is it
no_more : (h u m n : ℕ) → 2 * (m * u) ≤ h + u → h < 2 * (n * u) + u → m ≤ n
no_more h u m n low high =
    let l : m * u < suc n * u = omega arith in
    let g : m < suc n = lt_of_mul-lt-mul_right u l in
    omega arith

pub nearest_is : (h e m : ℕ) → 2 * (m * 10 ^ e) ≤ h + 10 ^ e → h < 2 * (m * 10 ^ e) + 10 ^ e → nearest h e ≡ m
nearest_is h e m low high =
    le_antisymm (no_more h (10 ^ e) (nearest h e) m (nearest_reached h e) high)
    (no_more h (10 ^ e) m (nearest h e) low (nearest_not_passed h e))

-- at a higher place there are no more units
nearest_falls : (h : ℕ) {e t : ℕ} → e ≤ t → nearest h t ≤ nearest h e
unfolding nearest
nearest_falls h {e} {t} l =
    let g : h / 10 ^ t * 10 ^ e ≤ h = omega (arith, mul-le-mul_left (h / 10 ^ t) (ten_rises l), div-mul-le_self h (10 ^ t)) in
    omega (arith, (le-div_iff_mul-le {k = 10 ^ e} {x = h / 10 ^ t} {y = h} (ten_above e)).1 g)

-- The place e is right for d digits: there they are enough, and a place below they are not.
pub record Right (d h e : ℕ) : Type 0 where
  pub enough : nearest h e < 10 ^ d
  pub not_below : (k : ℕ) → e ≡ suc k → 10 ^ d ≤ nearest h k

-- There is a right place: below one where the digits are enough, the lowest such; and at the place h there are none left.
pub record SomeRight (d h : ℕ) : Type 0 where
  pub place : ℕ
  pub right : Right d h place

right_below : (d h top : ℕ) → nearest h top < 10 ^ d → SomeRight d h
right_below d h zero l = record { place = 0; right = record { enough = l; not_below = λ k i. absurd (omega arith) } }
right_below d h (suc t) l = either (dec_le (10 ^ d) (nearest h t)) (right_below d h t)
  where
    either : Dec (10 ^ d ≤ nearest h t) → (nearest h t < 10 ^ d → SomeRight d h) → SomeRight d h
    either (no g) lower = lower (lt_of_not-le g)
    either (yes g) lower =
        record {
          place = suc t;
          right = record { enough = l; not_below = λ k i. subst (λ (x : ℕ). 10 ^ d ≤ nearest h x) (omega arith) g };
        }

below_ten : (h : ℕ) → h < 10 ^ h
below_ten zero = omega arith
below_ten (suc h) = omega (arith, below_ten h, pow-suc 10 h)

pub some_right : (d h : ℕ) → SomeRight d h
some_right d h = right_below d h h (omega (arith, nothing, ten_above d))
  where
    nothing : nearest h h ≡ 0
    nothing = nearest_is h h 0 (omega arith) (omega (arith, below_ten h))

-- What a search from the place top down finds, whether or not top was high enough.
record Found (d h top e : ℕ) : Type 0 where
  room : e ≤ top
  enough : e < top → nearest h e < 10 ^ d
  not_below : (k : ℕ) → e ≡ suc k → 10 ^ d ≤ nearest h k

module _ (d h : ℕ) where
  no_higher : (top e t : ℕ) → Found d h top e → Found d h top t → t ≤ e
  no_higher top e zero p q = omega arith
  no_higher top e (suc k) p q = either (dec_le (suc k) e)
    where
      either : Dec (suc k ≤ e) → suc k ≤ e
      either (yes l) = l
      either (no g) =
          let l : e < suc k = lt_of_not-le g in
          let w : e ≤ k = omega arith in
          absurd (omega (arith, p.enough (omega (arith, q.room)), q.not_below k refl, nearest_falls h w))

  one_found : (top e t : ℕ) → Found d h top e → Found d h top t → e ≡ t
  one_found top e t p q = le_antisymm (no_higher top t e q p) (no_higher top e t p q)

  by_test : (t e : ℕ) (b : Bool) → ltb (nearest h t) (10 ^ d) ≡ b → Found d h t e → Found d h (suc t) (pick b e (suc t))
  by_test t e true s p =
      record { room = omega (arith, p.room); enough = λ l. either (dec_le (suc e) t); not_below = p.not_below }
    where
      either : Dec (e < t) → nearest h e < 10 ^ d
      either (yes l) = p.enough l
      either (no g) =
          let i : t ≡ e = omega (arith, p.room, lt_of_not-le g) in
          subst (λ (x : ℕ). nearest h x < 10 ^ d) i (ltb-true (nearest h t) (10 ^ d) s)
  by_test t e false s p =
      record {
        room = omega arith;
        enough = λ l. omega arith;
        not_below = λ k i. subst (λ (x : ℕ). 10 ^ d ≤ nearest h x) (omega arith) (ltb-false (nearest h t) (10 ^ d) s);
      }

  found : (top : ℕ) → Found d h top (place d h top)
  unfolding place
  found zero = record { room = omega arith; enough = λ l. omega arith; not_below = λ k i. omega arith }
  found (suc t) = by_test t (place d h t) (ltb (nearest h t) (10 ^ d)) refl (found t)

  -- the search finds the right place, or stops at top where that is not high enough; and what it finds below top is right
  pub place_right : (top e : ℕ) → Right d h e → e ≤ top → place d h top ≡ e
  place_right top e r l =
      one_found top (place d h top) e (found top) (record { room = l; enough = λ w. r.enough; not_below = r.not_below })

  pub place_beyond : (top e : ℕ) → Right d h e → top < e → place d h top ≡ top
  place_beyond top zero r l = omega arith
  place_beyond top (suc c) r l = one_found top (place d h top) top (found top) stopped
    where
      stopped : Found d h top top
      stopped =
          record {
            room = omega arith;
            enough = λ w. omega arith;
            not_below = λ k i. let w : k ≤ c = omega arith in omega (arith, r.not_below c refl, nearest_falls h w);
          }

  pub right_place : (top : ℕ) → place d h top < top → Right d h (place d h top)
  right_place top l = record { enough = (found top).enough l; not_below = (found top).not_below }

  -- no two places are right
  pub one_place : (e t : ℕ) → Right d h e → Right d h t → e ≡ t
  one_place e t p q = sym (place_right (e + t) e p (omega arith)) ∙ place_right (e + t) t q (omega arith)
