-- The newsletter's steps from its own first guess arrive at the root, for every leading part. Assumes nothing.
use Prim.Native.Nat.{ℕ, zero, suc, ◌+◌, ◌-◌, ◌*◌, ◌/◌, ◌^◌, ◌≤◌, ◌<◌}
use mathlib.Core.Path.{◌≡◌, sym, ap, subst, subst₂}
use mathlib.Core.Logic.{inl, inr}
use native.Mathlib.Nat.{mul-le-mul, mul-le-mul_left, mul-pos, le_of_mul-le-mul_right}
use native.Mathlib.Omega.{arith}
use lib.Dec.{lit≤}
use Rattle.rules.proofs.Roots.{no_larger}
use Rattle.number.specs.Steps.{scaled, guess, above, beneath, second, even_scale, odd_scale, Chosen, third, Within, OneMore, StepsArrive}
use Rattle.number.proofs.Newton.{Near, four_times, first_step, never_low, how_high, scaled_low, scaled_high, rounded}

-- what is divided by in the second step, by a scale c
module _ (p g c : ℕ) where
  doubled_back : c * (p * (2 * g)) ≡ 2 * (p * (g * c))
  doubled_back = omega arith

  cut_least : 8589934592 * (p * (g * c / 64) / 67108864) ≤ c * (p * (2 * g))
  cut_least =
      let l : 64 * (g * c / 64) ≤ g * c = omega arith in
      omega (arith, doubled_back, mul-le-mul_left p l)

  cut_most : p ≤ 1521266513 → c * (p * (2 * g)) ≤ 8589934592 * (p * (g * c / 64) / 67108864 + 24)
  cut_most few =
      let l : g * c ≤ 64 * (g * c / 64) + 63 = omega arith in
      omega (arith, doubled_back, mul-le-mul_left p l)

-- What is d off is no more than e off.
wider : (d e n x : ℕ) → d ≤ e → Within d n x → Within e n x
wider d e n x l w =
    let under : x - e ≤ x - d = omega arith in
    let over : x + d ≤ x + e = omega arith in
    record { low = omega (arith, w.low, mul-le-mul under under); high = omega (arith, w.high, mul-le-mul over over) }

-- Of a scale c: it makes no more of the leading part than u times the digits, and by a few millionths no less.
record Held (c u : ℕ) : Type 0 where
  no_more : 4 * (8589942784 * 8589942784) * 49260004926 ≤ c * c * 6553600000 * u
  no_less : u * 65536 * (c * c) * (20000 * 20000) ≤ 4 * (8589934592 * 8589934592) * (20001 * 20001) * 492599

-- so the second step x, made by that scale, is e off the root of u times the digits m
module _ (m n x c u e : ℕ) (some : 10 ^ 7 ≤ m) (positive : 0 < c * c) (held : Held c u) where
  not_above : 6553600000 * n ≤ 49260004926 * m → c * (x - e) * (c * (x - e)) ≤ 4 * (n * (8589942784 * 8589942784)) → (x - e) * (x - e) ≤ m * u
  not_above l high =
      le_of_mul-le-mul_right {k = c * c}
      (omega (arith, mul-le-mul_left m held.no_more))
      positive

  not_beneath : (w : ℕ) → m * u ≤ w * w → w + e + 20001 ≤ 20000 * e → (x - e) * (x - e) ≤ m * u → 492599 * m ≤ 65536 * n → 4 * (n * (8589934592 * 8589934592)) < (x + 1) * c * ((x + 1) * c) → m * u ≤ (x + e) * (x + e)
  not_beneath w root far under l low =
      let most : x - e ≤ w = no_larger (m * u) (x - e) w under (omega arith) in
      let over : 20001 * (x + 1) ≤ 20000 * (x + e) = omega arith in
      le_of_mul-le-mul_right {k = c * c}
      (omega (arith, mul-le-mul_left m held.no_less, mul-le-mul_left (c * c) (mul-le-mul over over)))
      positive

-- x that is e off a root of r or more is near it, if e is that small
near_of : (n x e r : ℕ) → r * r ≤ n → e * e + 2 * e ≤ 2 * r → 2 * e ≤ r → Within e n x → Near n x
near_of n x e r least small far w =
    let high : n ≤ (x + e) * (x + e) = w.high in
    let l : r ≤ x + e = no_larger n r (x + e) least (omega arith) in
    record { off = e; least = omega arith; small = omega arith; within = w }

near_some : (n x : ℕ) → 0 < n → Near n x → 0 < x
near_some n zero some p = absurd (omega (arith, some, p.within.high, mul-le-mul p.least p.least))
near_some n (suc x) some p = omega arith

bounds : (n x e : ℕ) → 0 < n → n ≤ 10 ^ 16 → e ≤ 10000 → Within e n x → Near n x → (0 < x) × (x ≤ 100010000)
bounds n x e some few l w p =
    let low : (x - e) * (x - e) ≤ n = w.low in
    let most : x - e ≤ 100000000 = no_larger n (x - e) 100000000 low (omega arith) in
    (near_some n x some p, omega arith)

arrived : (n x : ℕ) → 0 < n → Near n x → OneMore n (third n x)
arrived n x some p = rounded n x (near_some n x some p) p some

module _ (b : ℕ) (some : 10 ^ 9 ≤ b) (few : b ≤ 10 ^ 10) where
  pub guess_least : 10576 ≤ guess b
  guess_least = omega arith

  pub guess_most : guess b ≤ 27742
  guess_most = omega arith

  pub scaled_least : 75164794 ≤ scaled b
  scaled_least = omega arith

  pub scaled_most : scaled b ≤ 751647949
  scaled_most = omega arith

  -- The guess is farthest off where the leading part is 1; below the root it is less far off.
  guessed : Within 1908 (scaled b) (guess b)
  guessed =
      let f : ℕ = b / 524288 in
      let k : ℕ = f - 1907 in
      let most : k ≤ 22000 = omega arith in
      let is : 8669 + f - 1908 ≡ 8668 + k = omega arith in
      record { low = omega (arith, ap (λ (t : ℕ). t * t) is, mul-le-mul_left k most); high = omega (arith, four_times f 9127) }

  fraction : Within 3640464 (scaled b * (beneath b * beneath b)) (above b)
  fraction = first_step 1908 (scaled b) (guess b) (omega arith) guessed

  above_least : 187016570 ≤ above b
  above_least = omega (arith, mul-le-mul guess_least guess_least, scaled_least)

  pub above_most : above b ≤ 1521266513
  above_most = omega (arith, mul-le-mul guess_most guess_most, scaled_most)

  beneath_least : 21152 ≤ beneath b
  beneath_least = omega (arith, guess_least)

  once : Within (173 * beneath b) (scaled b * (beneath b * beneath b)) (above b)
  once = wider 3640464 (173 * beneath b) (scaled b * (beneath b * beneath b)) (above b) (omega (arith, beneath_least)) fraction

  -- The second step, by a scale c.
  module _ (c : ℕ) (most : c ≤ 14894620) (least : 4710092 ≤ c) where
    abbrev p : ℕ
    p = above b

    abbrev q : ℕ
    q = beneath b

    -- what is divided by
    abbrev t : ℕ
    t = p * (guess b * c / 64) / 67108864

    by_least : 187016570 * (10576 * c / 64) ≤ p * (guess b * c / 64)
    by_least =
        let l : 10576 * c ≤ guess b * c = mul-le-mul guess_least (omega arith) in
        let g : 10576 * c / 64 ≤ guess b * c / 64 = omega (arith, l) in
        mul-le-mul above_least g

    pub t_least : 2000000000 ≤ t
    t_least = omega (arith, by_least)

    -- In units of the eighth digit it is at most e above the root, which is 2 ^ 33 times that of four times the leading part, over the scale.
    second_high : (e : ℕ) → 13252978135296 ≤ e * t → c * (second b c - e) * (c * (second b c - e)) ≤ 4 * (scaled b * (8589942784 * 8589942784))
    second_high e l =
        scaled_high (scaled b) c t (p * q) (second b c - e) (omega (arith, t_least)) (cut_most p (guess b) c above_most) (how_high (scaled b) p q t (omega (arith, t_least)) 3640464 (omega (arith, above_least)) fraction e l)

    second_low : 4 * (scaled b * (8589934592 * 8589934592)) < (second b c + 1) * c * ((second b c + 1) * c)
    second_low =
        scaled_low (scaled b) c t (p * q) (second b c) (mul-pos (omega (arith, above_least)) (omega (arith, beneath_least))) (cut_least p (guess b) c) (never_low (scaled b) p q t (omega (arith, t_least)))

  -- With the scale for an even exponent, and with that for an odd one.
  in_unit : (c u e w : ℕ) (most : c ≤ 14894620) (least : 4710092 ≤ c) → b / 100 * u ≤ w * w → w + e + 20001 ≤ 20000 * e → 13252978135296 ≤ e * t c most least → Held c u → Within e (b / 100 * u) (second b c)
  in_unit c u e w most least root far l held =
      let positive : 0 < c * c = mul-pos {m = c} (omega arith) (omega arith) in
      let under : (second b c - e) * (second b c - e) ≤ b / 100 * u =
      not_above (b / 100) (scaled b) (second b c) c u e (omega arith) positive held (omega arith) (second_high c most least e l) in
      record {
        low = under;
        high = not_beneath (b / 100) (scaled b) (second b c) c u e (omega arith) positive held w root far under (omega arith) (second_low c most least);
      }

  pub twice_even_lem : Within 1933 (b / 100 * 10 ^ 7) (second b even_scale)
  twice_even_lem = in_unit even_scale (10 ^ 7) 1933 31622777 (omega arith) (omega arith) (omega arith) (omega arith) (omega (arith, by_least even_scale (omega arith) (omega arith))) (record { no_more = lit≤ tt; no_less = lit≤ tt })

  pub twice_odd_lem : Within 6111 (b / 100 * 10 ^ 8) (second b odd_scale)
  twice_odd_lem = in_unit odd_scale (10 ^ 8) 6111 100000000 (omega arith) (omega arith) (omega arith) (omega arith) (omega (arith, by_least odd_scale (omega arith) (omega arith))) (record { no_more = lit≤ tt; no_less = lit≤ tt })

  near_even : Near (b / 100 * 10 ^ 7) (second b even_scale)
  near_even = near_of (b / 100 * 10 ^ 7) (second b even_scale) 1933 10000000 (omega arith) (omega arith) (omega arith) twice_even_lem

  near_odd : Near (b / 100 * 10 ^ 8) (second b odd_scale)
  near_odd = near_of (b / 100 * 10 ^ 8) (second b odd_scale) 6111 31000000 (omega arith) (omega arith) (omega arith) twice_odd_lem

  pub thrice_even_lem : OneMore (b / 100 * 10 ^ 7) (third (b / 100 * 10 ^ 7) (second b even_scale))
  thrice_even_lem = arrived (b / 100 * 10 ^ 7) (second b even_scale) (omega arith) near_even

  pub thrice_odd_lem : OneMore (b / 100 * 10 ^ 8) (third (b / 100 * 10 ^ 8) (second b odd_scale))
  thrice_odd_lem = arrived (b / 100 * 10 ^ 8) (second b odd_scale) (omega arith) near_odd

  -- What the program chooses.
  pub thrice : (n scale : ℕ) → Chosen b n scale → OneMore n (third n (second b scale))
  thrice n scale (inl (even, u, s)) = subst₂ (λ (v c : ℕ). OneMore v (third v (second b c))) (sym u) (sym s) thrice_even_lem
  thrice n scale (inr (odd, u, s)) = subst₂ (λ (v c : ℕ). OneMore v (third v (second b c))) (sym u) (sym s) thrice_odd_lem

  pub second_few : (n scale : ℕ) → Chosen b n scale → (0 < second b scale) × (second b scale ≤ 100010000)
  second_few n scale (inl (even, u, s)) = subst (λ (c : ℕ). (0 < second b c) × (second b c ≤ 100010000)) (sym s) (bounds (b / 100 * 10 ^ 7) (second b even_scale) 1933 (omega arith) (omega arith) (omega arith) twice_even_lem near_even)
  second_few n scale (inr (odd, u, s)) = subst (λ (c : ℕ). (0 < second b c) × (second b c ≤ 100010000)) (sym s) (bounds (b / 100 * 10 ^ 8) (second b odd_scale) 6111 (omega arith) (omega arith) (omega arith) twice_odd_lem near_odd)

  pub n_some : (n scale : ℕ) → Chosen b n scale → (0 < n) × (n ≤ 10 ^ 16)
  n_some n scale (inl (even, u, s)) = (omega arith, omega arith)
  n_some n scale (inr (odd, u, s)) = (omega arith, omega arith)

pub steps_arrive : StepsArrive
steps_arrive b some few =
    record {
      guessed = guessed b some few;
      once = once b some few;
      twice_even = twice_even_lem b some few;
      twice_odd = twice_odd_lem b some few;
      thrice_even = thrice_even_lem b some few;
      thrice_odd = thrice_odd_lem b some few;
    }
