-- The newsletter's steps toward a root (section XI.3), in whole numbers, and how near they come. Assumes nothing.
use Rattle.std.specs.Prelude.{ℕ, ◌+◌, ◌-◌, ◌*◌, ◌/◌, ◌%◌, ◌^◌, ◌≤◌, ◌<◌, ◌≡◌, ◌⊎◌}

-- The step from x toward the root of n is half the sum of x and of n over x. This is that sum, cut to a whole number.
abbrev pub doubled : ℕ → ℕ → ℕ
doubled n x = n / x + x

-- The leading part B1 is b billionths: b is the ten digits of a number, of which the last two, its exponent, are too small there to matter.
-- At first its root is worked out in a unit of which 10 ^ 9 / 2 ^ 19 make .22, so that .22 B1 is b / 2 ^ 19. Of such units 1 is 8669.77, and by
-- the square of that the leading part is b * 4926.004 / 2 ^ 16.
abbrev pub scaled : ℕ → ℕ
scaled b = b * 4926 / 65536

-- The first guess, 1 + .22 B1.
abbrev pub guess : ℕ → ℕ
guess b = 8669 + b / 524288

-- The first step is left a fraction, p over q: the square of the guess and the leading part, over twice the guess.
abbrev pub above : ℕ → ℕ
above b = guess b * guess b + scaled b

abbrev pub beneath : ℕ → ℕ
beneath b = 2 * guess b

-- The second step comes in units of the eighth digit. There the root is that of the eight digits times 10 ^ 7, and for an odd exponent that
-- of ten times as much; half of a unit from before is 576.7168 of these, or that times the root of ten, and 2 ^ 27 over that is the scale. The
-- sum of p over q and of n over that is p squared and n times q squared, over p times q.
abbrev pub second : ℕ → ℕ → ℕ
second b scale = (above b * above b + scaled b * (beneath b * beneath b)) / (above b * (guess b * scale / 64) / 67108864)

abbrev pub even_scale : ℕ
even_scale = 14894620

abbrev pub odd_scale : ℕ
odd_scale = 4710092

-- The eight digits of b moved up, and the scale for its exponent, which is odd where b is.
abbrev pub Chosen : ℕ → ℕ → ℕ → Type 0
Chosen b n scale =
    ((b % 2 ≡ 0) × (n ≡ b / 100 * 10 ^ 7) × (scale ≡ even_scale)) ⊎ ((b % 2 ≡ 1) × (n ≡ b / 100 * 10 ^ 8) × (scale ≡ odd_scale))

-- The third step, rounded up.
abbrev pub third : ℕ → ℕ → ℕ
third n x = (doubled n x + 1) / 2

-- x is at most d off the root of n.
pub record Within (d n x : ℕ) : Type 0 where
  pub low : (x - d) * (x - d) ≤ n
  pub high : n ≤ (x + d) * (x + d)

-- r is the whole number nearest the root of n: that is below r and a half, and above r less a half. No root of a whole number is half way.
pub record NearestRoot (n r : ℕ) : Type 0 where
  pub under : n ≤ r * r + r
  pub over : r * r < n + r

-- r is that or one more: the root is below r and a half, and above r less one and a half.
pub record OneMore (n r : ℕ) : Type 0 where
  pub some : 1 ≤ r
  pub under : n ≤ r * r + r
  pub over : r * r + 2 < n + 3 * r

-- The steps arrive, for every leading part from 1 to 10. The guess is at most 1,908 units off, or .22, and the first step 173, or .02. In units
-- of the eighth digit the second is 1,933 off, or .00019, and for an odd exponent 6,111, as much times the root of ten; and the third, rounded
-- up, is the nearest number or one more.
pub record Arrives (b : ℕ) : Type 0 where
  pub guessed : Within 1908 (scaled b) (guess b)
  pub once : Within (173 * beneath b) (scaled b * (beneath b * beneath b)) (above b)
  pub twice_even : Within 1933 (b / 100 * 10 ^ 7) (second b even_scale)
  pub twice_odd : Within 6111 (b / 100 * 10 ^ 8) (second b odd_scale)
  pub thrice_even : OneMore (b / 100 * 10 ^ 7) (third (b / 100 * 10 ^ 7) (second b even_scale))
  pub thrice_odd : OneMore (b / 100 * 10 ^ 8) (third (b / 100 * 10 ^ 8) (second b odd_scale))

abbrev pub StepsArrive : Type 0
StepsArrive = (b : ℕ) → 10 ^ 9 ≤ b → b ≤ 10 ^ 10 → Arrives b
