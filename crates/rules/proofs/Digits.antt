-- Digits written and read, over any width: a number that is written is the number that is read there, and digit bytes that are read
-- are the bytes that are written. Assumes nothing.
use mathlib.Core.Path.{◌≡◌, refl, sym, ap, ap₂, ◌∙◌}
use mathlib.Core.List.{List, ◌∷◌, ◌++◌}
use mathlib.Core.Bool.{Bool, true, false}
use Prim.Native.Nat.{ℕ, zero, suc, ◌+◌, ◌-◌, ◌*◌, ◌/◌, ◌%◌, ◌^◌, ◌≤◌, ◌<◌}
use native.Mathlib.Nat.{add-zero, zero-add, pow-suc, pow-succ', mod-eq_of_lt, mul-add-mod_self_right, mul-add-div_right, le_of_suc-le-suc}
use native.Mathlib.Omega.{arith}
use lib.Pow.{pow-add}
use lib.Arith.{mod-mul, digits_div}
use lib.Dec.{leb, ltb}
use lib.ListN.{length, get_or, take, drop}
use lib.Seq.{get_or-drop, drop-cons}
use borrow.Author.Tests.{leb-true, ltb-true, ltb-false}
use Rattle.rules.specs.Cards.{digits, is_digit, number_in}
use Rattle.rules.proofs.Tests.{both_first, both_second}

-- ---- powers of ten

pub ten_pos : (n : ℕ) → 0 < 10 ^ n
ten_pos zero = omega arith
ten_pos (suc n) = let h = ten_pos n in rw pow-suc (omega arith)

-- the last n + 1 digits are the first of them and the last n
last_digits : (n x : ℕ) → x % 10 ^ suc n ≡ x / 10 ^ n % 10 * 10 ^ n + x % 10 ^ n
last_digits n x = ap (λ (k : ℕ). x % k) (pow-succ' 10 n) ∙ mod-mul x {m = 10} {c = 10 ^ n} (omega arith) (ten_pos n)

-- ---- written

pub length_digits : (n x : ℕ) → length (digits n x) ≡ n
unfolding digits
length_digits zero x = refl
length_digits (suc n) x = ap suc (length_digits n x)

-- the ith of n digits
pub digits_at : (n x i : ℕ) → i < n → get_or (digits n x) i 0 ≡ 48 + x / 10 ^ (n - 1 - i) % 10
unfolding digits
digits_at zero x i h = absurd (let z : ⊥ = omega arith in z)
digits_at (suc n) x zero h =
    let e : n ≡ suc n - 1 - 0 = omega arith in
    ap (λ (k : ℕ). 48 + x / 10 ^ k % 10) e
digits_at (suc n) x (suc i) h =
    let e : n - 1 - i ≡ suc n - 1 - suc i = omega arith in
    digits_at n x i (le_of_suc-le-suc h) ∙ ap (λ (k : ℕ). 48 + x / 10 ^ k % 10) e

-- what stands above the last n digits is not written
pub digits_low : (n j y x : ℕ) → digits n (y * 10 ^ (j + n) + x) ≡ digits n x
unfolding digits
digits_low zero j y x = refl
digits_low (suc n) j y x =
    let e : y * 10 ^ (j + suc n) ≡ y * 10 ^ j * 10 * 10 ^ n =
    ap (λ (k : ℕ). y * k) (pow-add 10 j (suc n) ∙ ap (λ (k : ℕ). 10 ^ j * k) (pow-succ' 10 n)) ∙ omega arith in
    let q : (y * 10 ^ (j + suc n) + x) / 10 ^ n ≡ y * 10 ^ j * 10 + x / 10 ^ n =
    ap (λ (k : ℕ). (k + x) / 10 ^ n) e ∙ mul-add-div_right (ten_pos n) (y * 10 ^ j * 10) x in
    let here : (y * 10 ^ (j + suc n) + x) / 10 ^ n % 10 ≡ x / 10 ^ n % 10 =
    ap (λ (k : ℕ). k % 10) q ∙ mul-add-mod_self_right (y * 10 ^ j) 10 (x / 10 ^ n) in
    let p : j + suc n ≡ suc j + n = omega arith in
    ap₂ (λ (b : ℕ) (l : List ℕ). (48 + b) ∷ l) here (ap (λ (k : ℕ). digits n (y * 10 ^ k + x)) p ∙ digits_low n (suc j) y x)

-- ---- read: a field by its first digit, and a field inside a longer run of bytes

number_first : (d : List ℕ) (a n : ℕ) → number_in d a (suc n) ≡ (get_or d a 0 - 48) * 10 ^ n + number_in d (suc a) n
unfolding number_in
number_first d a zero = rw (add-zero a) (omega arith)
number_first d a (suc n) =
    let e : get_or d (a + suc n) 0 ≡ get_or d (suc a + n) 0 = ap (λ (k : ℕ). get_or d k 0) (omega arith) in
    let h = number_first d a n in
    rw (pow-suc, e) (omega arith)

-- bytes in front of it make no difference
pub number_dropped : (d : List ℕ) (b a n : ℕ) → number_in (drop b d) a n ≡ number_in d (b + a) n
unfolding number_in
number_dropped d b a zero = refl
number_dropped d b a (suc n) =
    let e : get_or (drop b d) (a + n) 0 ≡ get_or d (b + a + n) 0 =
    get_or-drop b d (a + n) 0 ∙ ap (λ (k : ℕ). get_or d k 0) (omega arith) in
    ap₂ (λ (x b : ℕ). 10 * x + (b - 48)) (number_dropped d b a n) e

-- ---- written and read

digits_read : (n x : ℕ) (r : List ℕ) → number_in (digits n x ++ r) 0 n ≡ x % 10 ^ n
unfolding digits number_in
digits_read zero x r = omega arith
digits_read (suc n) x r =
    let b : ℕ = 48 + x / 10 ^ n % 10 in
    let t : List ℕ = digits n x ++ r in
    let e : number_in (b ∷ t) 1 n ≡ x % 10 ^ n = sym (number_dropped (b ∷ t) 1 0 n) ∙ digits_read n x r in
    number_first (b ∷ t) 0 n ∙ ap₂ (λ (k m : ℕ). k * 10 ^ n + m) (omega arith) e ∙ sym (last_digits n x)

-- n digits of x, from place a on, are read as the last n digits of x; as x where x has no more
pub number_low : (d r : List ℕ) (a n x : ℕ) → drop a d ≡ digits n x ++ r → number_in d a n ≡ x % 10 ^ n
number_low d r a n x e =
    ap (λ (k : ℕ). number_in d k n) (sym (add-zero a))
    ∙ sym (number_dropped d a 0 n)
    ∙ ap (λ (l : List ℕ). number_in l 0 n) e
    ∙ digits_read n x r

pub number_read : (d r : List ℕ) (a n x : ℕ) → drop a d ≡ digits n x ++ r → x < 10 ^ n → number_in d a n ≡ x
number_read d r a n x e h = number_low d r a n x e ∙ mod-eq_of_lt h

-- ---- read and written

-- the byte at each place from a up to e is a digit
abbrev pub AllDigits : List ℕ → ℕ → ℕ → Type 0
AllDigits d a e = (o : ℕ) → a ≤ o → o < e → is_digit (get_or d o 0) ≡ true

digit_bounds : (b : ℕ) → is_digit b ≡ true → (48 ≤ b) × (b ≤ 57)
digit_bounds b e = (leb-true 48 b (both_first (leb 48 b) (leb b 57) e), leb-true b 57 (both_second (leb 48 b) (leb b 57) e))

pub digits_join : (d : List ℕ) (a b e : ℕ) → AllDigits d a b → AllDigits d b e → AllDigits d a e
digits_join d a b e f g o i l = by_place (ltb o b) refl
  where
    by_place : (t : Bool) → ltb o b ≡ t → is_digit (get_or d o 0) ≡ true
    by_place true q = f o i (ltb-true o b q)
    by_place false q = g o (ltb-false o b q) l

pub number_below : (d : List ℕ) (a n : ℕ) → AllDigits d a (a + n) → number_in d a n < 10 ^ n
unfolding number_in
number_below d a zero h = omega arith
number_below d a (suc n) h =
    let l = number_below d a n (λ o i k. h o i (omega arith)) in
    let t = digit_bounds (get_or d (a + n) 0) (h (a + n) (omega arith) (omega arith)) in
    rw pow-suc (omega arith)

-- n digit bytes from place a on, read as a number, are written as themselves
pub number_written : (d : List ℕ) (a n : ℕ) → a + n ≤ length d → AllDigits d a (a + n) → digits n (number_in d a n) ≡ take n (drop a d)
unfolding digits
number_written d a zero l h = refl
number_written d a (suc n) l h =
    let b : ℕ = get_or d a 0 in
    let m : ℕ = number_in d (suc a) n in
    let rest : AllDigits d (suc a) (suc a + n) = λ o i k. h o (omega arith) (omega arith) in
    let t : (48 ≤ b) × (b ≤ 57) = digit_bounds b (h a (omega arith) (omega arith)) in
    let e : number_in d a (suc n) ≡ (b - 48) * 10 ^ n + m = number_first d a n in
    let q : number_in d a (suc n) / 10 ^ n ≡ b - 48 = ap (λ (k : ℕ). k / 10 ^ n) e ∙ digits_div (b - 48) (number_below d (suc a) n rest) in
    let here : 48 + number_in d a (suc n) / 10 ^ n % 10 ≡ b = ap (λ (k : ℕ). 48 + k % 10) q ∙ omega arith in
    let low : digits n (number_in d a (suc n)) ≡ take n (drop (suc a) d) =
    ap (digits n) (e ∙ ap (λ (k : ℕ). (b - 48) * 10 ^ k + m) (sym (zero-add n)))
    ∙ digits_low n 0 (b - 48) m
    ∙ number_written d (suc a) n (omega arith) rest in
    ap₂ (λ (x : ℕ) (y : List ℕ). x ∷ y) here low ∙ sym (ap (take (suc n)) (drop-cons d a 0 (omega arith)))
