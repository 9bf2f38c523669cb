-- An order gives each answer exactly where it is due, if what it gives is due and nothing else is: for the refusals by the tests of the
-- operands, and for all else because what is rounded once is told by its halves. Assumes nothing.
use Rattle.std.proofs.Common.{Err, Ok}
use Prim.Native.Nat.{ℕ, zero, suc, ◌+◌, ◌-◌, ◌*◌, ◌^◌, ◌≤◌, ◌<◌}
use mathlib.Core.Path.{◌≡◌, refl, sym, ap, subst, ◌∙◌}
use mathlib.Core.Logic.{◌⊎◌, inl, inr}
use mathlib.Core.Bool.{Bool, true, false}
use native.Mathlib.Nat.{lt_of_not-le}
use native.Mathlib.Decide.{dec_le}
use native.Mathlib.Omega.{arith}
use Rattle.rules.specs.Words.{pick, both, is_number, sign_in, leading_in, exponent_in}
use Rattle.rules.specs.Rounding.{Settled, nought, value, outside, single, settled}
use Rattle.rules.specs.Arithmetic.{word_of, of_numbers, of_number}
use Rattle.rules.specs.Answers.{Reckoned}
use Rattle.rules.specs.declared.Refusal.TheVariants.{BadAddress, Unmarked, NoRoom, NotBuilt, NotNumber, ZeroDivisor, NegativeRoot, OutOfRange, Unfit, NoCard}
use Rattle.promises.specs.Rounding.{Magnitude, RoundedTo, Number, Somewhere, Rounds}
use Rattle.promises.specs.Reckoning.{Zero, IsRounded, WordDue, Beyond, Order, Taken, Due, Answers, Numbers}

-- ---- an answer that is due is given exactly then, if no other is

module _ (o : Order) (x : Reckoned) (due : Due o x) (number : Due o (Err NotNumber) → x ≡ Err NotNumber) (divisor : Due o (Err ZeroDivisor) → x ≡ Err ZeroDivisor) (root : Due o (Err NegativeRoot) → x ≡ Err NegativeRoot) (range : Due o (Err OutOfRange) → x ≡ Err OutOfRange) (word : (w : ℕ) → Due o (Ok w) → x ≡ Ok w) where
  one_due : (q : Reckoned) → Due o q → x ≡ q
  one_due (Ok w) d = word w d
  one_due (Err NotNumber) d = number d
  one_due (Err ZeroDivisor) d = divisor d
  one_due (Err NegativeRoot) d = root d
  one_due (Err OutOfRange) d = range d
  one_due (Err BadAddress) d = absurd d
  one_due (Err Unmarked) d = absurd d
  one_due (Err NoRoom) d = absurd d
  one_due (Err NotBuilt) d = absurd d
  one_due (Err Unfit) d = absurd d
  one_due (Err NoCard) d = absurd d

  given : Answers o x
  given q = (λ i. subst (Due o) i due, one_due q)

-- ---- what is rounded

-- a magnitude that is zero, or one that has eight digits at the lowest place
abbrev pub Sized : Magnitude → Type 0
Sized x = Zero x ⊎ ((x 1 1) × (x 10 (2 * 10 ^ 8 - 1)))

-- a word put together
parts : (w : ℕ) → sign_in w * 10000000000 + leading_in w * 100 + exponent_in w ≡ w
parts w = omega arith

module _ (o : Order) (h : ℕ) (r : Rounds single o.exact h) (t : Taken o) where
  -- whatever is due is what the halves settle
  pub word_due : (w : ℕ) → WordDue o.sign o.exact w → word_of (settled single o.sign h) ≡ Ok w
  word_due zero d = ap word_of (r.none o.sign (d 1))
  word_due (suc k) d =
      let w : ℕ = suc k in
      let i : settled single o.sign h ≡ value o.sign (leading_in w) (exponent_in w + 100 - 100) =
      r.within o.sign (exponent_in w + 100) (leading_in w) d.rounded (omega arith) (omega arith) in
      ap word_of i ∙ ap Ok (omega (arith, d.sign, parts w))

  beyond_due : Beyond o.exact → word_of (settled single o.sign h) ≡ Err OutOfRange
  beyond_due d = either (dec_le 100 d.place)
    where
      high : Dec (200 ≤ d.place) → 100 ≤ d.place → word_of (settled single o.sign h) ≡ Err OutOfRange
      high (yes l) g = ap word_of (r.over o.sign d.place d.digits d.rounded l)
      high (no l) g = absurd (d.outside g (lt_of_not-le l))

      either : Dec (100 ≤ d.place) → word_of (settled single o.sign h) ≡ Err OutOfRange
      either (no l) = ap word_of (r.under o.sign d.place d.digits d.rounded (lt_of_not-le l))
      either (yes l) = high (dec_le 200 d.place) l

  -- and what they settle is due
  word_is : (w : ℕ) → 0 < w → IsRounded o.sign o.exact w → WordDue o.sign o.exact w
  word_is zero l d = absurd (omega arith)
  word_is (suc k) l d = d

  is_due_lem : o.sign ≤ 1 → Sized o.exact → (v : Settled) → settled single o.sign h ≡ v → Due o (word_of v)
  is_due_lem bit (inl z) nought i = (t, z)
  is_due_lem bit (inr z) nought i = absurd (r.zero o.sign i z.0)
  is_due_lem bit size (value u m a) i =
      let n : Number single o.exact o.sign u m a = r.number o.sign u m a i in
      let w : ℕ = u * 10000000000 + m * 100 + a in
      let few : m < 100000000 = n.rounded.fits in
      let low : a < 100 = n.range in
      let top : u ≤ 1 = omega (arith, n.sign) in
      let most : 10000000 ≤ m = n.first in
      let digits : leading_in w ≡ m = omega arith in
      let exponent : exponent_in w ≡ a = omega arith in
      let rounded : RoundedTo 8 o.exact (10 ^ (exponent_in w + 100)) (leading_in w) =
      subst (λ (k : ℕ). RoundedTo 8 o.exact (10 ^ (exponent_in w + 100)) k) (sym digits)
      (subst (λ (k : ℕ). RoundedTo 8 o.exact (10 ^ (k + 100)) m) (sym exponent) n.rounded) in
      (t, word_is w (omega arith) (record { sign = omega (arith, n.sign); first = omega arith; rounded = rounded }))
  is_due_lem bit (inl z) outside i = absurd (let y : ◌≡◌ {A = ℕ} 0 1 = other (sym i ∙ r.none o.sign (z 1)) in omega arith)
    where
      other : outside ≡ nought → ◌≡◌ {A = ℕ} 0 1
      other j = cc
  is_due_lem bit (inr z) outside i =
      let k : Somewhere 8 o.exact = r.some z.1 in (
        t,
        record {
          place = k.place;
          digits = k.digits;
          rounded = k.rounded;
          outside =
              λ l g.
              let y : ◌≡◌ {A = ℕ} 0 1 = other k.digits (k.place - 100) (sym i ∙ r.within o.sign k.place k.digits k.rounded l g) in
              omega arith;
        },
      )
    where
      other : (m a : ℕ) → outside ≡ value o.sign m a → ◌≡◌ {A = ℕ} 0 1
      other m a j = cc

  pub answers : o.sign ≤ 1 → Sized o.exact → Answers o (word_of (settled single o.sign h))
  answers bit size =
      given o (word_of (settled single o.sign h)) (is_due_lem bit size (settled single o.sign h) refl) (λ d. absurd (d t.0)) (λ d. absurd (t.1 d.1)) (λ d. absurd (t.2 d.1))
      (λ d. beyond_due d.1) (λ w d. word_due w d.1)

-- ---- what is refused

pub refuses_words : (o : Order) → (o.numbers → ⊥) → Answers o (Err NotNumber)
refuses_words o n =
    given o (Err NotNumber) n (λ d. refl) (λ d. absurd (n d.0)) (λ d. absurd (n d.0)) (λ d. absurd (n d.0.0)) (λ w d. absurd (n d.0.0))

pub refuses_zero : (o : Order) → o.numbers → o.zero_divisor → (o.negative_root → ⊥) → Answers o (Err ZeroDivisor)
refuses_zero o n z p =
    given o (Err ZeroDivisor) (n, z) (λ d. absurd (d n)) (λ d. refl) (λ d. absurd (p d.1)) (λ d. absurd (d.0.1 z)) (λ w d. absurd (d.0.1 z))

pub refuses_negative : (o : Order) → o.numbers → (o.zero_divisor → ⊥) → o.negative_root → Answers o (Err NegativeRoot)
refuses_negative o n z p =
    given o (Err NegativeRoot) (n, p) (λ d. absurd (d n)) (λ d. absurd (z d.1)) (λ d. refl) (λ d. absurd (d.0.2 p)) (λ w d. absurd (d.0.2 p))

no_test : true ≡ false → ⊥
no_test y = let z : ◌≡◌ {A = ℕ} 0 1 = cc in omega arith

-- an order of two numbers, or of one, is refused where they are none
pub of_two : (o : Order) (a b : ℕ) (x : Reckoned) → (o.numbers → Numbers a b) → (Numbers a b → Answers o x) → Answers o (of_numbers a b x)
of_two o a b x to f = by_test (is_number a) refl (is_number b) refl
  where
    by_test : (p : Bool) → is_number a ≡ p → (q : Bool) → is_number b ≡ q → Answers o (pick (both p q) x (Err NotNumber))
    by_test true i true j = f (i, j)
    by_test true i false j = refuses_words o (λ n. no_test (sym (to n).1 ∙ j))
    by_test false i q j = refuses_words o (λ n. no_test (sym (to n).0 ∙ i))

pub of_one : (o : Order) (b : ℕ) (x : Reckoned) → (o.numbers → is_number b ≡ true) → (is_number b ≡ true → Answers o x) → Answers o (of_number b x)
of_one o b x to f = by_test (is_number b) refl
  where
    by_test : (q : Bool) → is_number b ≡ q → Answers o (pick q x (Err NotNumber))
    by_test true j = f j
    by_test false j = refuses_words o (λ n. no_test (sym (to n) ∙ j))
