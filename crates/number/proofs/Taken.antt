-- What an order answers once its operands are taken apart. Assumes nothing.
use Rattle.std.proofs.Common.{Err, IsErrAnd, not}
use Rattle.std.specs.Int.{from_bool}
use Rattle.std.proofs.lemmas.Result.{err_from_is_err_and}
use Prim.Native.Nat.{ℕ, ◌-◌}
use mathlib.Core.Path.{◌≡◌, refl, ap, ◌∙◌}
use mathlib.Core.Bool.{Bool, true, false}
use Rattle.rules.specs.Words.{is_number}
use Rattle.rules.specs.Rounding.{Value, signs}
use Rattle.rules.specs.Answers.{Reckoned}
use Rattle.rules.specs.Arithmetic.{of_number, of_numbers}
use Rattle.rules.specs.declared.Refusal.{Refusal}
use Rattle.rules.specs.declared.Refusal.TheVariants.{NotNumber}

-- what leaves a function by ? is the refusal that came
told : {d : Refusal} (r : Reckoned) → IsErrAnd r (λ y. y ≡ d) → r ≡ Err d
told r h = let p = err_from_is_err_and r h in p.1 ∙ ap Err p.2

-- r is what the order answers for numbers, and w what it answered
module _ (a : ℕ) (r : Reckoned) where
  pub of_one : is_number a ≡ true → r ≡ of_number a r
  of_one h = rw h refl

  pub no_number : {d : Refusal} (w : Reckoned) → IsErrAnd w (λ y. y ≡ d) → (is_number a ≡ false) × (d ≡ NotNumber) → w ≡ of_number a r
  no_number w left h = told w left ∙ rw (h.0, h.1) refl

  module _ (b : ℕ) where
    pub of_two : is_number a ≡ true → is_number b ≡ true → r ≡ of_numbers a b r
    of_two h g = rw (h, g) refl

    pub no_first : {d : Refusal} (w : Reckoned) → IsErrAnd w (λ y. y ≡ d) → (is_number a ≡ false) × (d ≡ NotNumber) → w ≡ of_numbers a b r
    no_first w left h = told w left ∙ rw (h.0, h.1) refl

    pub no_second : {d : Refusal} (w : Reckoned) → IsErrAnd w (λ y. y ≡ d) → is_number a ≡ true → (is_number b ≡ false) × (d ≡ NotNumber) → w ≡ of_numbers a b r
    no_second w left g h = told w left ∙ rw (g, h.0, h.1) refl

-- x and y as taken apart are v and w
module _ (x y v w : Value) (p : x ≡ v) (q : y ≡ w) where
  pub of_values : (g : Value → Value → Reckoned) → g x y ≡ g v w
  of_values g = ap (λ (t : Value). g t y) p ∙ ap (λ (t : Value). g v t) q

  pub of_signs : (g : ℕ → Value → Value → Reckoned) (s : ℕ) → s ≡ signs x y → g s x y ≡ g (signs v w) v w
  of_signs g s e = ap (λ (t : ℕ). g t x y) e ∙ of_values (λ t u. g (signs t u) t u)

pub other_sign : (s : Bool) → from_bool (not s) ≡ 1 - from_bool s
other_sign true = refl
other_sign false = refl
