-- One address of a word taken out, C shifted to where it stands, and the sum by its digits: none goes past the word, and each is what the rules
-- make of it. Assumes nothing.
use Rattle.std.proofs.Common.{Err, Ok}
use Prim.Native.Nat.{ℕ, ◌+◌, ◌-◌, ◌*◌, ◌≤◌, ◌<◌}
use mathlib.Core.Path.{◌≡◌, ap}
use native.Mathlib.Omega.{arith}
use borrow.Author.Tests.{le-leb, lt-leb}
use Rattle.rules.specs.Words.{digits_in, address_in, worth_of, with_digits}
use Rattle.rules.specs.Orders.{shifted, raised_by, lowered_by}
use Rattle.rules.specs.declared.Address.{Address}
use Rattle.rules.specs.declared.Address.TheVariants.{OfA, OfB, OfC}
use Rattle.rules.specs.declared.Refusal.TheVariants.{BadAddress}

-- ---- by the address

shifted_in : (x : Address) (c : ℕ) → c < 1000 → shifted x c ≤ 999000000
shifted_in OfA c l = omega arith
shifted_in OfB c l = omega arith
shifted_in OfC c l = omega arith

pub shifted_small : (x : Address) {worth : ℕ} (c : ℕ) → worth ≡ worth_of x → c < 1000 → c * worth ≤ 999000000
shifted_small x c e l = rw e (shifted_in x c l)

taken_in : (x : Address) (w : ℕ) → (address_in x w * worth_of x ≤ w) × (address_in x w * worth_of x ≤ 999000000)
taken_in OfA w = (omega arith, omega arith)
taken_in OfB w = (omega arith, omega arith)
taken_in OfC w = (omega arith, omega arith)

pub taken_small : (x : Address) (w : ℕ) {old worth : ℕ} → old ≡ address_in x w → worth ≡ worth_of x → (old * worth ≤ w) × (old * worth ≤ 999000000)
taken_small x w e f = rw (e, f) (taken_in x w)

-- ---- by the digits

raised_word : (w n : ℕ) → w + n ≡ with_digits w (digits_in w + n)
raised_word w n = omega arith

lowered_word : (w n : ℕ) → n ≤ digits_in w → w - n ≡ with_digits w (digits_in w - n)
lowered_word w n l = omega arith

pub raised_past : (w n : ℕ) → 9999999999 < digits_in w + n → Err BadAddress ≡ raised_by w n
raised_past w n l = rw (lt-leb (digits_in w + n) 9999999999 l)

pub raised_held : (w n : ℕ) → digits_in w + n ≤ 9999999999 → Ok (w + n) ≡ raised_by w n
raised_held w n l = rw (le-leb (digits_in w + n) 9999999999 l) (ap Ok (raised_word w n))

pub lowered_past : (w n : ℕ) → digits_in w < n → Err BadAddress ≡ lowered_by w n
lowered_past w n l = rw (lt-leb n (digits_in w) l)

pub lowered_held : (w n : ℕ) → n ≤ digits_in w → Ok (w - n) ≡ lowered_by w n
lowered_held w n l = rw (le-leb n (digits_in w) l) (ap Ok (lowered_word w n l))
