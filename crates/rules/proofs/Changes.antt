-- What an address change answers, by either rule: a word, or a refusal that is not for want of room. Assumes nothing.
use Rattle.std.proofs.Common.{Err, Ok}
use Prim.Native.Nat.{ℕ, ◌+◌, ◌-◌, ◌≤◌}
use mathlib.Core.Path.{◌≡◌, refl}
use mathlib.Core.Bool.{Bool, true, false}
use native.Mathlib.Omega.{arith}
use lib.Dec.{leb}
use borrow.Author.Tests.{leb-true}
use Rattle.rules.specs.Words.{pick, digits_in, address_in, with_address, with_digits}
use Rattle.rules.specs.Orders.{new_address, shifted, raised_by, lowered_by, carried, changed_word}
use Rattle.rules.specs.declared.Address.{Address}
use Rattle.rules.specs.declared.Address.TheVariants.{OfA, OfB, OfC}
use Rattle.rules.specs.declared.Changing.{Changing}
use Rattle.rules.specs.declared.Changing.TheVariants.{SetTo, AddTo, SubFrom}
use Rattle.rules.specs.declared.Refusal.TheVariants.{BadAddress}
use Rattle.rules.proofs.Results.{Fits}
use Rattle.rules.proofs.Refusals.{OfReckoned}

-- ---- words

new_small : (k : Changing) (y c : ℕ) → c ≤ 999 → new_address k y c ≤ 999
new_small SetTo y c l = l
new_small AddTo y c l = omega arith
new_small SubFrom y c l = omega arith

swapped : (x : Address) (w new : ℕ) → w ≤ 19999999999 → new ≤ 999 → with_address x w new ≤ 19999999999
swapped OfA w new l k = omega arith
swapped OfB w new l k = omega arith
swapped OfC w new l k = omega arith

-- the sign of a word with any ten digits is a word
signed : (w d : ℕ) → w ≤ 19999999999 → d ≤ 9999999999 → with_digits w d ≤ 19999999999
signed w d l k = omega arith

raised_fits : (w n : ℕ) → w ≤ 19999999999 → Fits (raised_by w n)
raised_fits w n l = by_test (leb (digits_in w + n) 9999999999) refl
  where
    by_test : (t : Bool) → leb (digits_in w + n) 9999999999 ≡ t → Fits (pick t (Ok (with_digits w (digits_in w + n))) (Err BadAddress))
    by_test true e = signed w (digits_in w + n) l (leb-true (digits_in w + n) 9999999999 e)
    by_test false e = tt

lowered_fits : (w n : ℕ) → w ≤ 19999999999 → Fits (lowered_by w n)
lowered_fits w n l = by_test (leb n (digits_in w))
  where
    by_test : (t : Bool) → Fits (pick t (Ok (with_digits w (digits_in w - n))) (Err BadAddress))
    by_test true = signed w (digits_in w - n) l (omega arith)
    by_test false = tt

pub carried_fits : (k : Changing) (x : Address) (w c : ℕ) → w ≤ 19999999999 → c ≤ 999 → Fits (carried k x w c)
carried_fits SetTo x w c l j = swapped x w c l j
carried_fits AddTo x w c l j = raised_fits w (shifted x c) l
carried_fits SubFrom x w c l j = lowered_fits w (shifted x c) l

pub changed_fits : (t : Bool) (k : Changing) (x : Address) (w c : ℕ) → w ≤ 19999999999 → c ≤ 999 → Fits (changed_word t k x w c)
changed_fits true k x w c l j = carried_fits k x w c l j
changed_fits false k x w c l j = swapped x w (new_address k (address_in x w) c) l (new_small k (address_in x w) c j)

-- ---- refusals

if_held : (t : Bool) (w : ℕ) → OfReckoned (pick t (Ok w) (Err BadAddress))
if_held true w = tt
if_held false w = tt

pub changed_other : (t : Bool) (k : Changing) (x : Address) (w c : ℕ) → OfReckoned (changed_word t k x w c)
changed_other true SetTo x w c = tt
changed_other true AddTo x w c = if_held (leb (digits_in w + shifted x c) 9999999999) _
changed_other true SubFrom x w c = if_held (leb (shifted x c) (digits_in w)) _
changed_other false k x w c = tt
