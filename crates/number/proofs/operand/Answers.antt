-- `number::operand` meets its contract: a number has no more than one sign, and eight digits where it is not +0. Assumes nothing.
use Prim.Native.Nat.{ℕ, ◌≤◌}
use mathlib.Core.Path.{◌≡◌, refl, sym, ap, ◌∙◌}
use mathlib.Core.Bool.{Bool, true, false}
use native.Mathlib.Omega.{arith}
use lib.Dec.{leb}
use borrow.Author.Tests.{leb-true, leb-false}
use Rattle.std.specs.Int.{from_bool}
use Rattle.rules.specs.Words.{sign_in, leading_in, exponent_in}
use Rattle.rules.specs.Rounding.{Value}
use Rattle.rules.proofs.Words.{number_full, number_word}
use Rattle.number.proofs.operand.Goals as goal

sign_is : (w : ℕ) → w ≤ 19999999999 → from_bool (leb 10000000000 w) ≡ sign_in w
sign_is w word = by_test (leb 10000000000 w) refl
  where
    by_test : (b : Bool) → leb 10000000000 w ≡ b → from_bool b ≡ sign_in w
    by_test true l = let s : sign_in w ≡ 1 = omega (arith, word, leb-true 10000000000 w l) in sym s
    by_test false l = let s : sign_in w ≡ 0 = omega (arith, leb-false 10000000000 w l) in sym s

abbrev parted : ℕ → ℕ → Value
parted w s = record { sign = s; leading = leading_in w; exponent = exponent_in w }

pub invariant_of-result : goal.invariant_of-result
invariant_of-result c =
    record {
      most = omega arith;
      top = omega arith;
      least =
          λ some.
          (number_full c.args.w (sym c.is_number.ensures ∙ c.if-not-is_number.false) (λ z. omega (arith, some, z))).leading;
    }

pub returns : goal.returns
returns c =
    let number = sym c.is_number.ensures ∙ c.if-not-is_number.false in
    (number, ap (parted c.args.w) (sign_is c.args.w (number_word c.args.w number)))
