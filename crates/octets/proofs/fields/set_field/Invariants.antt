-- `octets::set_field` meets its contract. The loop's invariant: the last digits stand in the output, and all else is as it was.
-- Assumes nothing.
use mathlib.Core.List.{List}
use mathlib.Core.Path.{◌≡◌}
use Prim.Native.Nat.{ℕ, ◌+◌, ◌-◌, ◌/◌, ◌^◌}
use Rattle.rules.specs.Cards.{digits}
use Rattle.octets.specs.Put.{splice}
use Rattle.octets.proofs.fields.set_field.Given as goal

-- the last k digits of x stand in the output from place e on, and y is what is left of x before them
pub record Passed (out₀ : List ℕ) (x k e : ℕ) (out : List ℕ) (y : ℕ) : Type 0 where
  pub left : y ≡ x / 10 ^ k
  pub bytes : out ≡ splice e (digits k x) out₀

abbrev pub invariant-loop-i : goal.invariant-loop-i
invariant-loop-i l = Passed l.initial.out l.x (l.n - l.i) (l.a + l.i) l.out l.y
