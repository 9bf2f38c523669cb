-- Loops, said of the machine that the lent runs show: no count goes past 999, since a raised box stays only while its largest named
-- count is below B. Assumes nothing.
use Rattle.std.proofs.Common.{Ok}
use Prim.Native.Nat.{ℕ, ◌+◌, ◌≤◌, ◌<◌, max}
use mathlib.Core.Path.{◌≡◌, refl, ap, ◌∙◌}
use mathlib.Core.List.{List}
use mathlib.Core.Bool.{Bool, true, false}
use native.Mathlib.Omega.{arith}
use borrow.Author.Tests.{lt-ltb, le-ltb}
use Rattle.rules.specs.Machine.{Machine, went_to, counting, clear_box, done, count_a, count_b, count_c}
use Rattle.rules.specs.Orders.{raise, named, largest, raised, looped}
use Rattle.rules.specs.declared.Done.TheVariants.{GoesOn}
use Rattle.machine.specs.Lent.{Shows, Did}
use Rattle.rules.specs.declared.State.{State}
use Rattle.machine.specs.declared.desk.Desk.{Desk}

-- a raised count is at most what it is compared by, or what it was
raise_fits : (x : Bool) (n k : ℕ) → n ≤ 999 → named x n ≤ k → k ≤ 999 → raise x n ≤ 999
raise_fits true n k f g l = omega arith
raise_fits false n k f g l = f

module _ (s : State) (x y z : Bool) {b : ℕ} (l : largest s x y z < b) (k : b < 1000) where
  largest_is : largest s x y z ≡ max (named x (count_a s)) (max (named y (count_b s)) (named z (count_c s)))
  largest_is = refl

  pub a_stays : count_a s ≤ 999 → raise x (count_a s) ≤ 999
  a_stays f = raise_fits x (count_a s) (largest s x y z) f (omega (arith, largest_is)) (omega arith)

  pub b_stays : count_b s ≤ 999 → raise y (count_b s) ≤ 999
  b_stays f = raise_fits y (count_b s) (largest s x y z) f (omega (arith, largest_is)) (omega arith)

  pub c_stays : count_c s ≤ 999 → raise z (count_c s) ≤ 999
  c_stays f = raise_fits z (count_c s) (largest s x y z) f (omega (arith, largest_is)) (omega arith)

module _ {drum₀ out₀ drum marks out : List ℕ} {desk : Desk} {m : Machine} (h : Shows drum₀ out₀ drum marks out desk m) (x y z : Bool) (b c : ℕ) where
  same_largest : largest desk.state x y z ≡ largest m.state x y z
  same_largest = ap (λ (s : State). largest s x y z) h.state_is

  pub round_again : {desk' : Desk} → largest desk.state x y z < b → desk'.state ≡ counting (went_to desk.state c) (raised desk.state x y z)
      → desk'.written ≡ desk.written → Did drum₀ out₀ drum marks out desk' (Ok GoesOn) (done (looped m x y z b c))
  round_again l e f =
      rw (← same_largest, lt-ltb (largest desk.state x y z) b l)
      (record {
        outcome_is = refl;
        shows =
            record {
              memory = h.memory;
              output = h.output;
              state_is = e ∙ ap (λ (s : State). counting (went_to s c) (raised s x y z)) h.state_is;
              written_is = f ∙ h.written_is;
            };
      })

  pub round_out : {desk' : Desk} → b ≤ largest desk.state x y z → desk'.state ≡ counting (went_to desk.state (desk.state.location + 1)) clear_box
      → desk'.written ≡ desk.written → Did drum₀ out₀ drum marks out desk' (Ok GoesOn) (done (looped m x y z b c))
  round_out l e f =
      rw (← same_largest, le-ltb (largest desk.state x y z) b l)
      (record {
        outcome_is = refl;
        shows =
            record {
              memory = h.memory;
              output = h.output;
              state_is = e ∙ ap (λ (s : State). counting (went_to s (s.location + 1)) clear_box) h.state_is;
              written_is = f ∙ h.written_is;
            };
      })
