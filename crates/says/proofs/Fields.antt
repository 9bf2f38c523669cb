-- The closing of a run can always be written: what check 12 and check 10 let in stays within its fields. Assumes nothing.
use Rattle.std.proofs.Common.{Err, Ok}
use Prim.Native.Nat.{ℕ, ◌≤◌}
use mathlib.Core.Path.{◌≡◌, refl}
use mathlib.Core.Bool.{true}
use native.Mathlib.Omega.{arith}
use lib.Dec.{leb}
use borrow.Author.Tests.{le-leb}
use Rattle.rules.specs.Words.{both, is_word}
use Rattle.rules.specs.Numbers.{stop_number, refusal_number, outcome_number, outcome_shown}
use Rattle.rules.specs.Running.{RunResult, begun, inputs, ran_as}
use Rattle.rules.specs.Answers.{Outcome}
use Rattle.rules.specs.declared.Stop.{Stop}
use Rattle.rules.specs.declared.Stop.TheVariants.{Unconditional, Conditional, Lost}
use Rattle.rules.specs.declared.Refusal.{Refusal}
use Rattle.rules.specs.declared.Refusal.TheVariants.{BadAddress, Unmarked, NoRoom, NotBuilt, NotNumber, ZeroDivisor, NegativeRoot, OutOfRange, Unfit, NoCard}
use Rattle.rules.specs.declared.Done.TheVariants.{GoesOn, Stops}
use Rattle.rules.proofs.RoomRuns.{count_within}
use Rattle.rules.proofs.Entered.{course, of_run_lem, budget_small, left_sound, shown_word}
use Rattle.says.specs.Told.{may_close}
use Rattle.says.specs.Fields.{RunsClose}

-- ---- the stop number has two digits

stop_small : (k : Stop) → stop_number k ≤ 99
stop_small Unconditional = omega arith
stop_small Conditional = omega arith
stop_small Lost = omega arith

refusal_small : (r : Refusal) → refusal_number r ≤ 99
refusal_small BadAddress = omega arith
refusal_small Unmarked = omega arith
refusal_small NoRoom = omega arith
refusal_small NotBuilt = omega arith
refusal_small NotNumber = omega arith
refusal_small ZeroDivisor = omega arith
refusal_small NegativeRoot = omega arith
refusal_small OutOfRange = omega arith
refusal_small Unfit = omega arith
refusal_small NoCard = omega arith

pub outcome_small : (o : Outcome) → outcome_number o ≤ 99
outcome_small (Ok (Stops k w)) = stop_small k
outcome_small (Ok GoesOn) = omega arith
outcome_small (Err r) = refusal_small r

-- a Z card of these numbers, with any count that has six digits
pub stop_closes : (number location count shown : ℕ) → number ≤ 99 → location ≤ 1000 → count ≤ 999999 → shown ≤ 19999999999
    → both (leb number 99) (both (leb location 9999) (both (leb count 999999) (is_word shown))) ≡ true
stop_closes number location count shown a b c d =
    simp (le-leb number 99 a, le-leb location 9999 (omega arith), le-leb count 999999 c, le-leb shown 19999999999 d)

pub runs_close : RunsClose
unfolding ran_as
runs_close c =
    of_run_lem (λ (r : RunResult). may_close r.ending r.state r.count ≡ true) c (λ b. refl)
    (λ f.
    let x = course c in
    stop_closes (outcome_number x.outcome) x.machine.state.location x.count (outcome_shown x.outcome)
    (outcome_small x.outcome) (left_sound c f).state.location
    (omega (arith, budget_small c f, (count_within (inputs c) c.budget (begun c) 0).1))
    (shown_word c f))
