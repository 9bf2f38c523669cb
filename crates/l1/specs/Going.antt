-- A run in a room that is sent and emptied whenever it is full: the run goes on with the rest of its budget. Assumes nothing.
use Rattle.std.specs.Prelude.{ℕ, zero, suc, ◌+◌, ◌-◌, ◌≡◌, List, Bool, true, false, eqb}
use Rattle.rules.specs.Words.{pick}
use Rattle.rules.specs.Numbers.{ending_number, refusal_number}
use Rattle.rules.specs.Running.{RunCall, RunResult, ran}
use Rattle.rules.specs.Answers.{Ending}
use Rattle.rules.specs.declared.State.{State}
use Rattle.rules.specs.declared.Refusal.TheVariants.{NoRoom}
use Rattle.l1.specs.declared.sessions.Gone.{Gone}

-- Whether a run that ended so is to go on in an empty room: it was refused for want of room, and not with its first order, which would be
-- refused again.
abbrev pub may_refill : Ending → ℕ → Bool
may_refill e count = pick (eqb count 0) false (eqb (ending_number e) (refusal_number NoRoom))

-- what a run came to, room after room
pub record Whole : Type 0 where
  pub ending : Ending
  pub count : ℕ
  pub state : State
  pub drum : List ℕ
  pub marks : List ℕ

-- n orders were completed in the rooms before
abbrev pub ended_as : RunResult → ℕ → Whole
ended_as x n = record { ending = x.ending; count = n + x.count; state = x.state; drum = x.drum; marks = x.marks }

-- the call that goes on where another was left, in the same room
abbrev pub refilled : RunCall → RunResult → RunCall
refilled c x =
    record {
      drum = x.drum;
      marks = x.marks;
      out = x.out;
      deck = c.deck;
      state = x.state;
      budget = c.budget - x.count;
      switches = c.switches;
    }

-- At most k rooms more; each takes an order of the budget at the least.
unfoldable pub gone_on : ℕ → RunCall → ℕ → Whole
gone_on zero c n = ended_as (ran c) n
gone_on (suc k) c n =
    let x = ran c in
    elim (may_refill x.ending x.count) [
      | true ↦ gone_on k (refilled c x) (n + x.count)
      | false ↦ ended_as x n
    ]

-- the answer, and the drum and the marks
pub record WentOn (x : Whole) (drum marks : List ℕ) (r : Gone) : Type 0 where
  pub ending_is : r.ending ≡ x.ending
  pub count_is : r.count ≡ x.count
  pub state_is : r.state ≡ x.state
  pub drum_is : drum ≡ x.drum
  pub marks_are : marks ≡ x.marks
