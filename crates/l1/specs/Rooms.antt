-- The program's room after room is one large room. Assumes nothing.
use Rattle.std.specs.Prelude.{ℕ, ◌≤◌, ◌≡◌, List, false, length}
use Rattle.rules.specs.Running.{RunCall, ran}
use Rattle.promises.specs.Rooms.{is_full, most_sent, within}
use Rattle.l1.specs.Going.{ended_as, gone_on}

-- A run that goes on in its room whenever that is full comes to what one run comes to in any room in which it does not end with 22, if its
-- own room holds what any one order writes.
abbrev pub GoesOnAsInOne : Type 0
GoesOnAsInOne =
    (c : RunCall) (whole : List ℕ) → most_sent ≤ length c.out → is_full (ran (within c whole)).ending ≡ false
    → gone_on c.budget c 0 ≡ ended_as (ran (within c whole)) 0
