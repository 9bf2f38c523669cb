-- That the closing of a run can always be written. Assumes nothing.
use Rattle.std.specs.Prelude.{◌≡◌, true}
use Rattle.rules.specs.Running.{RunCall, ran}
use Rattle.says.specs.Told.{may_close}

-- Whatever a run is lent and given, each number of its Z card fits its field: the stop number, the location, the count and the word shown.
abbrev pub RunsClose : Type 0
RunsClose = (c : RunCall) → may_close (ran c).ending (ran c).state (ran c).count ≡ true
