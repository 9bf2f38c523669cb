-- A state with the cells as a machine. Assumes nothing.
use Rattle.std.specs.Prelude.{ℕ, List, []}
use Rattle.rules.specs.Drum.{view}
use Rattle.rules.specs.Machine.{Machine}
use Rattle.rules.specs.declared.State.{State}

-- the machine that lent runs show, but for what it has sent
abbrev pub machine_of : (drum marks : List ℕ) → State → Machine
machine_of drum marks s = record { cells = view drum marks; sent = []; state = s }
