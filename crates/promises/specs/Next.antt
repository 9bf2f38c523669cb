-- The order that comes next, for what is said of one order on any machine. Assumes nothing.
use Rattle.std.specs.Prelude.{ℕ, ◌+◌, ◌≤◌, ◌≡◌, true, length, Some}
use Rattle.rules.specs.Words.{pick}
use Rattle.rules.specs.Drum.{cell_at}
use Rattle.rules.specs.Machine.{Machine, Inputs, is_tracing}
use Rattle.rules.specs.Running.{order_fits, as_done, trace_sent, trace_size}

-- The next order is the word `order` in its cell, and is done as w; where tracing is on, its trace card has room.
pub record Next (i : Inputs) (m : Machine) (order w : ℕ) : Type 0 where
  pub long : length m.cells ≡ 1000
  pub behind_000 : 1 ≤ m.state.location
  pub within : m.state.location ≤ 999
  pub cell : cell_at m.cells m.state.location ≡ Some order
  pub fits : order_fits m.state order ≡ true
  pub is_done_as : as_done m.state order ≡ w
  pub room : is_tracing m.state ≡ true → length m.sent + trace_size ≤ i.room

-- the machine once the trace card is written
abbrev pub told : Machine → ℕ → ℕ → Machine
told m order w = pick (is_tracing m.state) (trace_sent m order w) m
