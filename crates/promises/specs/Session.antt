-- The plain session of the paper: its deck is loaded on an empty drum, in plain mode, and run with the switch on RUN.
-- Assumes nothing.
use Rattle.std.specs.Prelude.{ℕ, ◌≡◌, List, false, replicate, get_or}
use Rattle.rules.specs.Bytes.{bytes}
use Rattle.rules.specs.Running.{RunResult, ran}
use Rattle.rules.specs.Loads.{LoadResult, loaded}
use Rattle.rules.specs.Sheet.{sheet}
use Rattle.rules.specs.States.{no_state}
use Rattle.promises.specs.Calls.{load_of, run_of}

unfoldable pub deck : List ℕ
deck = bytes "30001101+1200201202+0410202202+000020200000720002200+1000000050+2000000050007T101007"

unfoldable pub empty_drum : List ℕ
empty_drum = replicate 1000 0

unfoldable pub session_load : LoadResult
session_load = loaded (load_of empty_drum empty_drum deck no_state false)

unfoldable pub session_run : RunResult
session_run =
    ran (run_of session_load.drum session_load.marks deck (replicate 100 0) session_load.state 999999 (record { stop = false }))

-- what is written, and that cell 202 was changed
pub record SessionHolds : Type 0 where
  pub writes : sheet session_run ≡ bytes "10001202+3000000050007Z000103000003+3000000050"
  pub changes : get_or session_run.drum 202 0 ≡ 3000000050
