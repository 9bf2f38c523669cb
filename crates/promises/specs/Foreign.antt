-- A cell that the job does not own is nobody's business: it changes nothing that anyone is told, and nothing changes it.
-- Assumes nothing.
use Rattle.std.specs.Prelude.{ℕ, ◌≡◌, List, length, get_or}
use Rattle.rules.specs.declared.State.{State}
use Rattle.promises.specs.Calls.{Call, History, history}

-- two drums as long as each other, with the same numbers in the marked cells
pub record Alike (drum₁ drum₂ marks : List ℕ) : Type 0 where
  pub long : length drum₁ ≡ length drum₂
  pub same : (i : ℕ) → (get_or marks i 0 ≡ 0 → ⊥) → get_or drum₁ i 0 ≡ get_or drum₂ i 0

-- all that is told is equal, and so are states, marks and marked cells
pub record SameFor (x y : History) : Type 0 where
  pub tolds_same : x.tolds ≡ y.tolds
  pub state_same : x.state ≡ y.state
  pub marks_same : x.marks ≡ y.marks
  pub drums_alike : Alike x.drum y.drum y.marks

-- The same calls on two drums that are alike tell the same, whatever the unmarked cells hold.
abbrev pub ForeignUnseen : Type 0
ForeignUnseen =
    (cs : List Call) (drum₁ drum₂ marks : List ℕ) (s : State) → Alike drum₁ drum₂ marks
    → SameFor (history cs drum₁ marks s) (history cs drum₂ marks s)

-- A cell that is unmarked after any calls was unmarked before them, and holds what it held.
abbrev pub ForeignKept : Type 0
ForeignKept =
    (cs : List Call) (drum marks : List ℕ) (s : State) (i : ℕ) → get_or (history cs drum marks s).marks i 0 ≡ 0
    → (get_or marks i 0 ≡ 0) × (get_or (history cs drum marks s).drum i 0 ≡ get_or drum i 0)

-- No call makes the drum longer or shorter.
abbrev pub LengthKept : Type 0
LengthKept = (cs : List Call) (drum marks : List ℕ) (s : State) → length (history cs drum marks s).drum ≡ length drum
