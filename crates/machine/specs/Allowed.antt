-- What an operation may take for granted of its addresses, once the checks of its class have passed: PCH and READ, that B is not 000 nor
-- above C; a block move, that no cell of its blocks is past 999. And what telling an order on its trace card comes to. Assumes nothing.
use Rattle.std.specs.Prelude.{ℕ, ◌+◌, ◌≤◌, ◌≡◌, List, length, Ok, Err}
use Rattle.rules.specs.Machine.{Machine, Inputs}
use Rattle.rules.specs.Running.{obeyed, traced}
use Rattle.rules.specs.Answers.{Checked}
use Rattle.rules.specs.declared.Operation.{Operation}
use Rattle.rules.specs.declared.Operation.TheVariants.{Reckon, Move, Go, Loop, Change, Read, Pch, Trace, MoveBlock, Compare}
use Rattle.machine.specs.declared.desk.Desk.{Desk}
use Rattle.machine.specs.Lent.{Shows, Did}

abbrev pub Allowed : Operation → ℕ → ℕ → ℕ → Type 0
Allowed (Reckon r) a b c = Unit {0}
Allowed Move a b c = Unit {0}
Allowed (Go g) a b c = Unit {0}
Allowed (Loop x y z) a b c = Unit {0}
Allowed (Change k x) a b c = Unit {0}
Allowed Read a b c = (1 ≤ b) × (b ≤ c)
Allowed Pch a b c = (1 ≤ b) × (b ≤ c)
Allowed (Trace t) a b c = Unit {0}
Allowed MoveBlock a b c = (b + a ≤ 1000) × (c + a ≤ 1000)
Allowed (Compare x) a b c = Unit {0}

-- a desk and an output with which an order may be begun
pub record Begun (out : List ℕ) (desk : Desk) : Type 0 where
  pub located : desk.state.location ≤ 999
  pub inside : desk.written ≤ length out

-- the lent runs show some machine
pub record Shown (drum marks out : List ℕ) (desk : Desk) : Type 0 where
  pub old_drum : List ℕ
  pub old_out : List ℕ
  pub machine : Machine
  pub shows : Shows old_drum old_out drum marks out desk machine

-- by what telling the order w, done as x, answers: the machine with which the order is then obeyed, or that it is undone
abbrev pub ToldTo : Checked → Inputs → (drum₀ out₀ drum marks out : List ℕ) → Desk → Machine → ℕ → ℕ → Type 0
ToldTo (Ok _) i drum₀ out₀ drum marks out desk m w x =
    (u : Machine) × Shows drum₀ out₀ drum marks out desk u × (traced i m w x ≡ obeyed i u x)
ToldTo (Err r) i drum₀ out₀ drum marks out desk m w x = Did drum₀ out₀ drum marks out desk (Err r) (traced i m w x)

pub record Told (drum marks out : List ℕ) (desk : Desk) (out' : List ℕ) (desk' : Desk) (w x : ℕ) (r : Checked) : Type 0 where
  pub begun : Begun out' desk'
  pub mode_is : desk'.state.mode ≡ desk.state.mode
  pub comes :
      (i : Inputs) (drum₀ out₀ : List ℕ) (m : Machine) → length out₀ ≡ i.room → Shows drum₀ out₀ drum marks out desk m
      → ToldTo r i drum₀ out₀ drum marks out' desk' m w x
