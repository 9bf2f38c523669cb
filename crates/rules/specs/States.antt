-- The machine state as nine numbers in a row, as a C program keeps it: location, the counts A, B and C of the loop box, card counter,
-- problem number, reader, mode and tracing. Assumes nothing.
use Rattle.std.specs.Prelude.{ℕ, List, [], ◌∷◌, get_or}
use Rattle.rules.specs.Machine.{count_a, count_b, count_c}
use Rattle.rules.specs.declared.State.{State}

abbrev pub state_in : List ℕ → State
state_in row =
    record {
      location = get_or row 0 0;
      counts = get_or row 1 0 ∷ get_or row 2 0 ∷ get_or row 3 0 ∷ [];
      counter = get_or row 4 0;
      problem = get_or row 5 0;
      reader = get_or row 6 0;
      mode = get_or row 7 0;
      tracing = get_or row 8 0;
    }

abbrev pub numbers_of : State → List ℕ
numbers_of s =
    s.location ∷ count_a s ∷ count_b s ∷ count_c s ∷ s.counter ∷ s.problem ∷ s.reader ∷ s.mode ∷ s.tracing ∷ []

-- the state of a machine that nothing was loaded on: nine zeros
abbrev pub no_state : State
no_state = state_in []
