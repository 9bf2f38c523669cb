-- The thirteen examples of the paper, P1 to P13: each row is an order on a small machine, and what one step makes of it.
-- Assumes nothing.
use Rattle.std.specs.Prelude.{ℕ, ◌≡◌, List, [], ◌∷◌, map, false, Some, None}
use Rattle.rules.specs.Numbers.{outcome_number}
use Rattle.rules.specs.Drum.{cell_at}
use Rattle.rules.specs.Machine.{Machine, Answer, present}
use Rattle.rules.specs.Running.{step}
use Rattle.rules.specs.Answers.{Cell}

-- what one sees after the step: the number (02: the run goes on), where the next order is, the loop box, and cells 000 and 004, of which
-- each is owned and has a word, or is not owned
pub record Seen : Type 0 where
  pub number : ℕ
  pub location : ℕ
  pub box : List ℕ
  pub previous : Cell
  pub stored : Cell

-- a name, the order, the words in cells 000, 002 and 003 before it, and what is seen after it
pub record Row : Type 0 where
  pub example : ℕ
  pub order : ℕ
  pub previous : ℕ
  pub a : ℕ
  pub b : ℕ
  pub wanted : Seen

abbrev pub row : ℕ → ℕ → ℕ → ℕ → ℕ → Seen → Row
row p o w a b s = record { example = p; order = o; previous = w; a = a; b = b; wanted = s }

-- the order stands in 001; its operands in 002 and 003; 004 is not owned
abbrev pub machine_of : Row → Machine
machine_of r =
    record {
      cells = Some r.previous ∷ Some r.order ∷ Some r.a ∷ Some r.b ∷ None ∷ [];
      sent = [];
      state = record { location = 1; counts = 3 ∷ 1 ∷ 4 ∷ []; counter = 0; problem = 7; reader = 0; mode = 0; tracing = 0 };
    }

abbrev pub seen_in : Answer → Seen
seen_in x =
    record {
      number = outcome_number x.outcome;
      location = x.machine.state.location;
      box = x.machine.state.counts;
      previous = cell_at x.machine.cells 0;
      stored = cell_at x.machine.cells 4;
    }

abbrev pub made : Row → Seen
made r = seen_in (step (record { deck = []; room = 0; switches = record { stop = false }; requests = present }) (machine_of r))

-- the result is in 000 and in 004, and the next order is in 002
abbrev pub gives : ℕ → Seen
gives w = record { number = 2; location = 2; box = 3 ∷ 1 ∷ 4 ∷ []; previous = Some w; stored = Some w }

-- the order is undone: 000 holds what it held, and 004 is not owned, so nothing was stored there
abbrev pub refuses : ℕ → ℕ → Seen
refuses n w = record { number = n; location = 1; box = 3 ∷ 1 ∷ 4 ∷ []; previous = Some w; stored = None }

-- nothing is stored: 000 holds what it held, and 004 is not owned; the next order and the box are these
abbrev pub goes : ℕ → List ℕ → ℕ → Seen
goes l box w = record { number = 2; location = l; box = box; previous = Some w; stored = None }

unfoldable pub rows : List Row
rows =
    row 1 1002003004 0 1000000050 1000000050 (gives 2000000050) ∷
    row 2 2002003004 5000000050 1000000050 1000000050 (gives 0000000000) ∷
    row 3 4002003004 0 1000000050 3000000050 (gives 3333333349) ∷
    row 4 4002003004 0 2000000050 3000000050 (gives 6666666749) ∷
    row 5 1002003004 0 9999999950 5000000042 (gives 1000000051) ∷
    row 6 1002003004 0 9999999999 5000000091 (refuses 27 0) ∷
    row 7 3002003004 0 1000000000 1000000049 (refuses 27 0) ∷
    row 8 4002003004 5000000050 0 0 (refuses 25 5000000050) ∷
    row 9 5002003004 0 2000000050 3000000050 (gives 16000000050) ∷
    row 10 0300002004 0 2000000050 0 (gives 1414213650) ∷
    row 11 0100000004 0 0 0 (goes 2 (0 ∷ 0 ∷ 0 ∷ []) 0) ∷
    row 12 0201003002 10000000000 0 0 (goes 3 (3 ∷ 1 ∷ 4 ∷ []) 10000000000) ∷
    row 13 0400005004 0 0 0 (refuses 20 0) ∷ []

-- every row's step is as wanted
abbrev pub AllRows : Type 0
AllRows = map made rows ≡ map (λ r. r.wanted) rows
