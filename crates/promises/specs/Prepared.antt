-- Decks made of small drums, worked out: what the program then writes. They go through the rule where it is easily misread. The unmarked
-- cells hold a number that is no word. Assumes nothing.
use Rattle.std.specs.Prelude.{ℕ, zero, suc, ◌+◌, ◌≡◌, List, [], ◌∷◌, ◌++◌, map, replicate, set}
use Prim.Native.String.{String}
use Rattle.rules.specs.Bytes.{bytes}
use Rattle.rules.specs.Making.{MakeResult, made}
use Rattle.rules.specs.Sheet.{make_sheet}
use Rattle.promises.specs.Calls.{make_of}

-- a marked cell and the number in it
pub record Kept : Type 0 where
  pub cell : ℕ
  pub number : ℕ

abbrev pub kept : ℕ → ℕ → List Kept
kept a w = record { cell = a; number = w } ∷ []

-- n cells from a on, with the words w, w + 1 and so on
unfoldable pub upward : ℕ → ℕ → ℕ → List Kept
upward zero a w = []
upward (suc n) a w = record { cell = a; number = w } ∷ upward n (a + 1) (w + 1)

unfoldable pub drum_with : List Kept → List ℕ
drum_with [] = replicate 1000 123456789012345
drum_with (k ∷ ks) = set (drum_with ks) k.cell k.number

unfoldable pub marks_with : List Kept → List ℕ
marks_with [] = replicate 1000 0
marks_with (k ∷ ks) = set (marks_with ks) k.cell 1

-- the marked cells, first order and problem number, the room, and what is written
pub record Prepared : Type 0 where
  pub cells : List Kept
  pub order : ℕ
  pub problem : ℕ
  pub room : ℕ
  pub sheet : String

abbrev pub prepared : List Kept → ℕ → ℕ → ℕ → String → Prepared
prepared ks o p r w = record { cells = ks; order = o; problem = p; room = r; sheet = w }

abbrev pub made_in : Prepared → MakeResult
made_in p = made (make_of (drum_with p.cells) (marks_with p.cells) (replicate p.room 0) p.order p.problem)

unfoldable pub drums : List Prepared
drums =
    -- nothing is marked, or 000 alone, which is no part of the deck: just the first-order card
    prepared [] 101 7 7 "T101007" ∷
    prepared (kept 0 1000000050) 1 0 100 "T001000" ∷
    -- 999 alone, with minus zero; the first order's cell need not be marked
    prepared (kept 999 10000000000) 998 999 100 "10001999-0000000000999T998999" ∷
    -- six neighbours are five and one, at either end of the drum
    prepared (upward 6 1 11) 1 7 95
    "50001001+0000000011+0000000012+0000000013+0000000014+000000001500710002006+0000000016007T001007" ∷
    prepared (upward 6 994 11) 999 7 95
    "50001994+0000000011+0000000012+0000000013+0000000014+000000001500710002999+0000000016007T999007" ∷
    -- ten neighbours, 000 among eleven left out, are five and five
    prepared (upward 11 0 10) 1 0 139
    "50001001+0000000011+0000000012+0000000013+0000000014+000000001500050002006+0000000016+0000000017+0000000018+0000000019+0000000020000T001000" ∷
    -- no card goes across an unmarked cell, and those of 000 to 002 and 004 are two
    prepared (upward 2 1 1 ++ kept 4 4) 2 0 62 "20001001+0000000001+000000000200010002004+0000000004000T002000" ∷
    -- a room of a byte less
    prepared (upward 2 1 1 ++ kept 4 4) 2 0 61 "22 0" ∷
    -- the first order and the problem number at their ends and past them; 12 comes before 22, and 10 before both
    prepared [] 999 999 7 "T999999" ∷
    prepared [] 0 0 7 "12 0" ∷
    prepared [] 1000 0 7 "12 0" ∷
    prepared [] 1 1000 0 "12 0" ∷
    prepared (kept 500 20000000000) 0 1000 0 "10 0" ∷
    []

-- every drum gives the deck that it should
abbrev pub AllPrepared : Type 0
AllPrepared = map (λ p. make_sheet (made_in p)) drums ≡ map (λ p. bytes p.sheet) drums
