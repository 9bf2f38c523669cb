-- Worked sessions, each a deck loaded on an empty drum and run once: what the program then writes. They go through the rules where these
-- are easily misread. Assumes nothing.
use Rattle.std.specs.Prelude.{ℕ, ◌≡◌, List, [], ◌∷◌, ◌++◌, map, Bool, true, false, replicate, Ok, Err}
use Prim.Native.String.{String}
use Rattle.rules.specs.Bytes.{bytes}
use Rattle.rules.specs.Running.{RunResult, ran}
use Rattle.rules.specs.Loads.{LoadResult, loaded}
use Rattle.rules.specs.Sheet.{sheet, load_line}
use Rattle.rules.specs.States.{no_state}
use Rattle.rules.specs.Answers.{Loading}
use Rattle.promises.specs.Calls.{load_of, run_of}
use Rattle.promises.specs.Session.{empty_drum}

-- a deck, whether the load is traced, whether the switch is on STOP, the budget, the room for cards, and what is written
pub record Worked : Type 0 where
  pub deck : String
  pub traced : Bool
  pub stop : Bool
  pub budget : ℕ
  pub room : ℕ
  pub sheet : String

abbrev pub worked : String → Bool → Bool → ℕ → ℕ → String → Worked
worked d t s b r w = record { deck = d; traced = t; stop = s; budget = b; room = r; sheet = w }

abbrev pub load_in : Worked → LoadResult
load_in w = loaded (load_of empty_drum empty_drum (bytes w.deck) no_state w.traced)

-- the deck is run from the state that the load left
abbrev pub run_in : Worked → LoadResult → RunResult
run_in w x =
    ran (run_of x.drum x.marks (bytes w.deck) (replicate w.room 0) x.state w.budget (record { stop = w.stop }))

-- a refused load is told by its line, and there is no run
abbrev pub run_lines : Worked → LoadResult → Loading → List ℕ
run_lines w x (Ok _) = sheet (run_in w x)
run_lines w x (Err b) = []

abbrev pub sheet_of : Worked → List ℕ
sheet_of w = let x = load_in w in load_line x.loading ++ run_lines w x x.loading

-- READ of 010 to 012 meets a card that fits and then one that does not
unfoldable pub misfit : Worked
misfit =
    worked "20001001+0400010012+0410010010000T00100020009010+1000000050+200000005000010009013-0000000000000" false false 2 44
    "Z280001000000+0000000000"

unfoldable pub sessions : List Worked
sessions =
    -- the paper's session traced: three trace cards, and PCH punches nothing
    worked "30001101+1200201202+0410202202+000020200000720002200+1000000050+2000000050007T101007" true false 999999 231
    "X0001101+1200201202+1200201202+0000000000+1000000050+2000000050+0000000000007X0002102+0410202202+0410202202+0000000000+0000000000+3000000050+3000000050007X0003103+0000202000+0000202000+0000000000+0000000000+3000000050+3000000050007Z000103000003+3000000050" ∷
    -- with a budget of two it ends with 02 before the stop, and with room for 21 bytes PCH is refused whole
    worked "30001101+1200201202+0410202202+000020200000720002200+1000000050+2000000050007T101007" false false 2 22
    "10001202+3000000050007Z020103000002+0000000000" ∷
    worked "30001101+1200201202+0410202202+000020200000720002200+1000000050+2000000050007T101007" false false 999999 21
    "Z220102000001+0000000000" ∷
    -- decks that no load takes: an unknown kind, none at all, a second first-order card, a last cell past 999
    worked "?" false false 1 0 "13 0" ∷
    worked "" false false 1 0 "18 0" ∷
    worked "T001000T001000" false false 1 0 "17 7" ∷
    worked "T00100020001999+0000000000+0000000000000" false false 1 0 "16 12" ∷
    -- the first order's cell is not owned; a cell that was never loaded is an operand
    worked "T001000" false false 1 0 "Z210001000000+0000000000" ∷
    worked "20001001+1002003004+1000000050000T001000" false false 9 0 "Z210001000000+0000000000" ∷
    -- a transfer to 000 is done; the order there is refused
    worked "10001001+0203000000000T001000" false false 9 0 "Z200000000001+0000000000" ∷
    -- LOOP A raises its count; the minus order's code is then 455, which is not built
    worked "10001001+010000200300010002003-0454000000000T001000" false false 9 0 "Z230003000001+0000000000" ∷
    -- COND STOP on STOP goes to C and shows an unmarked B as +0
    worked "10001001+0200300500000T001000" false true 9 0 "Z010500000001+0000000000" ∷
    -- READ of two cards, and PCH of what was read, of which 012 is minus zero
    worked "20001001+0400010012+0410010012000T00100020009010+1000000050+200000005000010009012-0000000000000" false false 2 44
    "30001010+1000000050+2000000050-0000000000000Z020003000002+0000000000" ∷
    misfit ∷
    -- a subtraction of near equals on STOP: the difference is stored, counted and shown, and the next order follows
    worked "10001001+201001101200020002010+1234567850+1234560050000T001000" false true 9 0 "Z030002000001+7800000044" ∷
    -- on RUN the same order goes on
    worked "10001001+201001101200020002010+1234567850+1234560050000T001000" false false 1 0 "Z020002000001+0000000000" ∷
    -- three digits are the least that stop; two do not, and a zero does not
    worked "10001001+201001101200020002010+1000000050+9990000049000T001000" false true 1 0 "Z030002000001+1000000047" ∷
    worked "10001001+201001101200020002010+1000000050+9900000049000T001000" false true 1 0 "Z020002000001+0000000000" ∷
    worked "10001001+201001101200020002010+1000000050+1000000050000T001000" false true 1 0 "Z020002000001+0000000000" ∷
    -- a difference too small for its exponent is refused, and does not stop
    worked "10001001+201001101200020002010+1000000100+1000000000000T001000" false true 9 0 "Z270001000000+0000000000" ∷
    -- an addition at 999, traced, with its result in 000: the next order would be at 1000
    worked "10001999+101001100000020002010+1000010050-1000000050000T999000" true true 9 77
    "X0001999+1010011000+1010011000+0000000000+1000010050-1000000050+0000000000000Z031000000001+1000000045" ∷
    -- the newsletter's MOVE of five words two cells up, minus zero and a word that is no number among them, and PCH of all seven
    worked "20001001+9005701703+041070170700050002701+1000000050-0000000000+0000000005+4000000050+5000000050000T001000" false false 2 99
    "50001701+1000000050-0000000000+1000000050-0000000000+000000000500020002706+4000000050+5000000050000Z020003000002+0000000000" ∷
    -- traced, its card shows the word in the cell that A names, though A is how many words are moved
    worked "20001001+9002010003+700000005000020002010+1000000050+2000000050000T001000" true false 1 77
    "X0001001+9002010003+9002010003+0000000000+7000000050+1000000050+0000000000000Z020002000001+0000000000" ∷
    -- TR B asks for the B-address of the word at A: unequal, so C is next; there TR A finds its own A-address equal to B, and goes on
    worked "20001001+7002500009+350040000000010002009+6009009001000T001000" false false 2 0 "Z020010000002+0000000000" ∷
    -- ADD C to the next order, 0 453, which is not built: the sum carries through B into A, and the order that is done is NOOP
    worked "30001001+0006002001+0453999999+0000002000000T001000" false false 9 0 "Z000003000003+0454000000" ∷
    -- SUB C borrows of B, and the minus stays
    worked "20001001+0007010001+041001001000010002010-0000001000000T001000" false false 2 22
    "10001010-0000000999000Z020003000002+0000000000" ∷
    -- traced, ADD A past the ten digits is refused behind its card
    worked "20001001+0600002001-9999000000000T001000" true false 9 77
    "X0001001+0600002001+0600002001+0000000000+0000000000-9999000000+0000000000000Z200001000000+0000000000" ∷
    []

-- every session writes what it should
abbrev pub AllWorked : Type 0
AllWorked = map sheet_of sessions ≡ map (λ w. bytes w.sheet) sessions

-- and the READ that meets a misfit stores nothing, not even the card before it
pub record MisfitStoresNothing : Type 0 where
  pub drum : (run_in misfit (load_in misfit)).drum ≡ (load_in misfit).drum
  pub marks : (run_in misfit (load_in misfit)).marks ≡ (load_in misfit).marks
