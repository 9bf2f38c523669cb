-- The built codes, in the order of the newsletter's list, each with its operation, operand class and name. A code that is not here is not
-- built. Checks 20, 21 and 24 go by the class. Assumes nothing.
use Rattle.std.specs.Prelude.{ℕ, zero, suc, ◌+◌, ◌-◌, ◌*◌, List, [], ◌∷◌, Bool, true, false, eqb, leb, ltb, Some, None, Ok, Err}
use Prim.Native.String.{String}
use Rattle.rules.specs.Bytes.{bytes}
use Rattle.rules.specs.Words.{pick, both, a_in, first_digit, is_number}
use Rattle.rules.specs.Drum.{cell_at, is_owned, word_at}
use Rattle.rules.specs.Answers.{Built, Cell, Checked}
use Rattle.rules.specs.declared.Refusal.{Refusal}
use Rattle.rules.specs.declared.Refusal.TheVariants.{BadAddress, Unmarked, NotNumber}
use Rattle.rules.specs.declared.Operation.{Operation}
use Rattle.rules.specs.declared.Operation.TheVariants.{Reckon, Move, Go, Loop, Change, Read, Pch, Trace, MoveBlock, Compare}
use Rattle.rules.specs.declared.Reckoning.TheVariants.{Add, Sub, Mpy, Div, Ngmpy, Sqrt, Abs}
use Rattle.rules.specs.declared.Going.TheVariants.{UncStop, CondStop, TrSgn, TrExp, Tr, TrSubr, Noop}
use Rattle.rules.specs.declared.Address.TheVariants.{OfA, OfB, OfC}
use Rattle.rules.specs.declared.Changing.TheVariants.{SetTo, AddTo, SubFrom}
use Rattle.rules.specs.declared.Tracing.TheVariants.{StartTr, StopTr, StTrEras}
use Rattle.rules.specs.declared.Class.{Class}
use Rattle.rules.specs.declared.Class.TheVariants.{Free, TwoNumbers, OneNumber, OneWord, Changed, Linked, BlockOut, BlockIn, BlockMoved, Compared}

-- A row of the table: a code, what it does, what its addresses are, and the newsletter's alphabetic code, ten letters wide. Where O1 is 0
-- the code is O2; else O1 stands in the thousands.
pub record Row : Type 0 where
  pub code : ℕ
  pub operation : Operation
  pub class : Class
  pub name : List ℕ

abbrev pub row : ℕ → Operation → Class → String → Row
row k o c n = record { code = k; operation = o; class = c; name = bytes n }

abbrev pub pch_code : ℕ
pch_code = 410

abbrev pub noop_code : ℕ
noop_code = 454

unfoldable pub codes : List Row
codes =
    row 1000 (Reckon Add) TwoNumbers "ADD       " ∷
    row 2000 (Reckon Sub) TwoNumbers "SUB       " ∷
    row 3000 (Reckon Mpy) TwoNumbers "MPY       " ∷
    row 4000 (Reckon Div) TwoNumbers "DIV       " ∷
    row 5000 (Reckon Ngmpy) TwoNumbers "NGMPY     " ∷
    row 6000 (Compare OfA) Compared "TR A      " ∷
    row 7000 (Compare OfB) Compared "TR B      " ∷
    row 8000 (Compare OfC) Compared "TR C      " ∷
    row 9000 Move OneWord "MOVE      " ∷
    row 9001 MoveBlock BlockMoved "MOVE      " ∷
    row 000 (Go UncStop) Free "UNC STOP  " ∷
    row 200 (Go CondStop) Free "COND STOP " ∷
    row 201 (Go TrSgn) Free "TR SGN    " ∷
    row 202 (Go TrExp) Free "TR EXP    " ∷
    row 203 (Go Tr) Free "TR        " ∷
    row 204 (Go TrSubr) Linked "TR SUBR   " ∷
    row 100 (Loop true false false) Free "LOOP A    " ∷
    row 010 (Loop false true false) Free "LOOP B    " ∷
    row 001 (Loop false false true) Free "LOOP C    " ∷
    row 110 (Loop true true false) Free "LOOP AB   " ∷
    row 101 (Loop true false true) Free "LOOP AC   " ∷
    row 011 (Loop false true true) Free "LOOP BC   " ∷
    row 111 (Loop true true true) Free "LOOP ABC  " ∷
    row 500 (Change SetTo OfA) Changed "SET A     " ∷
    row 050 (Change SetTo OfB) Changed "SET B     " ∷
    row 005 (Change SetTo OfC) Changed "SET C     " ∷
    row 600 (Change AddTo OfA) Changed "ADD A     " ∷
    row 060 (Change AddTo OfB) Changed "ADD B     " ∷
    row 006 (Change AddTo OfC) Changed "ADD C     " ∷
    row 700 (Change SubFrom OfA) Changed "SUB A     " ∷
    row 070 (Change SubFrom OfB) Changed "SUB B     " ∷
    row 007 (Change SubFrom OfC) Changed "SUB C     " ∷
    row 300 (Reckon Sqrt) OneNumber "SQRT      " ∷
    row 350 (Reckon Abs) OneNumber "ABS       " ∷
    row 400 Read BlockIn "READ      " ∷
    row 410 Pch BlockOut "PCH       " ∷
    row 450 (Trace StartTr) Free "START TR  " ∷
    row 451 (Trace StopTr) Free "STOP TR   " ∷
    row 452 (Trace StTrEras) Free "ST TR ERAS" ∷
    row 454 (Go Noop) Free "NOOP      " ∷ []

-- the first row with that code
unfoldable pub lookup : ℕ → List Row → Built
lookup k [] = None
lookup k (r ∷ rs) = pick (eqb k r.code) (Some (r.operation, r.class)) (lookup k rs)

-- its name; a code that is not built has a dash
unfoldable pub name_in : ℕ → List Row → List ℕ
name_in k [] = bytes "-         "
name_in k (r ∷ rs) = pick (eqb k r.code) r.name (name_in k rs)

-- The code of an order. MOVE with A not 000, the move of a block, has a code of its own, 9001.
abbrev pub is_block_move : ℕ → Bool
is_block_move w = both (eqb (first_digit w) 9) (ltb 0 (a_in w))

unfoldable pub code_in : ℕ → ℕ
code_in w = pick (eqb (first_digit w) 0) (a_in w) (pick (is_block_move w) 9001 (1000 * first_digit w))

-- ---- the checks that go by the class

-- the second check only where the first found nothing
abbrev pub and_then : Checked → Checked → Checked
and_then (Ok _) y = y
and_then (Err r) y = Err r

abbrev pub unless : Bool → Refusal → Checked
unless true r = Ok tt
unless false r = Err r

-- 20: a block's B is not 000 nor above C; a block of n cells that is moved, or moved to, begins behind 000 and ends at 999 at the latest;
-- the cell that an order changes, or whose word it compares, is not 000
abbrev pub block_fits : ℕ → ℕ → Bool
block_fits b c = both (leb 1 b) (leb b c)

abbrev pub block_lies : ℕ → ℕ → Bool
block_lies b n = both (leb 1 b) (leb (b + n - 1) 999)

abbrev pub address_check : Class → ℕ → ℕ → ℕ → Checked
address_check Free a b c = Ok tt
address_check TwoNumbers a b c = Ok tt
address_check OneNumber a b c = Ok tt
address_check OneWord a b c = Ok tt
address_check Changed a b c = unless (leb 1 b) BadAddress
address_check Linked a b c = unless (leb 1 c) BadAddress
address_check BlockOut a b c = unless (block_fits b c) BadAddress
address_check BlockIn a b c = unless (block_fits b c) BadAddress
address_check BlockMoved a b c = unless (both (block_lies b a) (block_lies c a)) BadAddress
address_check Compared a b c = unless (leb 1 a) BadAddress

-- 21: each cell whose word is used is marked; a block's cells upward
abbrev pub owned_at : List Cell → ℕ → Bool
owned_at v a = is_owned (cell_at v a)

unfoldable pub owned_from : List Cell → ℕ → ℕ → Bool
owned_from v b zero = true
owned_from v b (suc n) = both (owned_from v b n) (owned_at v (b + n))

abbrev pub mark_check : Class → List Cell → ℕ → ℕ → ℕ → Checked
mark_check Free v a b c = Ok tt
mark_check TwoNumbers v a b c = and_then (unless (owned_at v a) Unmarked) (unless (owned_at v b) Unmarked)
mark_check OneNumber v a b c = unless (owned_at v b) Unmarked
mark_check OneWord v a b c = unless (owned_at v b) Unmarked
mark_check Changed v a b c = unless (owned_at v b) Unmarked
mark_check Linked v a b c = unless (owned_at v c) Unmarked
mark_check BlockOut v a b c = unless (owned_from v b (c + 1 - b)) Unmarked
mark_check BlockIn v a b c = Ok tt
mark_check BlockMoved v a b c = unless (owned_from v b a) Unmarked
mark_check Compared v a b c = unless (owned_at v a) Unmarked

-- 24: each operand is a number
abbrev pub number_check : Class → List Cell → ℕ → ℕ → Checked
number_check Free v a b = Ok tt
number_check TwoNumbers v a b = and_then (unless (is_number (word_at v a)) NotNumber) (unless (is_number (word_at v b)) NotNumber)
number_check OneNumber v a b = unless (is_number (word_at v b)) NotNumber
number_check OneWord v a b = Ok tt
number_check Changed v a b = Ok tt
number_check Linked v a b = Ok tt
number_check BlockOut v a b = Ok tt
number_check BlockIn v a b = Ok tt
number_check BlockMoved v a b = Ok tt
number_check Compared v a b = Ok tt

-- the three in their order
unfoldable pub checked : Class → List Cell → ℕ → ℕ → ℕ → Checked
checked k v a b c = and_then (address_check k a b c) (and_then (mark_check k v a b c) (number_check k v a b))
