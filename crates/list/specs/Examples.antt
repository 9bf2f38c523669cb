-- Listings that are worked out: the deck and the cards of the paper's session, a trace card, and where a listing ends.
-- Assumes nothing.
use Rattle.std.specs.Prelude.{ℕ, ◌≡◌, List, [], ◌∷◌, ◌++◌}
use Prim.Native.String.{String}
use Rattle.rules.specs.Bytes.{bytes, line_end}
use Rattle.list.specs.Listing.{listing}

-- texts, each with a line end
abbrev pub lines : List String → List ℕ
lines [] = []
lines (l ∷ ls) = bytes l ++ line_end ∷ lines ls

abbrev pub Lists : String → List String → Type 0
Lists cards ls = listing (bytes cards) ≡ lines ls

pub record ListingsHold : Type 0 where
  pub session : Lists "30001101+1200201202+0410202202+000020200000720002200+1000000050+2000000050007T101007" (
      "card  0001  at 101  problem 007" ∷
      "  101  +1200201202  ADD         200 201 202" ∷
      "  102  +0410202202  PCH             202 202" ∷
      "  103  +0000202000  UNC STOP        202 000" ∷
      "card  0002  at 200  problem 007" ∷
      "  200  +1000000050  ADD         000 000 050" ∷
      "  201  +2000000050  SUB         000 000 050" ∷
      "first order 101     problem 007" ∷ [])
  pub punched : Lists "10001202+3000000050007Z000103000003+3000000050" (
      "card  0001  at 202  problem 007" ∷
      "  202  +3000000050  MPY         000 000 050" ∷
      "stop  00    at 0103  orders 000003  shows +3000000050" ∷ [])
  pub traced : Lists "X0007103-1200201202-1203202203+0003001001-1000000050+2000000050-0000000000012" (
      "trace 0007  at 103  problem 012" ∷
      "  as stored  -1200201202  ADD         200 201 202" ∷
      "  as done    -1203202203  ADD         203 202 203" ∷
      "  loop box   003 001 001" ∷
      "  A's word   -1000000050" ∷
      "  B's word   +2000000050" ∷
      "  cell 000   -0000000000" ∷ [])
  -- a code that is not built, two orders about tracing, and a byte that begins no card
  pub ended : Lists "30009300-0401201202+0452000000+0111020300000?T101007" (
      "card  0009  at 300  problem 000" ∷
      "  300  -0401201202  -               201 202" ∷
      "  301  +0452000000  ST TR ERAS      000 000" ∷
      "  302  +0111020300  LOOP ABC        020 300" ∷
      "card 2, its kind: 1 to 5 or T is due at byte 44, and the byte there is a mark ?" ∷ [])
  -- address tests, a block move and MOVE 000
  pub named : Lists "50009107+6103821103+7099451099-8114412103+9005701703+9000701703043T107043" (
      "card  0009  at 107  problem 043" ∷
      "  107  +6103821103  TR A        103 821 103" ∷
      "  108  +7099451099  TR B        099 451 099" ∷
      "  109  -8114412103  TR C        114 412 103" ∷
      "  110  +9005701703  MOVE        005 701 703" ∷
      "  111  +9000701703  MOVE        000 701 703" ∷
      "first order 107     problem 043" ∷ [])
  -- a stop card cut short, a card whose last cell is past 999, and letters where digits are due in a trace card and a stop card
  pub cut : Lists "Z000103000003+300000005" ("card 1, its word: a digit is due at byte 23, and the file ends there; the card begins at byte 0" ∷ [])
  pub past : Lists "20001999+0000000000+0000000000000" ("card 1, its location: 001 to 998 is due at byte 5, and the digits there are 999" ∷ [])
  pub letter : Lists "X0001101+1200201202+1200201202+0000000000+1000000050+2000000050+000000000O007"
      ("card 1, its sixth word: a digit is due at byte 73, and the byte there is a letter O" ∷ [])
  pub shown : Lists "Z0001O3000003+3000000050" ("card 1, its location: a digit is due at byte 5, and the byte there is a letter O" ∷ [])
  -- a second first-order card; and files of data cards alone, and of none
  pub second : Lists "T101007T101007" (
      "first order 101     problem 007" ∷
      "card 2, its kind: 1 to 5 is due at byte 7, and the byte there is a second T" ∷ [])
  pub no_first_order : Lists "10001202+3000000050007" (
      "card  0001  at 202  problem 007" ∷
      "  202  +3000000050  MPY         000 000 050" ∷
      "card 2, its kind: T is due at byte 22, and the file ends there with no first-order card" ∷ [])
  pub none : Lists "" ("card 1, its kind: T is due at byte 0, and the file ends there with no first-order card" ∷ [])
