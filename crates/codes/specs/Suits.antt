-- What the table's classes have to do with its operations: arithmetic has the class of its operands, so that it finds out itself whether
-- they are numbers; READ, PCH and block moves have a class that checks their blocks; no other operation asks for numbers. Assumes nothing.
use Rattle.std.specs.Prelude.{◌≡◌, Bool, true, false, Some, None}
use Rattle.rules.specs.Answers.{Built}
use Rattle.rules.specs.declared.Reckoning.{Reckoning}
use Rattle.rules.specs.declared.Reckoning.TheVariants.{Add, Sub, Mpy, Div, Ngmpy, Sqrt, Abs}
use Rattle.rules.specs.declared.Operation.{Operation}
use Rattle.rules.specs.declared.Operation.TheVariants.{Reckon, Move, Go, Loop, Change, Read, Pch, Trace, MoveBlock, Compare}
use Rattle.rules.specs.declared.Class.{Class}
use Rattle.rules.specs.declared.Class.TheVariants.{Free, TwoNumbers, OneNumber, OneWord, Changed, Linked, BlockOut, BlockIn, BlockMoved, Compared}

-- the class of arithmetic
abbrev pub operands_of : Reckoning → Class
operands_of Add = TwoNumbers
operands_of Sub = TwoNumbers
operands_of Mpy = TwoNumbers
operands_of Div = TwoNumbers
operands_of Ngmpy = TwoNumbers
operands_of Sqrt = OneNumber
operands_of Abs = OneNumber

-- whether a class asks for numbers
abbrev pub asks_numbers : Class → Bool
asks_numbers Free = false
asks_numbers TwoNumbers = true
asks_numbers OneNumber = true
asks_numbers OneWord = false
asks_numbers Changed = false
asks_numbers Linked = false
asks_numbers BlockOut = false
asks_numbers BlockIn = false
asks_numbers BlockMoved = false
asks_numbers Compared = false

abbrev pub Suits : Operation → Class → Type 0
Suits (Reckon r) k = k ≡ operands_of r
Suits Move k = asks_numbers k ≡ false
Suits (Go g) k = asks_numbers k ≡ false
Suits (Loop x y z) k = asks_numbers k ≡ false
Suits (Change c x) k = asks_numbers k ≡ false
Suits Read k = k ≡ BlockIn
Suits Pch k = k ≡ BlockOut
Suits (Trace t) k = asks_numbers k ≡ false
Suits MoveBlock k = k ≡ BlockMoved
Suits (Compare x) k = asks_numbers k ≡ false

abbrev pub SuitsBuilt : Built → Type 0
SuitsBuilt None = Unit {0}
SuitsBuilt (Some (o, k)) = Suits o k
