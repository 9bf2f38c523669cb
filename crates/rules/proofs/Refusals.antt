-- Of all refusals, which are for want of room: none that arithmetic, the checks of an operand class or READ's judging of cards answers.
-- Assumes nothing.
use Rattle.std.proofs.Common.{Err, Ok}
use Prim.Native.Nat.{ℕ, ◌+◌, ◌-◌}
use mathlib.Core.List.{List, [], ◌∷◌}
use mathlib.Core.Bool.{Bool, true, false}
use lib.Dec.{eqb, leb, ltb}
use Rattle.rules.specs.Words.{pick, both, is_number, sign_in, digits_in}
use Rattle.rules.specs.Rounding.{Settled, single, nought, value, outside, turned, signs, sum_of, difference_of, product_of, quotient_of, root_of}
use Rattle.rules.specs.Arithmetic.{value_in, word_of, of_numbers, add_of, sub_of, mpy_of, div_of, ngmpy_of, sqrt_of, abs_of}
use Rattle.rules.specs.Drum.{word_at}
use Rattle.rules.specs.Decks.{DataCard, judged, fits_block}
use Rattle.rules.specs.Codes.{checked, and_then, unless, address_check, mark_check, number_check, block_fits, block_lies, owned_at, owned_from}
use Rattle.rules.specs.Orders.{reckoned_by}
use Rattle.rules.specs.Answers.{Cell, Checked, Judged, Outcome, Reckoned}
use Rattle.rules.specs.declared.Reckoning.{Reckoning}
use Rattle.rules.specs.declared.Reckoning.TheVariants.{Add, Sub, Mpy, Div, Ngmpy, Sqrt, Abs}
use Rattle.rules.specs.declared.Refusal.{Refusal}
use Rattle.rules.specs.declared.Refusal.TheVariants.{BadAddress, Unmarked, NoRoom, NotBuilt, NotNumber, ZeroDivisor, NegativeRoot, OutOfRange, Unfit, NoCard}
use Rattle.rules.specs.declared.Class.{Class}
use Rattle.rules.specs.declared.Class.TheVariants.{Free, TwoNumbers, OneNumber, OneWord, Changed, Linked, BlockOut, BlockIn, BlockMoved, Compared}
use Rattle.rules.specs.declared.Done.TheVariants.{GoesOn, Stops}

-- ---- refusals that are not for want of room

abbrev pub Other : Refusal → Type 0
Other BadAddress = Unit {0}
Other Unmarked = Unit {0}
Other NoRoom = ⊥
Other NotBuilt = Unit {0}
Other NotNumber = Unit {0}
Other ZeroDivisor = Unit {0}
Other NegativeRoot = Unit {0}
Other OutOfRange = Unit {0}
Other Unfit = Unit {0}
Other NoCard = Unit {0}

abbrev pub OfReckoned : Reckoned → Type 0
OfReckoned (Ok w) = Unit {0}
OfReckoned (Err r) = Other r

abbrev pub OfChecked : Checked → Type 0
OfChecked (Ok _) = Unit {0}
OfChecked (Err r) = Other r

abbrev pub OfJudged : Judged → Type 0
OfJudged (Ok end) = Unit {0}
OfJudged (Err r) = Other r

abbrev pub OfOutcome : Outcome → Type 0
OfOutcome (Ok GoesOn) = Unit {0}
OfOutcome (Ok (Stops k w)) = Unit {0}
OfOutcome (Err r) = Other r

-- arithmetic
word_other : (s : Settled) → OfReckoned (word_of s)
word_other nought = tt
word_other (value s m a) = tt
word_other outside = tt

pick_other : (t : Bool) (x y : Reckoned) → OfReckoned x → OfReckoned y → OfReckoned (pick t x y)
pick_other true x y p q = p
pick_other false x y p q = q

of_two : (x y : ℕ) (s : Settled) → OfReckoned (of_numbers x y (word_of s))
of_two x y s = pick_other (both (is_number x) (is_number y)) (word_of s) (Err NotNumber) (word_other s) tt

pub reckoned_other : (k : Reckoning) (x y : ℕ) → OfReckoned (reckoned_by k x y)
unfolding add_of sub_of mpy_of div_of ngmpy_of sqrt_of abs_of
reckoned_other Add x y = of_two x y (sum_of single (value_in x) (value_in y))
reckoned_other Sub x y = of_two x y (difference_of single (value_in x) (value_in y))
reckoned_other Mpy x y = of_two x y (product_of single (signs (value_in x) (value_in y)) (value_in x) (value_in y))
reckoned_other Div x y =
    let s : Settled = quotient_of single (signs (value_in x) (value_in y)) (value_in x) (value_in y) in
    pick_other (both (is_number x) (is_number y)) (pick (eqb y 0) (Err ZeroDivisor) (word_of s)) (Err NotNumber)
    (pick_other (eqb y 0) (Err ZeroDivisor) (word_of s) tt (word_other s)) tt
reckoned_other Ngmpy x y = of_two x y (product_of single (turned (signs (value_in x) (value_in y))) (value_in x) (value_in y))
reckoned_other Sqrt x y =
    let s : Settled = root_of single (value_in y) in
    pick_other (is_number y) (pick (eqb (sign_in y) 1) (Err NegativeRoot) (word_of s)) (Err NotNumber)
    (pick_other (eqb (sign_in y) 1) (Err NegativeRoot) (word_of s) tt (word_other s)) tt
reckoned_other Abs x y = pick_other (is_number y) (Ok (digits_in y)) (Err NotNumber) tt tt

-- the checks that go by the class
unless_other : (t : Bool) (r : Refusal) → Other r → OfChecked (unless t r)
unless_other true r o = tt
unless_other false r o = o

then_other : (x y : Checked) → OfChecked x → OfChecked y → OfChecked (and_then x y)
then_other (Ok _) y p q = q
then_other (Err r) y p q = p

address_other : (k : Class) (a b c : ℕ) → OfChecked (address_check k a b c)
address_other Free a b c = tt
address_other TwoNumbers a b c = tt
address_other OneNumber a b c = tt
address_other OneWord a b c = tt
address_other Changed a b c = unless_other (leb 1 b) BadAddress tt
address_other Linked a b c = unless_other (leb 1 c) BadAddress tt
address_other BlockOut a b c = unless_other (block_fits b c) BadAddress tt
address_other BlockIn a b c = unless_other (block_fits b c) BadAddress tt
address_other BlockMoved a b c = unless_other (both (block_lies b a) (block_lies c a)) BadAddress tt
address_other Compared a b c = unless_other (leb 1 a) BadAddress tt

mark_other : (k : Class) (v : List Cell) (a b c : ℕ) → OfChecked (mark_check k v a b c)
mark_other Free v a b c = tt
mark_other TwoNumbers v a b c =
    then_other (unless (owned_at v a) Unmarked) (unless (owned_at v b) Unmarked) (unless_other (owned_at v a) Unmarked tt)
    (unless_other (owned_at v b) Unmarked tt)
mark_other OneNumber v a b c = unless_other (owned_at v b) Unmarked tt
mark_other OneWord v a b c = unless_other (owned_at v b) Unmarked tt
mark_other Changed v a b c = unless_other (owned_at v b) Unmarked tt
mark_other Linked v a b c = unless_other (owned_at v c) Unmarked tt
mark_other BlockOut v a b c = unless_other (owned_from v b (c + 1 - b)) Unmarked tt
mark_other BlockIn v a b c = tt
mark_other BlockMoved v a b c = unless_other (owned_from v b a) Unmarked tt
mark_other Compared v a b c = unless_other (owned_at v a) Unmarked tt

number_other : (k : Class) (v : List Cell) (a b : ℕ) → OfChecked (number_check k v a b)
number_other Free v a b = tt
number_other TwoNumbers v a b =
    let x : Bool = is_number (word_at v a) in
    let y : Bool = is_number (word_at v b) in
    then_other (unless x NotNumber) (unless y NotNumber) (unless_other x NotNumber tt) (unless_other y NotNumber tt)
number_other OneNumber v a b = unless_other (is_number (word_at v b)) NotNumber tt
number_other OneWord v a b = tt
number_other Changed v a b = tt
number_other Linked v a b = tt
number_other BlockOut v a b = tt
number_other BlockIn v a b = tt
number_other BlockMoved v a b = tt
number_other Compared v a b = tt

pub checked_other : (k : Class) (v : List Cell) (a b c : ℕ) → OfChecked (checked k v a b c)
unfolding checked
checked_other k v a b c =
    then_other (address_check k a b c) (and_then (mark_check k v a b c) (number_check k v a b)) (address_other k a b c)
    (then_other (mark_check k v a b c) (number_check k v a b) (mark_other k v a b c) (number_other k v a b))

-- the cards of READ
pub judged_other : (ks : List DataCard) (at b c : ℕ) → OfJudged (judged ks at b c)
unfolding judged
judged_other [] at b c = go (ltb c b)
  where
    go : (t : Bool) → OfJudged (pick t (Ok at) (Err NoCard))
    go true = tt
    go false = tt
judged_other (k ∷ ks) at b c = go (ltb c b) (fits_block k b c) (judged_other ks (k.place + k.size) (b + k.words) c)
  where
    go : (t u : Bool) → OfJudged (judged ks (k.place + k.size) (b + k.words) c)
        → OfJudged (elim t [ true ↦ Ok at | false ↦ elim u [ true ↦ judged ks (k.place + k.size) (b + k.words) c | false ↦ Err Unfit ] ])
    go true u h = tt
    go false true h = h
    go false false h = tt
