-- One order from its code on, said of the machine that the lent runs show. Assumes nothing.
use Rattle.std.proofs.Common.{Err, None, Ok, Some}
use Prim.Native.Nat.{ℕ, ◌+◌, ◌≤◌}
use mathlib.Core.Path.{◌≡◌, refl, sym, ap, subst, ◌∙◌}
use mathlib.Core.Logic.{◌⊎◌, inl, inr}
use mathlib.Core.List.{List}
use mathlib.Core.Bool.{Bool, true, false}
use native.Mathlib.Omega.{arith}
use lib.Dec.{eqb, leb}
use borrow.Author.Tests.{leb-true}
use Rattle.rules.specs.Words.{pick, both, is_number, a_in, b_in, c_in}
use Rattle.rules.specs.Drum.{view, word_at}
use Rattle.rules.specs.Arithmetic.{add_of, sub_of, mpy_of, div_of, ngmpy_of, sqrt_of, abs_of}
use Rattle.rules.specs.Codes.{codes, lookup, and_then, unless, block_fits, block_lies, address_check, mark_check, number_check, checked}
use Rattle.rules.specs.Machine.{Machine, Inputs, Answer, is_traced}
use Rattle.rules.specs.Orders.{stops_by_loss, reckoned, performed}
use Rattle.rules.specs.Running.{allowed, obeyed_as, code_done, obeyed}
use Rattle.rules.specs.Answers.{Built, Cell, Checked, Outcome, Reckoned}
use Rattle.rules.specs.declared.Reckoning.{Reckoning}
use Rattle.rules.specs.declared.Reckoning.TheVariants.{Add, Sub, Mpy, Div, Ngmpy, Sqrt, Abs}
use Rattle.rules.specs.declared.Operation.{Operation}
use Rattle.rules.specs.declared.Operation.TheVariants.{Reckon, Move, Go, Loop, Change, Read, Pch, Trace, MoveBlock, Compare}
use Rattle.rules.specs.declared.Class.{Class}
use Rattle.rules.specs.declared.Class.TheVariants.{Free, TwoNumbers, OneNumber, OneWord, Changed, Linked, BlockOut, BlockIn, BlockMoved, Compared}
use Rattle.rules.specs.declared.Refusal.{Refusal}
use Rattle.rules.specs.declared.Refusal.TheVariants.{BadAddress, NotBuilt, NotNumber}
use Rattle.rules.proofs.Tests.{both_first, both_second}
use Rattle.rules.proofs.BlockMoves.{block_ends}
use Rattle.codes.specs.Keys.{key_in, slot_of}
use Rattle.codes.specs.Slots.{Indexed, built_in}
use Rattle.codes.specs.Suits.{Suits, SuitsBuilt, asks_numbers, operands_of}
use Rattle.codes.proofs.Suits.{suits}
use Rattle.drum.proofs.Cells.{seen}
use Rattle.machine.specs.Lent.{Shows, Did}
use Rattle.machine.specs.Allowed.{Allowed}
use Rattle.machine.proofs.Shown.{stays}
use Rattle.rules.specs.declared.State.{State}
use Rattle.machine.specs.declared.desk.Desk.{Desk}

-- ---- what the checks 20 and 21 leave an operation

unless_passes : (t : Bool) (r : Refusal) (y : Checked) → and_then (unless t r) y ≡ (Ok tt) → t ≡ true
unless_passes true r y e = refl
unless_passes false r y e = let z : ◌≡◌ {A = ℕ} 0 1 = cc in let w : ⊥ = omega arith in absurd w

in_block : (b c : ℕ) → block_fits b c ≡ true → (1 ≤ b) × (b ≤ c)
in_block b c e = (leb-true 1 b (both_first (leb 1 b) (leb b c) e), leb-true b c (both_second (leb 1 b) (leb b c) e))

-- 20 and 21 of a class
abbrev pub placed : Class → List Cell → ℕ → ℕ → ℕ → Checked
placed k v a b c = and_then (address_check k a b c) (mark_check k v a b c)

block_fits_lem : (k : Class) (v : List Cell) (a b c : ℕ) → (k ≡ BlockIn) ⊎ (k ≡ BlockOut) → placed k v a b c ≡ (Ok tt) → (1 ≤ b) × (b ≤ c)
block_fits_lem k v a b c (inl f) e = in_block b c (unless_passes (block_fits b c) BadAddress _ (rw f at e))
block_fits_lem k v a b c (inr f) e = in_block b c (unless_passes (block_fits b c) BadAddress _ (rw f at e))

blocks_lie : (k : Class) (v : List Cell) (a b c : ℕ) → k ≡ BlockMoved → placed k v a b c ≡ (Ok tt) → (b + a ≤ 1000) × (c + a ≤ 1000)
blocks_lie k v a b c f e =
    let t = unless_passes (both (block_lies b a) (block_lies c a)) BadAddress _ (rw f at e) in
    (block_ends b a (both_first (block_lies b a) (block_lies c a) t), block_ends c a (both_second (block_lies b a) (block_lies c a) t))

allowed_by : (o : Operation) (k : Class) (v : List Cell) (a b c : ℕ) → Suits o k → placed k v a b c ≡ (Ok tt) → Allowed o a b c
allowed_by (Reckon r) k v a b c s e = tt
allowed_by Move k v a b c s e = tt
allowed_by (Go g) k v a b c s e = tt
allowed_by (Loop x y z) k v a b c s e = tt
allowed_by (Change m x) k v a b c s e = tt
allowed_by Read k v a b c s e = block_fits_lem k v a b c (inl s) e
allowed_by Pch k v a b c s e = block_fits_lem k v a b c (inr s) e
allowed_by (Trace t) k v a b c s e = tt
allowed_by MoveBlock k v a b c s e = blocks_lie k v a b c s e
allowed_by (Compare x) k v a b c s e = tt

pub passed : (n : ℕ) (o : Operation) (k : Class) (v : List Cell) (a b c : ℕ) → Some (o, k) ≡ lookup n codes → placed k v a b c ≡ (Ok tt) → Allowed o a b c
passed n o k v a b c q e = allowed_by o k v a b c (subst SuitsBuilt (sym q) (suits n)) e

-- ---- check 24: arithmetic refuses what is no number by itself, and nothing else asks for numbers

no_numbers : (k : Class) (v : List Cell) (a b : ℕ) → asks_numbers k ≡ false → number_check k v a b ≡ (Ok tt)
no_numbers Free v a b e = refl
no_numbers TwoNumbers v a b e = let z : ◌≡◌ {A = ℕ} 0 1 = cc in let w : ⊥ = omega arith in absurd w
no_numbers OneNumber v a b e = let z : ◌≡◌ {A = ℕ} 0 1 = cc in let w : ⊥ = omega arith in absurd w
no_numbers OneWord v a b e = refl
no_numbers Changed v a b e = refl
no_numbers Linked v a b e = refl
no_numbers BlockOut v a b e = refl
no_numbers BlockIn v a b e = refl
no_numbers BlockMoved v a b e = refl
no_numbers Compared v a b e = refl

module _ (i : Inputs) (m : Machine) (a b c : ℕ) where
  -- of two numbers, and of one
  two : (r : Reckoning) (p q : Bool) (x : Reckoned)
      → performed i m (Reckon r) a b c ≡ reckoned (stops_by_loss i r (word_at m.cells a) (word_at m.cells b)) m c (pick (both p q) x (Err NotNumber))
      → allowed i m (Reckon r) a b c (and_then (unless p NotNumber) (unless q NotNumber)) ≡ performed i m (Reckon r) a b c
  two r true true x e = refl
  two r true false x e = sym e
  two r false q x e = sym e

  one : (r : Reckoning) (q : Bool) (x : Reckoned)
      → performed i m (Reckon r) a b c ≡ reckoned (stops_by_loss i r (word_at m.cells a) (word_at m.cells b)) m c (pick q x (Err NotNumber))
      → allowed i m (Reckon r) a b c (unless q NotNumber) ≡ performed i m (Reckon r) a b c
  one r true x e = refl
  one r false x e = sym e

  reckon_judges : (r : Reckoning) → allowed i m (Reckon r) a b c (number_check (operands_of r) m.cells a b) ≡ performed i m (Reckon r) a b c
  unfolding performed add_of sub_of mpy_of div_of ngmpy_of sqrt_of abs_of
  reckon_judges Add = two Add (is_number (word_at m.cells a)) (is_number (word_at m.cells b)) _ refl
  reckon_judges Sub = two Sub (is_number (word_at m.cells a)) (is_number (word_at m.cells b)) _ refl
  reckon_judges Mpy = two Mpy (is_number (word_at m.cells a)) (is_number (word_at m.cells b)) _ refl
  reckon_judges Div = two Div (is_number (word_at m.cells a)) (is_number (word_at m.cells b)) _ refl
  reckon_judges Ngmpy = two Ngmpy (is_number (word_at m.cells a)) (is_number (word_at m.cells b)) _ refl
  reckon_judges Sqrt = one Sqrt (is_number (word_at m.cells b)) _ refl
  reckon_judges Abs = one Abs (is_number (word_at m.cells b)) _ refl

  quiet : (o : Operation) (k : Class) → asks_numbers k ≡ false → allowed i m o a b c (number_check k m.cells a b) ≡ performed i m o a b c
  quiet o k e = ap (allowed i m o a b c) (no_numbers k m.cells a b e)

  judges : (o : Operation) (k : Class) → Suits o k → allowed i m o a b c (number_check k m.cells a b) ≡ performed i m o a b c
  judges (Reckon r) k s = ap (λ (l : Class). allowed i m (Reckon r) a b c (number_check l m.cells a b)) s ∙ reckon_judges r
  judges Move k s = quiet Move k s
  judges (Go g) k s = quiet (Go g) k s
  judges (Loop x y z) k s = quiet (Loop x y z) k s
  judges (Change h x) k s = quiet (Change h x) k s
  judges Read k s = ap (λ (l : Class). allowed i m Read a b c (number_check l m.cells a b)) s
  judges Pch k s = ap (λ (l : Class). allowed i m Pch a b c (number_check l m.cells a b)) s
  judges (Trace t) k s = quiet (Trace t) k s
  judges MoveBlock k s = ap (λ (l : Class). allowed i m MoveBlock a b c (number_check l m.cells a b)) s
  judges (Compare x) k s = quiet (Compare x) k s

then_then : (x y z : Checked) → and_then x (and_then y z) ≡ and_then (and_then x y) z
then_then (Ok _) y z = refl
then_then (Err r) y z = refl

checked_is : (k : Class) (v : List Cell) (a b c : ℕ) → checked k v a b c ≡ and_then (placed k v a b c) (number_check k v a b)
unfolding checked
checked_is k v a b c = then_then (address_check k a b c) (mark_check k v a b c) (number_check k v a b)

-- ---- the order itself

-- what is found in the index is what the rules look up
pub found_at : {t : Bool} {index : List ℕ} {key slot : ℕ} {x : Built} (w : ℕ) → Indexed t index → key ≡ key_in w → slot ≡ slot_of key
    → x ≡ built_in index slot → x ≡ lookup (code_done t w) codes
found_at {index = index} w n e f g = g ∙ ap (built_in index) (f ∙ ap slot_of e) ∙ n.finds w

module _ {drum₀ out₀ drum marks out : List ℕ} {desk : Desk} {m : Machine} (h : Shows drum₀ out₀ drum marks out desk m) (i : Inputs) (w : ℕ) where
  pub for_mode : {x : Built} → x ≡ lookup (code_done (eqb (desk.state.mode) 1) w) codes → x ≡ lookup (code_done (is_traced m.state) w) codes
  for_mode e = e ∙ ap (λ (s : State). lookup (code_done (is_traced s) w) codes) h.state_is

  obeyed_is : (x : Built) → x ≡ lookup (code_done (is_traced m.state) w) codes → obeyed i m w ≡ obeyed_as i m (a_in w) (b_in w) (c_in w) x
  unfolding obeyed
  obeyed_is x e = ap (obeyed_as i m (a_in w) (b_in w) (c_in w)) (sym e)

  pub obey_not_built : None ≡ lookup (code_done (is_traced m.state) w) codes → Did drum₀ out₀ drum marks out desk (Err NotBuilt) (obeyed i m w)
  obey_not_built e = rw (obeyed_is None e) (stays h (Err NotBuilt))

  module _ (o : Operation) (k : Class) (built : Some (o, k) ≡ lookup (code_done (is_traced m.state) w) codes) where
    on_cells : {x : Checked} → x ≡ placed k (view drum marks) (a_in w) (b_in w) (c_in w) → placed k m.cells (a_in w) (b_in w) (c_in w) ≡ x
    on_cells e = sym (e ∙ ap (λ (v : List Cell). placed k v (a_in w) (b_in w) (c_in w)) (seen h.memory))

    goes_by : {x : Checked} → x ≡ placed k (view drum marks) (a_in w) (b_in w) (c_in w)
        → obeyed i m w ≡ allowed i m o (a_in w) (b_in w) (c_in w) (and_then x (number_check k m.cells (a_in w) (b_in w)))
    goes_by e =
        obeyed_is (Some (o, k)) built
        ∙ ap (allowed i m o (a_in w) (b_in w) (c_in w))
        (checked_is k m.cells (a_in w) (b_in w) (c_in w) ∙ ap (λ (y : Checked). and_then y (number_check k m.cells (a_in w) (b_in w))) (on_cells e))

    pub obey_refused : (r : Refusal) → Err r ≡ placed k (view drum marks) (a_in w) (b_in w) (c_in w)
        → Did drum₀ out₀ drum marks out desk (Err r) (obeyed i m w)
    obey_refused r e = rw (goes_by e) (stays h (Err r))

    pub obey_done : {d e f : List ℕ} {g : Desk} {r : Outcome} → (Ok tt) ≡ placed k (view drum marks) (a_in w) (b_in w) (c_in w)
        → Did drum₀ out₀ d e f g r (performed i m o (a_in w) (b_in w) (c_in w)) → Did drum₀ out₀ d e f g r (obeyed i m w)
    obey_done {d} {e} {f} {g} {r} p x =
        subst (λ (y : Answer). Did drum₀ out₀ d e f g r y)
        (sym (goes_by p ∙ judges i m (a_in w) (b_in w) (c_in w) o k (subst SuitsBuilt (sym built) (suits (code_done (is_traced m.state) w))))) x
