-- Why block moves and address tests do what is said of them: such an order is found in the table by its first digit, its checks go by its class,
-- and what it then does is what the rules say. Assumes nothing.
use Rattle.std.proofs.Common.{None, Ok, Some}
use Prim.Native.Nat.{ℕ, ◌+◌, ◌-◌, ◌*◌, ◌≤◌, ◌<◌}
use mathlib.Core.Path.{◌≡◌, refl, sym, ap, subst, ◌∙◌}
use mathlib.Core.Bool.{Bool, true, false}
use native.Mathlib.Omega.{arith}
use lib.Dec.{eqb}
use lib.ListN.{length}
use borrow.Author.Tests.{le-leb, lt-ltb, eq-eqb, ne_eqb}
use Rattle.rules.specs.Words.{pick, both, first_digit, a_in, b_in, c_in, address_in}
use Rattle.rules.specs.Drum.{cell_at, word_at, is_owned, shown}
use Rattle.rules.specs.Codes.{codes, lookup, code_in, pch_code, and_then, unless, block_lies, owned_from, checked}
use Rattle.rules.specs.Machine.{Machine, Inputs, Answer, going_to, done, undone}
use Rattle.rules.specs.Orders.{block_moved, performed}
use Rattle.rules.specs.Running.{allowed, step}
use Rattle.rules.specs.Answers.{Cell}
use Rattle.rules.specs.declared.Address.{Address}
use Rattle.rules.specs.declared.Address.TheVariants.{OfA, OfB, OfC}
use Rattle.rules.specs.declared.Refusal.TheVariants.{BadAddress, Unmarked}
use Rattle.rules.specs.declared.Class.TheVariants.{BlockMoved, Compared}
use Rattle.rules.specs.declared.Operation.TheVariants.{MoveBlock, Compare}
use Rattle.rules.proofs.Tests.{false_true}
use Rattle.rules.proofs.BlockMoves.{stored_long, moved_there, moved_elsewhere, block_begins, block_ends, owned_each, owned_all}
use Rattle.promises.specs.Next.{told}
use Rattle.promises.specs.BlockMoves.{Lies, Moved, MovesBlock, BlockMoves, BlockMoveTold, digit_of, TestsAddress, AddressTests}
use Rattle.promises.proofs.Next.{step_is, obeyed_by, told_long}

-- ---- block moves

block_code : (w : ℕ) → first_digit w ≡ 9 → 1 ≤ a_in w → code_in w ≡ 9001
unfolding code_in
block_code w e l = simp (ne_eqb (first_digit w) 0 (λ z. omega (arith, e, z)), eq-eqb (first_digit w) 9 e, lt-ltb 0 (a_in w) l)

move_row : lookup 9001 codes ≡ Some (MoveBlock, BlockMoved)
unfolding lookup codes
move_row = refl

lies_is : (b n : ℕ) → Lies b n → block_lies b n ≡ true
lies_is b n h = rw (le-leb 1 b h.begins) (le-leb (b + n - 1) 999 (omega (arith, h.begins, h.ends)))

is_lies : (b n : ℕ) → block_lies b n ≡ true → Lies b n
is_lies b n e = record { begins = block_begins b n e; ends = block_ends b n e }

module _ (i : Inputs) (u : Machine) (n b c : ℕ) where
  abbrev judged_move : Answer
  judged_move = allowed i u MoveBlock n b c (checked BlockMoved u.cells n b c)

  move_outside : (Lies b n → Lies c n → ⊥) → judged_move ≡ undone BadAddress u
  unfolding checked
  move_outside f = by_blocks (block_lies b n) refl (block_lies c n) refl
    where
      by_blocks : (s : Bool) → block_lies b n ≡ s → (t : Bool) → block_lies c n ≡ t
          → allowed i u MoveBlock n b c (and_then (unless (both s t) BadAddress) (and_then (unless (owned_from u.cells b n) Unmarked) (Ok tt))) ≡ undone BadAddress u
      by_blocks true e true g = absurd (f (is_lies b n e) (is_lies c n g))
      by_blocks true e false g = refl
      by_blocks false e t g = refl

  move_foreign : Lies b n → Lies c n → (k : ℕ) → k < n → cell_at u.cells (b + k) ≡ None → judged_move ≡ undone Unmarked u
  unfolding checked
  move_foreign p q k l e = rw (lies_is b n p, lies_is c n q) (by_marks (owned_from u.cells b n) refl)
    where
      by_marks : (t : Bool) → owned_from u.cells b n ≡ t → allowed i u MoveBlock n b c (and_then (unless t Unmarked) (Ok tt)) ≡ undone Unmarked u
      by_marks true g = false_true (sym (ap is_owned e) ∙ owned_each u.cells b n k g l)
      by_marks false g = refl

  move_owned : Lies b n → Lies c n → ((k : ℕ) → k < n → cell_at u.cells (b + k) ≡ Some (word_at u.cells (b + k)))
      → judged_move ≡ done (block_moved u n b c)
  unfolding checked performed
  move_owned p q f = rw (lies_is b n p, lies_is c n q, owned_all u.cells b n (λ k l. ap is_owned (f k l)))

  moved : length u.cells ≡ 1000 → Lies c n → ((k : ℕ) → k < n → cell_at u.cells (b + k) ≡ Some (word_at u.cells (b + k)))
      → Moved (done (block_moved u n b c)) u n b c
  moved l q f =
      record {
        goes_on = refl;
        block = λ k g. moved_there u.cells n b c k (omega (arith, l, q.ends)) g ∙ sym (f k g);
        others = λ a g. moved_elsewhere u.cells n b c a g;
        first = moved_elsewhere u.cells n b c 0 (λ g k. omega (arith, q.begins, g));
        long = stored_long c _ u.cells;
        sent = refl;
        state = refl;
      }

  moves : length u.cells ≡ 1000 → (x : Answer) → x ≡ judged_move → MovesBlock x u n b c
  moves l x e =
      record {
        outside = λ f. e ∙ move_outside f;
        foreign = λ p q k g f. e ∙ move_foreign p q k g f;
        owned = λ p q f. subst (λ (y : Answer). Moved y u n b c) (sym (e ∙ move_owned p q f)) (moved l q f);
      }

pub block_moves : BlockMoves
block_moves i m order w h e l =
    let u : Machine = told m order w in
    moves i u (a_in w) (b_in w) (c_in w) (told_long m order w ∙ h.long) (step i m)
    (step_is i m order w h ∙ obeyed_by i u w 9001 MoveBlock BlockMoved (block_code w e l) (λ z. omega (arith, z)) move_row)

pub block_move_told : BlockMoveTold
block_move_told m order w e l = simp (lt-ltb 0 (first_digit w) (omega (arith, e)), lt-ltb 0 (a_in w) l)

-- ---- address tests

test_digit : (k : Address) → (1 ≤ digit_of k) × (digit_of k ≤ 8)
test_digit OfA = (omega arith, omega arith)
test_digit OfB = (omega arith, omega arith)
test_digit OfC = (omega arith, omega arith)

test_code : (w : ℕ) (k : Address) → first_digit w ≡ digit_of k → code_in w ≡ 1000 * digit_of k
unfolding code_in
test_code w k e =
    let d = test_digit k in
    simp (ne_eqb (first_digit w) 0 (λ z. omega (arith, e, z, d.0)), ne_eqb (first_digit w) 9 (λ z. omega (arith, e, z, d.1)))
    (ap (λ (n : ℕ). 1000 * n) e)

test_row : (k : Address) → lookup (1000 * digit_of k) codes ≡ Some (Compare k, Compared)
unfolding lookup codes
test_row OfA = refl
test_row OfB = refl
test_row OfC = refl

not_pch : (k : Address) → 1000 * digit_of k ≡ pch_code → ⊥
not_pch k e = omega (arith, e, (test_digit k).0)

module _ (i : Inputs) (u : Machine) (k : Address) (a b c : ℕ) where
  abbrev judged_test : Answer
  judged_test = allowed i u (Compare k) a b c (checked Compared u.cells a b c)

  test_zero : a ≡ 0 → judged_test ≡ undone BadAddress u
  unfolding checked
  test_zero e = rw e

  test_foreign : 1 ≤ a → cell_at u.cells a ≡ None → judged_test ≡ undone Unmarked u
  unfolding checked
  test_foreign l e = rw (le-leb 1 a l, e)

  test_owned : 1 ≤ a → (y : ℕ) → cell_at u.cells a ≡ Some y
      → judged_test ≡ done (going_to u (pick (eqb (address_in k y) b) (u.state.location + 1) c))
  unfolding checked performed
  test_owned l y e =
      rw (le-leb 1 a l, ap is_owned e) (ap (λ (z : Cell). done (going_to u (pick (eqb (address_in k (shown z)) b) (u.state.location + 1) c))) e)

  tests : (x : Answer) → x ≡ judged_test → TestsAddress x u k a b c
  tests x e =
      record {
        zero = λ z. e ∙ test_zero z;
        foreign = λ l f. e ∙ test_foreign l f;
        equal = λ l y f g.
            e ∙ test_owned l y f ∙ ap (λ (t : Bool). done (going_to u (pick t (u.state.location + 1) c))) (eq-eqb (address_in k y) b g);
        unequal = λ l y f g.
            e ∙ test_owned l y f ∙ ap (λ (t : Bool). done (going_to u (pick t (u.state.location + 1) c))) (ne_eqb (address_in k y) b g);
      }

pub address_tests : AddressTests
address_tests i m order w h k e =
    let u : Machine = told m order w in
    tests i u k (a_in w) (b_in w) (c_in w) (step i m)
    (step_is i m order w h ∙ obeyed_by i u w (1000 * digit_of k) (Compare k) Compared (test_code w k e) (not_pch k) (test_row k))
