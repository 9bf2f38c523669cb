-- `card::word_of` meets its contract: the word's place is read as the definition reads it, and past the end there is nothing.
-- Assumes nothing.
use mathlib.Core.List.{List}
use mathlib.Core.Path.{◌≡◌, refl, sym, ap₂}
use Prim.Native.Nat.{ℕ, zero, suc, ◌+◌, ◌*◌, ◌-◌, ◌≤◌}
use native.Mathlib.Nat.{add-zero}
use native.Mathlib.Omega.{arith}
use borrow.Author.Tests.{eq-eqb, ne_eqb}
use lib.Dec.{eqb}
use lib.ListN.{length, get_or-eq_default}
use Rattle.rules.specs.Cards.{number_in, word_in}
use Rattle.rules.specs.Words.{pick}
use Rattle.card.proofs.reading.word_of.Goals as goal

-- past the end there is nothing
number_past : (d : List ℕ) (a n : ℕ) → length d ≤ a → number_in d a n ≡ 0
unfolding number_in
number_past d a zero h = refl
number_past d a (suc n) h = ap₂ (λ (x b : ℕ). 10 * x + (b - 48)) (number_past d a n h) (get_or-eq_default d 0 (omega arith))

word_past : (d : List ℕ) (a : ℕ) → length d ≤ a → word_in d a ≡ 0
unfolding word_in
word_past d a h =
    ap₂ (λ (x b : ℕ). x + pick (eqb b 45) 10000000000 0) (number_past d (a + 1) 10 (omega arith)) (get_or-eq_default d 0 h)

pub returns-then-rest-i : goal.returns-then-rest-i
returns-then-rest-i c = sym (word_past c.args.rest.now (8 + 11 * c.args.i) (omega arith))

pub returns-then-byte_at-eq45 : goal.returns-then-byte_at-eq45
unfolding word_in
returns-then-byte_at-eq45 c = simp (← c.byte_at.ensures, eq-eqb _ 45 c.if-byte_at-eq45.true, c.number_in-x.ensures.0)

pub returns : goal.returns
unfolding word_in
returns c = simp (← c.byte_at.ensures, ne_eqb _ 45 c.if-byte_at-eq45.false, c.number_in-x.ensures.0, add-zero)
