-- `number::is_number` meets its contract: below 10,000,000,000 the digits are the word, and up to 19,999,999,999 the word less that.
-- Assumes nothing.
use Prim.Native.Nat.{ℕ, ◌≤◌}
use mathlib.Core.Path.{◌≡◌}
use native.Mathlib.Omega.{arith}
use lib.Dec.{leb}
use borrow.Author.Tests.{eq-eqb, ne_eqb, le-leb, lt-leb}
use Rattle.rules.specs.Words.{is_number, leading_in}
use Rattle.rules.proofs.Tests.{same_test}
use Rattle.number.proofs.is_number.Goals as goal

-- a word other than +0, by its first eight digits
judged : (least w : ℕ) → (w ≡ 0 → ⊥) → w ≤ 19999999999 → (least ≤ w → 10000000 ≤ leading_in w) → (10000000 ≤ leading_in w → least ≤ w) → leb least w ≡ is_number w
unfolding is_number
judged least w some word forth back = rw (ne_eqb w 0 some, le-leb w 19999999999 word) (same_test least w 10000000 (leading_in w) forth back)

pub returns-then-w-eq0 : goal.returns-then-w-eq0
unfolding is_number
returns-then-w-eq0 c = rw (eq-eqb c.args.w 0 c.if-w-eq0.true)

pub returns-then-w-lt10000000000 : goal.returns-then-w-lt10000000000
returns-then-w-lt10000000000 c =
    judged 1000000000 c.args.w c.if-w-eq0.false (omega arith) (λ l. omega arith) (λ l. omega arith)

pub returns-then-w-lt20000000000 : goal.returns-then-w-lt20000000000
returns-then-w-lt20000000000 c =
    judged 11000000000 c.args.w c.if-w-eq0.false (omega arith) (λ l. omega arith) (λ l. omega arith)

pub returns : goal.returns
unfolding is_number
returns c = rw (ne_eqb c.args.w 0 c.if-w-eq0.false, lt-leb c.args.w 19999999999 c.if-w-lt20000000000.false)
