-- `list::kinds::stop_bad` meets its contract: its tests are those of the definition. Assumes nothing.
use mathlib.Core.Path.{sym, ap, ◌∙◌}
use mathlib.Core.List.{List}
use Prim.Native.Nat.{ℕ, ◌+◌}
use native.Mathlib.Omega.{arith}
use borrow.Author.Tests.{lt-ltb, le-ltb, not-true, not-false}
use Rattle.rules.specs.Cards.{bad_from}
use Rattle.rules.proofs.Dues.{bad_within}
use Rattle.card.proofs.Checks.{part, part_is}
use Rattle.list.specs.Listing.{stop_bad}
use Rattle.list.proofs.kinds.stop_bad.Goals as goal

pub returns-then-bad-lt13 : goal.returns-then-bad-lt13
unfolding stop_bad
returns-then-bad-lt13 c =
    let e = c.first_bad-bad.ensures in
    rw (lt-ltb (bad_from 0 c.args.rest.now 1 12) 13 (omega (arith, e, c.if-bad-lt13.true))) e

pub returns-then-not-is_sign : goal.returns-then-not-is_sign
unfolding stop_bad
returns-then-not-is_sign c =
    simp (le-ltb (bad_from 0 c.args.rest.now 1 12) 13 (omega (arith, c.first_bad-bad.ensures, c.if-bad-lt13.false)), sym c.is_sign.ensures ∙ not-true _ c.if-not-is_sign.true-raw)

pub overflow_add-result : goal.overflow_add-result
overflow_add-result c = omega (arith, c.first_bad.ensures, bad_within 0 (part c.args.rest.now 13) 1 10)

pub returns : goal.returns
unfolding stop_bad
returns c =
    let d = c.args.rest.now in
    simp (le-ltb (bad_from 0 d 1 12) 13 (omega (arith, c.first_bad-bad.ensures, c.if-bad-lt13.false)), sym c.is_sign.ensures ∙ not-false _ c.if-not-is_sign.false-raw)
    (ap (λ (k : ℕ). 13 + k) (c.first_bad.ensures ∙ ap (λ (l : List ℕ). bad_from 0 l 1 10) (part_is d 13)))
