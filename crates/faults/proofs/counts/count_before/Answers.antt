-- `faults::counts::count_before` meets its contract: each turn passes one good card. Assumes nothing.
use mathlib.Core.Path.{sym, ◌∙◌}
use Prim.Native.Nat.{◌+◌, ◌≤◌}
use native.Mathlib.Nat.{pos_of_ne-zero}
use native.Mathlib.Omega.{arith}
use lib.ListN.{length}
use Rattle.rules.specs.Decks.{card_at, card_size}
use Rattle.faults.proofs.Counted.{within, count_begin, count_end, count_none, count_more}
use Rattle.faults.proofs.counts.count_before.Goals as goal
use Rattle.faults.proofs.counts.count_before.Goals.{Else-size-eq0}

-- a card is there, and lies within the deck
abbrev long : (c : Else-size-eq0)
    → (1 ≤ c.size_at-size.result) × (c.loop-at.at + card_size (card_at c.args.deck.now c.loop-at.at) ≤ length c.args.deck.now)
long c =
    let some = pos_of_ne-zero c.if-size-eq0.false in
    (some, within c.args.deck.now c.loop-at.at (omega (arith, some, c.size_at-size.ensures)))

pub loop-at-init : goal.loop-at-init
loop-at-init c = count_begin c.args.deck.now c.args.place

pub returns-then-size-eq0 : goal.returns-then-size-eq0
returns-then-size-eq0 c =
    count_none c.loop-at.invariant c.loop-at-test.true (sym c.size_at-size.ensures ∙ c.if-size-eq0.true)

pub overflow_add-at : goal.overflow_add-at
overflow_add-at c = omega (arith, (long (goal.at.overflow_add-at c).Else-size-eq0).1, c.size_at-size.ensures)

pub overflow_add-n : goal.overflow_add-n
overflow_add-n c =
    omega (arith, (long (goal.at.overflow_add-n c).Else-size-eq0).0, (long (goal.at.overflow_add-n c).Else-size-eq0).1, c.loop-at.invariant.few, c.size_at-size.ensures)

pub loop-at-smaller : goal.loop-at-smaller
loop-at-smaller c =
    omega (arith, (long (goal.at.loop-at-smaller c).Else-size-eq0).0, (long (goal.at.loop-at-smaller c).Else-size-eq0).1, c.size_at-size.ensures)

pub loop-at-preserved : goal.loop-at-preserved
loop-at-preserved c =
    count_more c.loop-at.invariant c.loop-at-test.true c.size_at-size.result (sym c.size_at-size.ensures) (long (goal.at.loop-at-preserved c).Else-size-eq0).0

pub returns : goal.returns
returns c = count_end c.loop-at.invariant c.loop-at-test.false
