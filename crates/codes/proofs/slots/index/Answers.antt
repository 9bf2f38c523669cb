-- `codes::slots::index` meets its contract: what is laid out in 40 turns is the row of each slot's code. Assumes nothing.
use Prim.Native.Nat.{ℕ}
use mathlib.Core.Path.{◌≡◌, refl, sym, ap, ◌∙◌}
use mathlib.Core.List.{List}
use native.Mathlib.Omega.{arith}
use lib.ListN.{length, get_or, set}
use Rattle.codes.specs.Slots.{index_for}
use Rattle.codes.proofs.Keyed.{slot_small}
use Rattle.codes.proofs.Laid.{laid_out, laid_more, long_enough, laid_plain, laid_traced, indexed}
use Rattle.codes.proofs.slots.index.Goals as goal

pub loop-i-init : goal.loop-i-init
unfolding laid_out
loop-i-init c = refl

pub offset_bounds-index-slot : goal.offset_bounds-index-slot
offset_bounds-index-slot c = omega (arith, c.slot_of-slot.ensures, slot_small c.code_at.result)

pub bounds-index-slot : goal.bounds-index-slot
bounds-index-slot c = omega (arith, c.slot_of-slot.ensures, slot_small c.code_at.result)

pub loop-i-preserved : goal.loop-i-preserved
loop-i-preserved c =
    laid_more _ _ _ _ c.loop-i.invariant c.slot_of-slot.ensures c.code_at.ensures

pub bounds-index-454 : goal.bounds-index-454
bounds-index-454 c = omega (arith, long_enough c.loop-i.i, ap length c.loop-i.invariant)

pub bounds-index-410 : goal.bounds-index-410
bounds-index-410 c = omega (arith, long_enough c.loop-i.i, ap length c.loop-i.invariant)

pub returns-then-traced : goal.returns-then-traced
returns-then-traced c =
    let n : c.loop-i.i ≡ 40 = omega arith in
    indexed _ _ (ap (λ (l : List ℕ). set l 410 (get_or l 454 0)) (c.loop-i.invariant ∙ ap laid_out n) ∙ laid_traced ∙ ap index_for (sym c.if-traced.true))

pub returns : goal.returns
returns c =
    let n : c.loop-i.i ≡ 40 = omega arith in
    indexed _ _ (c.loop-i.invariant ∙ ap laid_out n ∙ laid_plain ∙ ap index_for (sym c.if-traced.false))
