-- `number::sums::few` meets its contract: told in units a tenth as large as often as there is room, the digits are eight and exact.
-- Assumes nothing.
use Prim.Native.Nat.{◌-◌, ◌*◌, ◌≤◌}
use mathlib.Core.Path.{sym, ap, ◌∙◌}
use native.Mathlib.Omega.{arith}
use Rattle.std.specs.Int.{from_bool}
use Rattle.rules.specs.Rounding.{single, placed}
use Rattle.rules.specs.Arithmetic.{word_of}
use Rattle.number.proofs.Aligning.{none, finer_more, finer_low, finer_is}
use Rattle.number.proofs.Units.{eight_already}
use Rattle.number.proofs.sums.few.Goals as goal
use Rattle.number.proofs.sums.few.Goals.{At-loop-w}

low : (c : At-loop-w) → c.loop-w.i ≤ 7
low c =
    finer_low c.args.v c.loop-w.w c.loop-w.i (omega (arith, c.if-v-eq0.false)) c.loop-w.invariant

pub returns-then-v-eq0 : goal.returns-then-v-eq0
returns-then-v-eq0 c =
    let a = c.args in
    sym (none (from_bool a.minus) a.v a.j c.if-v-eq0.true)

pub overflow_add-i : goal.overflow_add-i
overflow_add-i c = omega (arith, low (goal.at.overflow_add-i c).At-loop-w)

pub loop-w-preserved : goal.loop-w-preserved
loop-w-preserved c = finer_more c.args.v c.loop-w.w c.loop-w.i c.loop-w.invariant c.loop-w-test.true

pub overflow_sub-j : goal.overflow_sub-j
overflow_sub-j c = omega (arith, low (goal.at.overflow_sub-j c).At-loop-w, c.requires.1)

pub returns : goal.returns
returns c =
    let a = c.args in
    let w = c.loop-w.w in
    let i = c.loop-w.i in
    let f = c.loop-w.invariant in
    c.judged.ensures
    ∙ sym
    (ap word_of
    (eight_already (2 * w) (from_bool a.minus) (a.j - i) _ (omega (arith, c.loop-w-test.false)) (omega (arith, f.few)) (finer_is a.v w i a.j f (omega (arith, low (goal.at.returns c).At-loop-w, c.requires.1)))
    ∙ ap (λ m. placed single (from_bool a.minus) m (a.j - i)) (omega arith)))
