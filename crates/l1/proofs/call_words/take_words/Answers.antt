-- `l1::call_words::take_words` meets its contract. The loop's invariant: the words passed were taken, one after another. Assumes nothing.
use native.Mathlib.Omega.{arith}
use Rattle.std.proofs.Common.{rules, Some, sym, ◌∙◌}
use Rattle.std.proofs.lemmas.Bool.{false≢true}
use Rattle.calls.proofs.Taken.{take_none, take_next, read_as_taken}
use Rattle.l1.proofs.call_words.take_words.Goals as goal

pub loop-i-init : goal.loop-i-init
loop-i-init g c = (c.room-room.ensures.size, take_none (Some c.args.form) c.args.from, omega arith)

pub loop-i-preserved : goal.loop-i-preserved
loop-i-preserved g c =
    let w = c.take_word.ensures in
    (search rules, take_next w.0 c.loop-i.invariant.1 (sym c.in_ok-options.was ∙ w.1), omega arith)

pub returns-in_err-options : goal.returns-in_err-options
returns-in_err-options g c =
    let w = c.take_word.ensures in
    rw c.from_residual.ensures
    (read_as_taken c.args.count (take_next w.0 c.loop-i.invariant.1 (sym c.in_err-options.was ∙ w.1)) (omega arith)
    (λ e. absurd (false≢true e)))

pub returns : goal.returns
returns g c =
    read_as_taken c.args.count c.loop-i.invariant.1 c.loop-i.invariant.2 (λ e. omega arith)
