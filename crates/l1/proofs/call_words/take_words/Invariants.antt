-- `l1::call_words::take_words`: the loop's invariant is that the words passed were taken, one after another. Assumes nothing.
use Rattle.std.proofs.Common.{◌≡◌, ◌-◌, ◌≤◌, length, Some}
use Rattle.calls.proofs.Taken.{Taking}
use Rattle.l1.proofs.call_words.take_words.Given as goal

abbrev pub invariant-loop-i : goal.invariant-loop-i
invariant-loop-i g l =
    (131072 ≡ length l.room) × Taking (Some l.initial.options) l.from l.i (Some l.options) × (l.i - l.from ≤ l.count - l.from)
