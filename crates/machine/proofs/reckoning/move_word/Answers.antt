-- `machine::reckoning::move_word`: the result is the word at b. Assumes nothing.
use Rattle.std.proofs.Common.{Ok}
use mathlib.Core.Path.{subst}
use Prim.Native.Nat.{ℕ}
use Rattle.rules.specs.Machine.{done, onward}
use Rattle.rules.specs.Orders.{result_at}
use Rattle.rules.specs.declared.Done.TheVariants.{GoesOn}
use Rattle.machine.specs.Lent.{Did}
use Rattle.machine.proofs.Shown.{word_is}
use Rattle.machine.proofs.reckoning.move_word.Goals as goal

pub store_result-requires : goal.store_result-requires
store_result-requires c = (c.requires.1, c.requires.2, rw c.word-w.ensures (c.requires.0 c.args.b))

pub returns : goal.returns
returns c =
    λ drum₀ out₀ out m h.
    let r = c.store_result in
    subst (λ (w : ℕ). Did drum₀ out₀ r.new.drum r.new.marks out r.new.desk (Ok GoesOn) (done (onward (result_at m c.args.c w))))
    (word_is h.memory c.args.b c.word-w.ensures) (r.ensures drum₀ out₀ out m h)
