-- `machine::comparing::compare`: goes where the rules go. Assumes nothing.
use Rattle.std.proofs.Common.{Ok}
use mathlib.Core.Path.{ap₂, ◌∙◌}
use Prim.Native.Nat.{ℕ, ◌+◌}
use lib.Dec.{eqb}
use Rattle.rules.specs.Words.{pick, address_in}
use Rattle.rules.specs.declared.Done.TheVariants.{GoesOn}
use Rattle.machine.proofs.Shown.{word_is, location_is, went_as}
use Rattle.machine.proofs.comparing.compare.Goals as goal

pub returns : goal.returns
returns c =
    λ drum₀ out₀ out m h.
    let a = c.args in
    went_as h (Ok GoesOn)
    (c.address_target-l.ensures
    ∙ ap₂ (λ (w l : ℕ). pick (eqb (address_in a.x w) a.b) (l + 1) a.c) (word_is h.memory a.a c.word-w.ensures) (location_is h))
    c.go_to.ensures
