-- `machine::going::link`: the order at c is changed and stored, and is the next. Assumes nothing.
use mathlib.Core.Path.{ap, ◌∙◌}
use native.Mathlib.Omega.{arith}
use Prim.Native.Nat.{ℕ, ◌<◌, ◌≤◌}
use Rattle.rules.specs.Words.{digits_in, with_address}
use Rattle.rules.specs.declared.Address.TheVariants.{OfC}
use Rattle.machine.proofs.Shown.{word_is}
use Rattle.machine.proofs.Stores.{stored_went}
use Rattle.machine.proofs.going.link.Goals as goal

linked_small : (w : ℕ) {b : ℕ} → b < 1000 → with_address OfC (digits_in w) b ≤ 19999999999
linked_small w l = omega arith

pub returns : goal.returns
returns c =
    λ drum₀ out₀ out m h.
    let a = c.args in
    stored_went h a.c c.requires.1 (rw c.linked_word-x.ensures (linked_small _ c.requires.0))
    (c.linked_word-x.ensures ∙ ap (λ (w : ℕ). with_address OfC (digits_in w) a.b) (word_is h.memory a.c c.word-w.ensures))
    c.keep.ensures a.c c.go_to.ensures
