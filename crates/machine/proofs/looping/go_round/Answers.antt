-- `machine::looping::go_round`: the named counts are raised and compared as the rules do. Assumes nothing.
use Prim.Native.Nat.{max}
use mathlib.Core.Path.{◌≡◌, ap₂, ◌∙◌}
use mathlib.Core.List.{[], ◌∷◌}
use Rattle.rules.specs.Machine.{counting, clear_box}
use Rattle.rules.specs.Orders.{largest}
use Rattle.machine.proofs.Loops.{round_again, round_out}
use Rattle.machine.proofs.looping.go_round.Goals as goal
use Rattle.machine.proofs.looping.go_round.Goals.{After-max-most}

greatest_is : (c : After-max-most) → (c.max-most.result ≡ largest c.args.desk.now.state c.args.x c.args.y c.args.z)
greatest_is c =
    c.max-most.ensures ∙ ap₂ max c.compared.ensures (c.max.ensures ∙ ap₂ max c.compared-2.ensures c.compared-3.ensures)

pub returns-then-most-b : goal.returns-then-most-b
returns-then-most-b c =
    λ drum marks drum₀ out₀ out m h.
    let a = c.args in
    round_again h a.x a.y a.z a.b a.c (rw (← greatest_is (goal.at.returns-then-most-b c).After-max-most) c.if-most-b.true)
    (λ i. counting (c.go_to.ensures.0 i) (c.raised_by.ensures i ∷ c.raised_by-then-most-b.ensures i ∷ c.raised_by-then-most-b-2.ensures i ∷ [])) c.go_to.ensures.1

pub returns-else-most-b : goal.returns-else-most-b
returns-else-most-b c =
    λ drum marks drum₀ out₀ out m h.
    let a = c.args in
    round_out h a.x a.y a.z a.b a.c (rw (← greatest_is (goal.at.returns-else-most-b c).After-max-most) c.if-most-b.false)
    (λ i. counting (c.go_on.ensures.0 i) clear_box) c.go_on.ensures.1
