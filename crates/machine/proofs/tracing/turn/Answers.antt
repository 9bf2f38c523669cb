-- `machine::tracing::turn`: by the mode. Assumes nothing.
use Prim.Native.Nat.{◌+◌}
use mathlib.Core.Path.{◌≡◌, refl, ap, ◌∙◌}
use mathlib.Core.Bool.{Bool, true, false}
use mir.Val.{bool_byte}
use borrow.Author.Tests.{eq-eqb, ne_eqb}
use Rattle.rules.specs.Words.{pick}
use Rattle.rules.specs.Machine.{went_to, tracing_set}
use Rattle.rules.specs.Orders.{tracing_to}
use Rattle.rules.specs.declared.State.{State}
use Rattle.machine.specs.declared.desk.Desk.{Desk}
use Rattle.machine.proofs.tracing.turn.Goals as goal
use Rattle.machine.proofs.tracing.turn.Goals.{After-go_on, then-desk-eq1, else-desk-eq1}

as_number : (t : Bool) → bool_byte t ≡ pick t 1 0
as_number true = refl
as_number false = refl

turned : (c : After-go_on)
    → (c.if-desk-eq1.desk.state ≡ tracing_to c.args.desk.now.state (pick c.args.on 1 0)) × (c.if-desk-eq1.desk.written ≡ c.args.desk.now.written)
turned c =
    let s : State = c.args.desk.now.state in
    elim c.if-desk-eq1.branch [
      | then-desk-eq1 w ↦ (
        rw (eq-eqb s.mode 1 w.if-desk-eq1.true) (ap (λ (d : Desk). d.state) w.desk-is ∙ ap (tracing_set s) (w.from-desk.ensures ∙ as_number c.args.on)),
        ap (λ (d : Desk). d.written) w.desk-is,
      )
      | else-desk-eq1 w ↦
          (rw (ne_eqb s.mode 1 w.if-desk-eq1.false) (ap (λ (d : Desk). d.state) w.desk-is), ap (λ (d : Desk). d.written) w.desk-is)
    ]

pub returns : goal.returns
returns c =
    let t = turned c in
    (c.go_on.ensures.0 ∙ ap (λ (s : State). went_to s (s.location + 1)) t.0, c.go_on.ensures.1 ∙ t.1)
