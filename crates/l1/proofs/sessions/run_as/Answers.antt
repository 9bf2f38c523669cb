-- `l1::sessions::run_as` meets its contract: the budget and the switches are those that the call asks for. Assumes nothing.
use mathlib.Core.Path.{◌≡◌, subst}
use Rattle.std.proofs.Common.{Option, IfSome}
use mathlib.Core.List.{List}
use Prim.Native.Nat.{ℕ}
use Rattle.rules.specs.declared.State.{State}
use Rattle.rules.specs.declared.Switches.{Switches}
use Rattle.machine.specs.Lent.{call_of}
use Rattle.l1.specs.Going.{gone_on, WentOn}
use Rattle.l1.specs.declared.sessions.Gone.{Gone}
use Rattle.l1.proofs.sessions.run_as.Goals as goal

asked : (drum marks out deck : List ℕ) (s : State) (d k : List ℕ) (r : Option Gone) {b budget : ℕ} {x y : Switches} → b ≡ budget → x ≡ y
    → IfSome r (WentOn (gone_on b (call_of drum marks out deck s b x) 0) d k)
    → IfSome r (WentOn (gone_on budget (call_of drum marks out deck s budget y) 0) d k)
asked drum marks out deck s d k r {b} {budget} {x} {y} f e w =
    subst (λ (z : Switches). IfSome r (WentOn (gone_on budget (call_of drum marks out deck s budget z) 0) d k)) e
    (subst (λ (n : ℕ). IfSome r (WentOn (gone_on n (call_of drum marks out deck s n x) 0) d k)) f w)

pub returns : goal.returns
returns g c =
    let a = c.args in
    asked a.drum.now a.marks.now a.out.now a.deck.now a.state _ _ _ c.budget_of.ensures c.switches_of.ensures c.go_on.ensures
