-- `machine::obeying::perform`: each family does what the rules say of its operations. Assumes nothing.
use Rattle.rules.specs.Orders.{performed}
use Rattle.machine.specs.Allowed.{Allowed}
use mathlib.Core.Path.{subst}
use Rattle.rules.specs.declared.Operation.{Operation}
use Rattle.machine.proofs.obeying.perform.Goals as goal

pub punch-requires : goal.punch-requires
punch-requires c =
    let x = subst (λ (o : Operation). Allowed o c.args.a c.args.b c.args.c) c.in-Pch.is c.requires.order_allowed.2 in
    record { located = c.requires.ready.1.located; block_fits = (x.0, x.1, c.requires.order_allowed.1, c.requires.ready.1.inside) }

pub move_block-requires : goal.move_block-requires
move_block-requires c =
    let x = subst (λ (o : Operation). Allowed o c.args.a c.args.b c.args.c) c.in-MoveBlock.is c.requires.order_allowed.2 in
    (c.requires.ready.1.located, x.0, x.1)

pub returns-in-Reckon : goal.returns-in-Reckon
unfolding performed
returns-in-Reckon c =
    λ i l drum₀ out₀ m e h.
    rw c.in-Reckon.is (c.reckon_at.ensures i l.switches_are l.requests_are drum₀ out₀ _ m h)

pub returns-in-Move : goal.returns-in-Move
unfolding performed
returns-in-Move c =
    λ i l drum₀ out₀ m e h.
    rw c.in-Move.is (c.move_word.ensures drum₀ out₀ _ m h)

pub returns-in-Go : goal.returns-in-Go
unfolding performed
returns-in-Go c =
    λ i l drum₀ out₀ m e h.
    rw c.in-Go.is (c.go.ensures i l.switches_are drum₀ out₀ _ m h)

pub returns-in-Loop : goal.returns-in-Loop
unfolding performed
returns-in-Loop c =
    λ i l drum₀ out₀ m e h.
    rw c.in-Loop.is (c.go_round.ensures _ _ drum₀ out₀ _ m h)

pub returns-in-Change : goal.returns-in-Change
unfolding performed
returns-in-Change c =
    λ i l drum₀ out₀ m e h.
    rw (c.in-Change.is, l.requests_are) (c.change.ensures drum₀ out₀ _ m h)

pub returns-in-Read : goal.returns-in-Read
unfolding performed
returns-in-Read c =
    λ i l drum₀ out₀ m e h.
    rw c.in-Read.is (c.read.ensures i l.deck_is drum₀ out₀ _ m h)

pub returns-in-Pch : goal.returns-in-Pch
unfolding performed
returns-in-Pch c =
    λ i l drum₀ out₀ m e h.
    rw c.in-Pch.is (c.punch.ensures i drum₀ out₀ m e h)

pub returns-in-Trace : goal.returns-in-Trace
unfolding performed
returns-in-Trace c =
    λ i l drum₀ out₀ m e h.
    rw c.in-Trace.is (c.retrace.ensures drum₀ out₀ _ m h)

pub returns-in-MoveBlock : goal.returns-in-MoveBlock
unfolding performed
returns-in-MoveBlock c =
    λ i l drum₀ out₀ m e h.
    rw c.in-MoveBlock.is (c.move_block.ensures drum₀ out₀ _ m h)

pub returns-in-Compare : goal.returns-in-Compare
unfolding performed
returns-in-Compare c =
    λ i l drum₀ out₀ m e h.
    rw c.in-Compare.is (c.compare.ensures drum₀ out₀ _ m h)
