-- `machine::reading::read`: what the judging answers decides; only where the cards fit is anything stored. Assumes nothing.
use mathlib.Core.Path.{ap}
use Rattle.rules.specs.Machine.{read_to}
use Rattle.rules.specs.declared.State.{State}
use Rattle.machine.proofs.Refusals.{refused_as}
use Rattle.machine.proofs.CardsRead.{read_fails, read_fits}
use Rattle.machine.proofs.reading.read.Goals as goal

pub returns-in_err-end : goal.returns-in_err-end
returns-in_err-end c =
    λ i d drum₀ out₀ out m h.
    rw (refused_as c.from_residual.result c.from_residual.ensures.1)
    (read_fails h i d c.args.b c.args.c c.judge.ensures c.in_err-end.was)

pub returns : goal.returns
returns c =
    λ i d drum₀ out₀ out m h.
    read_fits h i d c.args.b c.args.c c.judge.ensures c.in_ok-end.was c.store_cards.ensures
    (ap (λ (s : State). read_to s c.in_ok-end.end) c.go_on.ensures.0) c.go_on.ensures.1
