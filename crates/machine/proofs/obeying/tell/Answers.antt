-- `machine::obeying::tell`: with tracing off nothing is told; with it on the card is written where there is room. Assumes nothing.
use mathlib.Core.Path.{refl, ap}
use native.Mathlib.Omega.{arith}
use Rattle.rules.specs.Running.{trace_sent}
use Rattle.rules.specs.declared.State.{State}
use Rattle.machine.proofs.Tellings.{told_full, told_card, told_nothing}
use Rattle.machine.proofs.obeying.tell.Goals as goal

pub returns-then-out-at-lt77 : goal.returns-then-out-at-lt77
returns-then-out-at-lt77 c =
    record {
      begun = c.requires.0;
      mode_is = refl;
      comes = λ i drum₀ out₀ m e h. told_full h i c.args.w c.args.x e c.if-desk-eq1.true c.requires.0.inside c.if-out-at-lt77.true;
    }

pub trace-requires : goal.trace-requires
trace-requires c =
    record { located = (c.requires.1, c.requires.0.located); words_fit = (c.requires.2, c.requires.3, omega (arith, c.requires.0.inside, c.if-out-at-lt77.false)) }

pub returns-else-out-at-lt77 : goal.returns-else-out-at-lt77
returns-else-out-at-lt77 c =
    record {
      begun =
          record {
            located = rw c.trace.ensures.0 c.requires.0.located;
            inside = rw c.trace.ensures.1 (omega (arith, c.trace.auto.out, c.if-out-at-lt77.false, c.requires.0.inside));
          };
      mode_is = ap (λ (s : State). s.mode) c.trace.ensures.0;
      comes = λ i drum₀ out₀ m e h.
          (trace_sent m c.args.w c.args.x, c.trace.ensures.2 drum₀ out₀ m h, told_card h i c.args.w c.args.x e c.if-desk-eq1.true c.requires.0.inside c.if-out-at-lt77.false);
    }

pub returns-else-desk-eq1 : goal.returns-else-desk-eq1
returns-else-desk-eq1 c =
    record { begun = c.requires.0; mode_is = refl; comes = λ i drum₀ out₀ m e h. (m, h, told_nothing h i c.args.w c.args.x c.if-desk-eq1.false) }
