-- `machine::punching::punch_cards` meets its contract: each turn sends one card, and what is left to punch is the whole from the start.
-- Assumes nothing.
use mathlib.Core.Path.{refl}
use native.Mathlib.Omega.{arith}
use Rattle.machine.proofs.Punches.{punching_more, punching_end}
use Rattle.machine.proofs.punching.punch_cards.Goals as goal

pub loop-left-init : goal.loop-left-init
loop-left-init c =
    record {
      long = refl;
      room = c.requires.block_fits.2;
      low = c.requires.block_fits.0;
      inside = c.requires.block_fits.1;
      located = c.requires.located;
      cards = c.args.n;
      enough = omega arith;
      sends = λ drum₀ out₀ m h. (m, h, refl);
    }

pub loop-left-preserved : goal.loop-left-preserved
loop-left-preserved c =
    punching_more c.loop-left.invariant c.at_most_five-k.ensures c.punch_card.auto.out c.punch_card.ensures.0 c.punch_card.ensures.1 c.punch_card.ensures.2

pub returns : goal.returns
returns c = punching_end c.loop-left.invariant (omega arith) c.go_on.ensures
