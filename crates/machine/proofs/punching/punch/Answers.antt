-- `machine::punching::punch` meets its contract: the room is tested as the rules test it. Assumes nothing.
use Prim.Native.Nat.{◌+◌, ◌-◌}
use native.Mathlib.Omega.{arith}
use Rattle.machine.proofs.Punches.{punch_full, punch_done}
use Rattle.machine.proofs.punching.punch.Goals as goal

pub returns-then-out-at : goal.returns-then-out-at
returns-then-out-at c =
    let a = c.args in
    λ i drum₀ out₀ m e h. punch_full h i a.b (a.c + 1 - a.b) e c.if-out-at.true c.requires.block_fits.3

pub returns : goal.returns
returns c =
    let a = c.args in
    λ i drum₀ out₀ m e h.
    punch_done h i a.b (a.c + 1 - a.b) e (omega (arith, c.if-out-at.false, c.requires.block_fits.3)) (c.punch_cards.ensures drum₀ out₀ m h)
