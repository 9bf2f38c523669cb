-- `says::write_closing` meets its contract: the writers of a stop card and of a refused call's line say the rest. Assumes nothing.
use mathlib.Core.Path.{sym, ap}
use mathlib.Core.Bool.{Bool}
use Prim.Native.Nat.{ℕ}
use Rattle.rules.specs.Words.{pick}
use Rattle.stops.specs.declared.Told.{Told}
use Rattle.says.proofs.Answers.{closed_counts, line_told, stop_told}
use Rattle.says.proofs.closing.write_closing.Goals as goal

pub returns-in-Err : goal.returns-in-Err
returns-in-Err c =
    let a = c.args in
    let w = line_told a.ending a.state a.count a.out.now _ _ _ _ _ c.in-Err.is (ap (λ (t : Told). t.number) c.from-told.ensures) (ap (λ (t : Told). t.place) c.from-told.ensures) c.write_refused.ensures.closed in
    record { closed = w; within = closed_counts _ _ _ _ _ w }

pub returns-then-write_stop : goal.returns-then-write_stop
returns-then-write_stop c =
    let a = c.args in
    let said = ap {B = ℕ} (λ (t : Bool). pick t 24 0) (sym c.if-write_stop.true) in
    let w = stop_told a.ending a.state a.count a.out.now _ _ _ _ _ _ c.in-Ok.is (ap (λ (t : Told). t.number) c.from-told-in-Ok.ensures) (ap (λ (t : Told). t.shown) c.from-told-in-Ok.ensures) said c.write_stop.ensures in
    record { closed = w; within = closed_counts _ _ _ _ _ w }

pub returns-else-write_stop : goal.returns-else-write_stop
returns-else-write_stop c =
    let a = c.args in
    let said = ap {B = ℕ} (λ (t : Bool). pick t 24 0) (sym c.if-write_stop.false) in
    let w = stop_told a.ending a.state a.count a.out.now _ _ _ _ _ _ c.in-Ok.is (ap (λ (t : Told). t.number) c.from-told-in-Ok.ensures) (ap (λ (t : Told). t.shown) c.from-told-in-Ok.ensures) said c.write_stop.ensures in
    record { closed = w; within = closed_counts _ _ _ _ _ w }
