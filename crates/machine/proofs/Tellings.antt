-- The trace card of an order, as far as it is written: which way the rules go by tracing and room. Assumes nothing.
use Rattle.std.proofs.Common.{Err}
use Prim.Native.Nat.{ℕ, ◌+◌, ◌-◌, ◌≤◌, ◌<◌}
use mathlib.Core.Path.{◌≡◌, sym, ap, ◌∙◌}
use mathlib.Core.List.{List}
use mathlib.Core.Bool.{Bool}
use native.Mathlib.Omega.{arith}
use lib.Dec.{eqb}
use lib.ListN.{length}
use borrow.Author.Tests.{eq-eqb, ne_eqb, le-leb, lt-leb}
use Rattle.rules.specs.Machine.{Machine, Inputs, is_tracing}
use Rattle.rules.specs.Running.{obeyed, trace_sent, traced}
use Rattle.rules.specs.declared.Refusal.TheVariants.{NoRoom}
use Rattle.machine.specs.Lent.{Shows, Did}
use Rattle.machine.proofs.Shown.{stays}
use Rattle.machine.proofs.Sent.{out_long}
use Rattle.machine.specs.declared.desk.Desk.{Desk}

module _ {drum₀ out₀ drum marks out : List ℕ} {desk : Desk} {m : Machine} (h : Shows drum₀ out₀ drum marks out desk m) (i : Inputs) (w x : ℕ) where
  tracing_is : {t : Bool} → eqb (desk.state.tracing) 1 ≡ t → is_tracing m.state ≡ t
  tracing_is e = ap is_tracing (sym h.state_is) ∙ e

  pub told_nothing : (desk.state.tracing ≡ 1 → ⊥) → traced i m w x ≡ obeyed i m x
  unfolding traced
  told_nothing n = rw (tracing_is (ne_eqb (desk.state.tracing) 1 n))

  module _ (room : length out₀ ≡ i.room) (on : desk.state.tracing ≡ 1) (inside : desk.written ≤ length out) where
    pub told_full : length out - desk.written < 77 → Did drum₀ out₀ drum marks out desk (Err NoRoom) (traced i m w x)
    unfolding traced
    told_full l =
        let z : length out ≡ length out₀ = out_long h.output in
        let y : desk.written ≡ length m.sent = h.written_is in
        rw (tracing_is (eq-eqb (desk.state.tracing) 1 on), lt-leb (length m.sent + 77) i.room (omega arith)) (stays h (Err NoRoom))

    pub told_card : 77 ≤ length out - desk.written → traced i m w x ≡ obeyed i (trace_sent m w x) x
    unfolding traced
    told_card l =
        let z : length out ≡ length out₀ = out_long h.output in
        let y : desk.written ≡ length m.sent = h.written_is in
        rw (tracing_is (eq-eqb (desk.state.tracing) 1 on), le-leb (length m.sent + 77) i.room (omega arith))
