-- Tracing turned on or off, said of the machine that the lent runs show. Assumes nothing.
use Rattle.std.proofs.Common.{Ok}
use Prim.Native.Nat.{ℕ, ◌+◌, ◌≤◌}
use mathlib.Core.Path.{refl, ap, subst, ◌∙◌}
use mathlib.Core.List.{List}
use native.Mathlib.Omega.{arith}
use Rattle.rules.specs.Machine.{Machine, went_to, with_state, stored, onward, done}
use Rattle.rules.specs.Orders.{tracing_to, erased}
use Rattle.rules.specs.declared.Done.TheVariants.{GoesOn}
use Rattle.rules.specs.declared.State.{State}
use Rattle.drum.specs.Held.{Stored}
use Rattle.machine.specs.declared.desk.Desk.{Desk}
use Rattle.machine.specs.Lent.{Turned, Shows, Did}
use Rattle.machine.proofs.Shown.{with_word_lem, location_is}

pub turned_on : {drum₀ out₀ drum marks out : List ℕ} {desk desk' : Desk} {m : Machine} (h : Shows drum₀ out₀ drum marks out desk m) (t : ℕ)
    → Turned desk t desk' → Did drum₀ out₀ drum marks out desk' (Ok GoesOn) (done (onward (with_state m (tracing_to m.state t))))
turned_on h t e =
    record {
      outcome_is = refl;
      shows =
          record {
            memory = h.memory;
            output = h.output;
            state_is = e.0 ∙ ap (λ (s : State). went_to (tracing_to s t) ((tracing_to s t).location + 1)) h.state_is;
            written_is = e.1 ∙ h.written_is;
          };
    }

-- ST TR ERAS: its own cell too
pub erased_on : {drum₀ out₀ drum marks out d k : List ℕ} {desk desk' : Desk} {m : Machine} (h : Shows drum₀ out₀ drum marks out desk m)
    → desk.state.location ≤ 999 → Stored drum marks desk.state.location erased d k → Turned desk 1 desk'
    → Did drum₀ out₀ d k out desk' (Ok GoesOn) (done (onward (with_state (stored m m.state.location erased) (tracing_to m.state 1))))
erased_on {drum₀} {out₀} {out = out} {d} {k} {desk} {m = m} h f s e =
    turned_on
    (subst (λ (n : ℕ). Shows drum₀ out₀ d k out desk (stored m n erased)) (location_is h)
    (with_word_lem h desk.state.location erased (omega arith) (omega arith) s)) 1 e
