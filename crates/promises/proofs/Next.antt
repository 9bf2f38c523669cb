-- The order that comes next is obeyed, once it is told: by its code, the checks of its class and itself. Assumes nothing.
use Rattle.std.proofs.Common.{Some}
use Prim.Native.Nat.{ℕ, ◌+◌}
use mathlib.Core.Path.{◌≡◌, refl, sym, ap, ◌∙◌}
use mathlib.Core.Bool.{Bool, true, false}
use lib.Dec.{leb}
use lib.ListN.{length}
use borrow.Author.Tests.{le-leb, ne_eqb}
use Rattle.rules.specs.Words.{pick, a_in, b_in, c_in}
use Rattle.rules.specs.Codes.{codes, lookup, code_in, pch_code, checked}
use Rattle.rules.specs.Machine.{Machine, Inputs, is_traced, is_tracing, undone}
use Rattle.rules.specs.Running.{allowed, obeyed_as, code_done, obeyed, trace_sent, trace_size, traced, fetched, step}
use Rattle.rules.specs.declared.Refusal.TheVariants.{NoRoom}
use Rattle.rules.specs.declared.Class.{Class}
use Rattle.rules.specs.declared.Operation.{Operation}
use Rattle.promises.specs.Next.{Next, told}

pub told_long : (m : Machine) (order w : ℕ) → length (told m order w).cells ≡ length m.cells
told_long m order w = by_tracing (is_tracing m.state)
  where
    by_tracing : (t : Bool) → length (pick t (trace_sent m order w) m).cells ≡ length m.cells
    by_tracing true = refl
    by_tracing false = refl

-- ---- an order that comes next is obeyed, once it is told

module _ (i : Inputs) (m : Machine) (order w : ℕ) (h : Next i m order w) where
  traced_is : traced i m order w ≡ obeyed i (told m order w) w
  unfolding traced
  traced_is = by_tracing (is_tracing m.state) refl
    where
      by_tracing : (t : Bool) → is_tracing m.state ≡ t
          → pick t (pick (leb (length m.sent + trace_size) i.room) (obeyed i (trace_sent m order w) w) (undone NoRoom m)) (obeyed i m w)
          ≡ obeyed i (pick t (trace_sent m order w) m) w
      by_tracing true e = rw (le-leb (length m.sent + trace_size) i.room (h.room e))
      by_tracing false e = refl

  pub step_is : step i m ≡ obeyed i (told m order w) w
  unfolding step fetched
  step_is =
      rw (le-leb 1 m.state.location h.behind_000, le-leb m.state.location 999 h.within, h.cell, h.fits, h.is_done_as) traced_is

-- ---- by its code, which is not PCH's, its checks and itself

pub obeyed_by : (i : Inputs) (u : Machine) (w code : ℕ) (o : Operation) (k : Class) → code_in w ≡ code → (code ≡ pch_code → ⊥) → lookup code codes ≡ Some (o, k)
    → obeyed i u w ≡ allowed i u o (a_in w) (b_in w) (c_in w) (checked k u.cells (a_in w) (b_in w) (c_in w))
unfolding obeyed
obeyed_by i u w code o k e f g = ap (obeyed_as i u (a_in w) (b_in w) (c_in w)) (ap (λ (n : ℕ). lookup n codes) (done_code (is_traced u.state)) ∙ g)
  where
    done_code : (t : Bool) → code_done t w ≡ code
    done_code true = rw (ne_eqb (code_in w) pch_code (λ q. f (sym e ∙ q))) e
    done_code false = e
