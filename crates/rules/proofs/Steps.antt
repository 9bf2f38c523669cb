-- What the next order of a machine comes to, by inputs that differ in their switches and requests: it is refused before it is performed, by all
-- of them alike, or all of them perform the same operation on the same machine. Assumes nothing.
use Rattle.std.proofs.Common.{Err, None, Ok, Some}
use Prim.Native.Nat.{ℕ, ◌+◌}
use mathlib.Core.Path.{◌≡◌, refl}
use mathlib.Core.Bool.{Bool, true, false}
use lib.Dec.{leb}
use lib.ListN.{length}
use Rattle.rules.specs.Words.{pick, both, a_in, b_in, c_in}
use Rattle.rules.specs.Drum.{cell_at}
use Rattle.rules.specs.Codes.{codes, lookup, checked}
use Rattle.rules.specs.Machine.{Machine, Requests, Inputs, Answer, is_traced, is_tracing, undone}
use Rattle.rules.specs.Orders.{performed}
use Rattle.rules.specs.Running.{allowed, obeyed_as, code_done, obeyed, as_done, order_fits, trace_sent, trace_size, traced, fetched, step}
use Rattle.rules.specs.Answers.{Built, Cell, Checked}
use Rattle.rules.specs.declared.Switches.{Switches}
use Rattle.rules.specs.declared.Refusal.{Refusal}
use Rattle.rules.specs.declared.Refusal.TheVariants.{BadAddress, Unmarked, NoRoom, NotBuilt}
use Rattle.rules.specs.declared.Class.{Class}
use Rattle.rules.specs.declared.Operation.{Operation}

-- the same but for the switches and the requests
abbrev pub inputs_with : Switches → Requests → Inputs → Inputs
inputs_with s q i = record { deck = i.deck; room = i.room; switches = s; requests = q }

-- The order in the machine's cell, done as w, is the operation o; it is performed on u, which is m but for a trace card.
pub record Performs (m u : Machine) (w : ℕ) (o : Operation) : Type 0 where
  pub order : ℕ
  pub cell : cell_at m.cells m.state.location ≡ Some order
  pub is_done_as : as_done m.state order ≡ w
  pub class : Class
  pub built : lookup (code_done (is_traced m.state) w) codes ≡ Some (o, class)
  pub same_cells : u.cells ≡ m.cells
  pub same_location : u.state.location ≡ m.state.location

-- What is said of refused orders, and of each operation that is performed, is said of every order.
module _ (i : Inputs) (P : (Switches → Requests → Answer) → Type 0) (m : Machine) (not : (r : Refusal) (u : Machine) → P (λ s q. undone r u))
    (did : (u : Machine) (w : ℕ) (o : Operation) → Performs m u w o → P (λ s q. performed (inputs_with s q i) u o (a_in w) (b_in w) (c_in w))) where
  -- the word w₀ in the cell, and the machine on which it is performed
  module _ (w₀ : ℕ) (e : cell_at m.cells m.state.location ≡ Some w₀) where
    abbrev w : ℕ
    w = as_done m.state w₀

    module _ (u : Machine) (f : u.cells ≡ m.cells) (g : u.state.location ≡ m.state.location) where
      by_checks : (o : Operation) (k : Class) → lookup (code_done (is_traced m.state) w) codes ≡ Some (o, k) → (x : Checked)
          → P (λ s q. allowed (inputs_with s q i) u o (a_in w) (b_in w) (c_in w) x)
      by_checks o k h (Ok _) =
          did u w o (record { order = w₀; cell = e; is_done_as = refl; class = k; built = h; same_cells = f; same_location = g })
      by_checks o k h (Err r) = not r u

      by_code : (x : Built) → lookup (code_done (is_traced m.state) w) codes ≡ x → P (λ s q. obeyed_as (inputs_with s q i) u (a_in w) (b_in w) (c_in w) x)
      by_code None h = not NotBuilt u
      by_code (Some (o, k)) h = by_checks o k h (checked k u.cells (a_in w) (b_in w) (c_in w))

    told_as : P (λ s q. obeyed (inputs_with s q i) (trace_sent m w₀ w) w)
    unfolding obeyed
    told_as = by_code (trace_sent m w₀ w) refl refl (lookup (code_done (is_traced m.state) w) codes) refl

    by_room : (t : Bool) → P (λ s q. pick t (obeyed (inputs_with s q i) (trace_sent m w₀ w) w) (undone NoRoom m))
    by_room true = told_as
    by_room false = not NoRoom m

    untold_as : P (λ s q. obeyed (inputs_with s q i) m w)
    unfolding obeyed
    untold_as = by_code m refl refl (lookup (code_done (is_traced m.state) w) codes) refl

    by_tracing : (t : Bool)
        → P (λ s q. pick t (pick (leb (length m.sent + trace_size) i.room) (obeyed (inputs_with s q i) (trace_sent m w₀ w) w) (undone NoRoom m))
        (obeyed (inputs_with s q i) m w))
    by_tracing true = by_room (leb (length m.sent + trace_size) i.room)
    by_tracing false = untold_as

    of_traced : P (λ s q. traced (inputs_with s q i) m w₀ w)
    unfolding traced
    of_traced = by_tracing (is_tracing m.state)

    by_sums : (t : Bool) → P (λ s q. pick t (traced (inputs_with s q i) m w₀ w) (undone BadAddress m))
    by_sums true = of_traced
    by_sums false = not BadAddress m

  by_cell : (x : Cell) → cell_at m.cells m.state.location ≡ x → P (λ s q. fetched (inputs_with s q i) m x)
  unfolding fetched
  by_cell None e = not Unmarked m
  by_cell (Some w₀) e = by_sums w₀ e (order_fits m.state w₀)

  by_location : (t : Bool) → P (λ s q. pick t (fetched (inputs_with s q i) m (cell_at m.cells m.state.location)) (undone BadAddress m))
  by_location true = by_cell (cell_at m.cells m.state.location) refl
  by_location false = not BadAddress m

  pub of_step : P (λ s q. step (inputs_with s q i) m)
  unfolding step
  of_step = by_location (both (leb 1 m.state.location) (leb m.state.location 999))
