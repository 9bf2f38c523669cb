-- One step, said of the machine that the lent runs show: which way it goes, by location, cell and sums. Assumes nothing.
use Rattle.std.proofs.Common.{Err, None, Some}
use Prim.Native.Nat.{ℕ, ◌≤◌, ◌<◌}
use mathlib.Core.Path.{◌≡◌, sym, ap, subst, ◌∙◌}
use mathlib.Core.List.{List}
use mathlib.Core.Bool.{Bool, true, false}
use native.Mathlib.Omega.{arith}
use lib.ListN.{length}
use borrow.Author.Tests.{le-leb, lt-leb}
use Rattle.rules.specs.Words.{pick}
use Rattle.rules.specs.Drum.{view, cell_at}
use Rattle.rules.specs.Machine.{Machine, Inputs, Answer, undone}
use Rattle.rules.specs.Running.{order_fits, as_done, traced, fetched, step}
use Rattle.rules.specs.Answers.{Cell, Outcome}
use Rattle.rules.specs.declared.State.{State}
use Rattle.rules.specs.declared.Refusal.TheVariants.{BadAddress, Unmarked}
use Rattle.drum.proofs.Cells.{seen}
use Rattle.machine.specs.Lent.{Shows, Did}
use Rattle.machine.proofs.Shown.{stays, location_is}
use Rattle.machine.proofs.Sent.{out_long}
use Rattle.machine.specs.declared.desk.Desk.{Desk}

pub inside : {drum₀ out₀ drum marks out : List ℕ} {desk : Desk} {m : Machine} → Shows drum₀ out₀ drum marks out desk m → desk.written ≤ length out
inside h = omega (arith, h.written_is, out_long h.output, h.output.fits)

module _ {drum₀ out₀ drum marks out : List ℕ} {desk : Desk} {m : Machine} (h : Shows drum₀ out₀ drum marks out desk m) (i : Inputs) where
  pub step_zero : desk.state.location ≡ 0 → Did drum₀ out₀ drum marks out desk (Err BadAddress) (step i m)
  unfolding step
  step_zero e =
      let q : desk.state.location ≡ m.state.location = location_is h in
      rw (lt-leb 1 m.state.location (omega arith)) (stays h (Err BadAddress))

  pub step_past : 999 < desk.state.location → Did drum₀ out₀ drum marks out desk (Err BadAddress) (step i m)
  unfolding step
  step_past k =
      let q : desk.state.location ≡ m.state.location = location_is h in
      rw (le-leb 1 m.state.location (omega arith), lt-leb m.state.location 999 (omega arith)) (stays h (Err BadAddress))

  module _ (some : desk.state.location ≡ 0 → ⊥) (top : desk.state.location ≤ 999) where
    step_is : {c : Cell} → c ≡ cell_at (view drum marks) desk.state.location → step i m ≡ fetched i m c
    unfolding step
    step_is {c} e =
        let q : desk.state.location ≡ m.state.location = location_is h in
        let f : cell_at m.cells m.state.location ≡ c = sym (e ∙ ap (λ (v : List Cell). cell_at v desk.state.location) (seen h.memory) ∙ ap (cell_at m.cells) q) in
        rw (le-leb 1 m.state.location (omega (arith, some)), le-leb m.state.location 999 (omega arith)) (ap (fetched i m) f)

    pub step_unmarked : None ≡ cell_at (view drum marks) desk.state.location → Did drum₀ out₀ drum marks out desk (Err Unmarked) (step i m)
    unfolding fetched
    step_unmarked e = rw (step_is e) (stays h (Err Unmarked))

    module _ {w : ℕ} (mine : Some w ≡ cell_at (view drum marks) desk.state.location) where
      fits_as : {t : Bool} → order_fits desk.state w ≡ t → order_fits m.state w ≡ t
      fits_as e = ap (λ (s : State). order_fits s w) (sym h.state_is) ∙ e

      pub step_sums : order_fits desk.state w ≡ false → Did drum₀ out₀ drum marks out desk (Err BadAddress) (step i m)
      unfolding fetched
      step_sums e = rw (step_is mine, fits_as e) (stays h (Err BadAddress))

      -- the order x is told, and then obeyed
      pub step_told : {x : ℕ} {d k o : List ℕ} {r : Desk} {u : Outcome} → order_fits desk.state w ≡ true → x ≡ as_done desk.state w
          → Did drum₀ out₀ d k o r u (traced i m w x) → Did drum₀ out₀ d k o r u (step i m)
      unfolding fetched
      step_told {x} {d} {k} {o} {r} {u} f e t =
          subst (λ (y : Answer). Did drum₀ out₀ d k o r u y)
          (sym
          (step_is mine
          ∙ ap (λ (b : Bool). pick b (traced i m w (as_done m.state w)) (undone BadAddress m)) (fits_as f)
          ∙ ap (λ (s : State). traced i m w (as_done s w)) (sym h.state_is)
          ∙ ap (traced i m w) (sym e))) t
