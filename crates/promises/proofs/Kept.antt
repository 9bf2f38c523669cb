-- Why a cell that is unmarked in the end is as it was: a call lays cells over the drum that have only grown from its view, and a foreign
-- cell laid over the drum leaves the number that is there. Assumes nothing.
use Rattle.std.proofs.Common.{Err, Ok}
use Prim.Native.Nat.{ℕ}
use mathlib.Core.Path.{◌≡◌, refl, sym, ap, ◌∙◌}
use mathlib.Core.List.{List, [], ◌∷◌}
use mathlib.Core.Bool.{Bool, true, false}
use lib.ListN.{length, get_or}
use Rattle.rules.specs.Drum.{view, store, marks_of, overlay, drum_fits}
use Rattle.rules.specs.Decks.{data_from, cards_stored, deck_of}
use Rattle.rules.specs.Machine.{present}
use Rattle.rules.specs.Running.{begun, inputs, run_from, state_fits, ran_as, ran_on, ran_by, ran}
use Rattle.rules.specs.Loads.{loaded_from, loaded}
use Rattle.rules.specs.Answers.{Cell, Deck}
use Rattle.rules.specs.declared.State.{State}
use Rattle.rules.specs.declared.Switches.{Switches}
use Rattle.rules.proofs.Views.{length-overlay, Fit, fit, marks_again, Grows, store_grows, overlay_kept}
use Rattle.rules.proofs.Growth.{cards_grow, run_grows}
use Rattle.promises.specs.Calls.{Call, load, run, make, load_of, run_of, start_of, Told, Called, called, after_load, after_run, history}
use Rattle.promises.specs.Foreign.{ForeignKept, LengthKept}

-- one call from drum and marks: what it leaves unmarked was unmarked, and is kept; the drum is as long as it was
pub record Kept (drum marks : List ℕ) (x : Called) : Type 0 where
  pub cell_kept : (i : ℕ) → get_or x.told.marks i 0 ≡ 0 → (get_or marks i 0 ≡ 0) × (get_or x.drum i 0 ≡ get_or drum i 0)
  pub long_kept : length x.drum ≡ length drum

nothing_done : (drum marks : List ℕ) (t : Told) → t.marks ≡ marks → Kept drum marks (record { told = t; drum = drum })
nothing_done drum marks t e = record { cell_kept = λ i z. (ap (λ (ms : List ℕ). get_or ms i 0) (sym e) ∙ z, refl); long_kept = refl }

-- cells that have only grown, laid over the drum
laid_over : (drum marks : List ℕ) (v : List Cell) (t : Told) → Fit drum marks → Grows (view drum marks) v → t.marks ≡ marks_of v
    → Kept drum marks (record { told = t; drum = overlay drum v })
laid_over drum marks v t f g e =
    record {
      cell_kept = λ i z.
          let u : get_or (marks_of v) i 0 ≡ 0 = ap (λ (ms : List ℕ). get_or ms i 0) (sym e) ∙ z in
          (ap (λ (ms : List ℕ). get_or ms i 0) (sym (marks_again drum marks f)) ∙ g i u, overlay_kept drum v i u);
      long_kept = length-overlay drum v;
    }

module _ (drum marks : List ℕ) where
  load_kept_from : (deck : List ℕ) (s : State) (t : Bool) (k : Deck) → Fit drum marks → Kept drum marks (after_load (loaded_from (load_of drum marks deck s t) k))
  unfolding loaded_from
  load_kept_from deck s t (Err f) h = nothing_done drum marks _ refl
  load_kept_from deck s t (Ok start) h =
      let v : List Cell = cards_stored start.behind (data_from deck 0) (view drum marks) in
      laid_over drum marks (store v 0 0) _ h (λ i z. cards_grow start.behind (data_from deck 0) (view drum marks) i (store_grows v 0 0 i z)) refl

  load_kept : (deck : List ℕ) (s : State) (t : Bool) → Kept drum marks (after_load (loaded (load_of drum marks deck s t)))
  unfolding loaded
  load_kept deck s t = by_fit (drum_fits (length drum) marks (view drum marks)) refl
    where
      by_fit : (b : Bool) → drum_fits (length drum) marks (view drum marks) ≡ b → Kept drum marks (after_load (loaded (load_of drum marks deck s t)))
      by_fit true e = rw e (load_kept_from deck s t (deck_of deck) (fit drum marks e))
      by_fit false e = rw e (nothing_done drum marks _ refl)

  run_kept_from : (deck out : List ℕ) (s : State) (n : ℕ) (t : Switches) (k : Deck) → Fit drum marks → Kept drum marks (after_run (ran_on present (run_of drum marks deck out s n t) k))
  unfolding ran_on ran_as
  run_kept_from deck out s n t (Err f) h = nothing_done drum marks _ refl
  run_kept_from deck out s n t (Ok start) h = by_state (state_fits (view drum marks) deck start.behind s n) refl
    where
      by_state : (b : Bool) → state_fits (view drum marks) deck start.behind s n ≡ b
          → Kept drum marks (after_run (ran_on present (run_of drum marks deck out s n t) (Ok start)))
      by_state true e =
          rw e
          (let c = run_of drum marks deck out s n t in
          laid_over drum marks (run_from (inputs c) n (begun c) 0).machine.cells _ h (run_grows (inputs c) n (begun c) 0) refl)
      by_state false e = rw e (nothing_done drum marks _ refl)

  run_kept : (deck out : List ℕ) (s : State) (n : ℕ) (t : Switches) → Kept drum marks (after_run (ran (run_of drum marks deck out s n t)))
  unfolding ran_by
  run_kept deck out s n t = by_fit (drum_fits (length drum) marks (view drum marks)) refl
    where
      by_fit : (b : Bool) → drum_fits (length drum) marks (view drum marks) ≡ b → Kept drum marks (after_run (ran (run_of drum marks deck out s n t)))
      by_fit true e = rw e (run_kept_from deck out s n t (deck_of deck) (fit drum marks e))
      by_fit false e = rw e (nothing_done drum marks _ refl)

  call_kept : (c : Call) (s : State) → Kept drum marks (called c drum marks s)
  call_kept (load st deck t) s = load_kept deck (start_of st s) t
  call_kept (run st deck out n t) s = run_kept deck out (start_of st s) n t
  call_kept (make out order posed) s = nothing_done drum marks _ refl

pub foreign_kept : ForeignKept
unfolding history
foreign_kept [] drum marks s i z = (z, refl)
foreign_kept (c ∷ cs) drum marks s i z =
    let x = called c drum marks s in
    let a : (get_or x.told.marks i 0 ≡ 0) × (get_or (history cs x.drum x.told.marks x.told.state).drum i 0 ≡ get_or x.drum i 0) =
    foreign_kept cs x.drum x.told.marks x.told.state i z in
    let b : (get_or marks i 0 ≡ 0) × (get_or x.drum i 0 ≡ get_or drum i 0) = (call_kept drum marks c s).cell_kept i a.0 in
    (b.0, a.1 ∙ b.1)

pub length-kept : LengthKept
unfolding history
length-kept [] drum marks s = refl
length-kept (c ∷ cs) drum marks s =
    let x = called c drum marks s in
    length-kept cs x.drum x.told.marks x.told.state ∙ (call_kept drum marks c s).long_kept
