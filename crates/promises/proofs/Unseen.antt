-- Why unmarked cells are nobody's business: the definitions are over the view, drums that are alike have one view, and what a call
-- leaves is laid over the drum with each foreign cell's own number. Assumes nothing.
use Rattle.std.proofs.Common.{Err, None, Ok, Some}
use Prim.Native.Nat.{ℕ, zero, suc}
use mathlib.Core.Path.{◌≡◌, refl, sym, ap, subst, ◌∙◌}
use mathlib.Core.List.{List, [], ◌∷◌}
use mathlib.Core.Bool.{Bool, true, false}
use native.Mathlib.Nat.{suc_inj, suc-ne-zero}
use native.Mathlib.Omega.{arith}
use lib.ListN.{length, get_or}
use Rattle.rules.specs.Drum.{cell_of, view, mark_of, marks_of, number_over, overlay, drum_fits}
use Rattle.rules.specs.Decks.{deck_of}
use Rattle.rules.specs.Machine.{present}
use Rattle.rules.specs.Running.{begun, inputs, run_from, state_fits, ran_as, ran_on, ran_by, ran}
use Rattle.rules.specs.Loads.{cells_loaded, loaded_from, loaded}
use Rattle.rules.specs.Making.{MakeResult, made_of, made}
use Rattle.rules.specs.Answers.{Cell, Deck, good}
use Rattle.rules.specs.declared.State.{State}
use Rattle.rules.specs.declared.Switches.{Switches}
use Rattle.rules.proofs.Views.{length-overlay}
use Rattle.promises.specs.Calls.{Call, load, run, make, load_of, run_of, make_of, start_of, problem_of, Told, Called, called, after_load, after_run, after_make, history}
use Rattle.promises.specs.Foreign.{Alike, SameFor, ForeignUnseen}

-- ---- drums that are alike have one view

same_cell : (m d₁ d₂ : ℕ) → ((m ≡ 0 → ⊥) → d₁ ≡ d₂) → cell_of m d₁ ≡ cell_of m d₂
same_cell zero d₁ d₂ h = refl
same_cell (suc m) d₁ d₂ h = ap Some (h (suc-ne-zero m))

same_view : (a b ms : List ℕ) → length a ≡ length b → ((i : ℕ) → (get_or ms i 0 ≡ 0 → ⊥) → get_or a i 0 ≡ get_or b i 0) → view a ms ≡ view b ms
unfolding view
same_view [] [] ms l s = refl
same_view [] (y ∷ b) ms l s = let z : ⊥ = omega arith in absurd z
same_view (x ∷ a) [] ms l s = let z : ⊥ = omega arith in absurd z
same_view (x ∷ a) (y ∷ b) [] l s = refl
same_view (x ∷ a) (y ∷ b) (m ∷ ms) l s =
    simp (same_cell m x y (s 0), same_view a b ms (suc_inj l) (λ i n. s (suc i) n))

-- ---- the same cells laid over both leave them alike

number_same : (c : Cell) (d₁ d₂ : ℕ) → (mark_of c ≡ 0 → ⊥) → number_over c d₁ ≡ number_over c d₂
number_same None d₁ d₂ n = absurd (n refl)
number_same (Some w) d₁ d₂ n = refl

overlay_same : (a b : List ℕ) (v : List Cell) → length a ≡ length b → (i : ℕ) → (get_or (marks_of v) i 0 ≡ 0 → ⊥)
    → get_or (overlay a v) i 0 ≡ get_or (overlay b v) i 0
unfolding overlay marks_of
overlay_same a b [] l i n = absurd (n refl)
overlay_same [] [] (c ∷ v) l i n = refl
overlay_same [] (y ∷ b) (c ∷ v) l i n = let z : ⊥ = omega arith in absurd z
overlay_same (x ∷ a) [] (c ∷ v) l i n = let z : ⊥ = omega arith in absurd z
overlay_same (x ∷ a) (y ∷ b) (c ∷ v) l zero n = number_same c x y n
overlay_same (x ∷ a) (y ∷ b) (c ∷ v) l (suc i) n = overlay_same a b v (suc_inj l) i n

overlay_alike : (a b : List ℕ) (v : List Cell) → length a ≡ length b → Alike (overlay a v) (overlay b v) (marks_of v)
overlay_alike a b v l = record { long = length-overlay a v ∙ l ∙ sym (length-overlay b v); same = overlay_same a b v l }

-- ---- one call on two drums

-- what a call makes of two drums
pub record Matched (x y : Called) : Type 0 where
  pub told_same : x.told ≡ y.told
  pub alike : Alike x.drum y.drum y.told.marks

module _ (drum₁ drum₂ marks : List ℕ) (h : Alike drum₁ drum₂ marks) where
  one_view : view drum₁ marks ≡ view drum₂ marks
  one_view = same_view drum₁ drum₂ marks h.long h.same

  unchanged : (t : Told) → t.marks ≡ marks → Matched (record { told = t; drum = drum₁ }) (record { told = t; drum = drum₂ })
  unchanged t e = record { told_same = refl; alike = subst (λ (ms : List ℕ). Alike drum₁ drum₂ ms) (sym e) h }

  fits_same : drum_fits (length drum₁) marks (view drum₁ marks) ≡ drum_fits (length drum₂) marks (view drum₂ marks)
  fits_same = rw (h.long, one_view)

  load_from : (deck : List ℕ) (s : State) (t : Bool) (k : Deck)
      → Matched (after_load (loaded_from (load_of drum₁ marks deck s t) k)) (after_load (loaded_from (load_of drum₂ marks deck s t) k))
  unfolding loaded_from
  load_from deck s t (Err f) = unchanged _ refl
  load_from deck s t (Ok start) =
      rw one_view
      (record { told_same = refl; alike = overlay_alike drum₁ drum₂ (cells_loaded (view drum₂ marks) deck start.behind) h.long })

  load_both : (deck : List ℕ) (s : State) (t : Bool)
      → Matched (after_load (loaded (load_of drum₁ marks deck s t))) (after_load (loaded (load_of drum₂ marks deck s t)))
  unfolding loaded
  load_both deck s t = by_fit (drum_fits (length drum₂) marks (view drum₂ marks)) refl
    where
      by_fit : (b : Bool) → drum_fits (length drum₂) marks (view drum₂ marks) ≡ b
          → Matched (after_load (loaded (load_of drum₁ marks deck s t))) (after_load (loaded (load_of drum₂ marks deck s t)))
      by_fit true e = rw (fits_same, e) (load_from deck s t (deck_of deck))
      by_fit false e = rw (fits_same, e) (unchanged _ refl)

  run_from_lem : (deck out : List ℕ) (s : State) (n : ℕ) (t : Switches) (k : Deck)
      → Matched (after_run (ran_on present (run_of drum₁ marks deck out s n t) k)) (after_run (ran_on present (run_of drum₂ marks deck out s n t) k))
  unfolding ran_on ran_as
  run_from_lem deck out s n t (Err f) = unchanged _ refl
  run_from_lem deck out s n t (Ok start) = by_state (state_fits (view drum₂ marks) deck start.behind s n) refl
    where
      by_state : (b : Bool) → state_fits (view drum₂ marks) deck start.behind s n ≡ b
          → Matched (after_run (ran_on present (run_of drum₁ marks deck out s n t) (good start.behind start.order start.problem))) (after_run (ran_on present (run_of drum₂ marks deck out s n t) (good start.behind start.order start.problem)))
      by_state true e =
          rw (one_view, e)
          (let c = run_of drum₂ marks deck out s n t in
          record { told_same = refl; alike = overlay_alike drum₁ drum₂ (run_from (inputs c) n (begun c) 0).machine.cells h.long })
      by_state false e = rw (one_view, e) (unchanged _ refl)

  run_both : (deck out : List ℕ) (s : State) (n : ℕ) (t : Switches)
      → Matched (after_run (ran (run_of drum₁ marks deck out s n t))) (after_run (ran (run_of drum₂ marks deck out s n t)))
  unfolding ran_by
  run_both deck out s n t = by_fit (drum_fits (length drum₂) marks (view drum₂ marks)) refl
    where
      by_fit : (b : Bool) → drum_fits (length drum₂) marks (view drum₂ marks) ≡ b
          → Matched (after_run (ran (run_of drum₁ marks deck out s n t))) (after_run (ran (run_of drum₂ marks deck out s n t)))
      by_fit true e = rw (fits_same, e) (run_from_lem deck out s n t (deck_of deck))
      by_fit false e = rw (fits_same, e) (unchanged _ refl)

  -- a deck is made of the view alone, and drum and marks are left as they are
  make_same : (out : List ℕ) (order problem : ℕ) → made (make_of drum₁ marks out order problem) ≡ made (make_of drum₂ marks out order problem)
  unfolding made made_of
  make_same out order problem = rw (h.long, one_view)

  make_both : (out : List ℕ) (order problem : ℕ) (s : State)
      → Matched (after_make drum₁ marks s (made (make_of drum₁ marks out order problem))) (after_make drum₂ marks s (made (make_of drum₂ marks out order problem)))
  make_both out order problem s =
      record { told_same = ap (λ (x : MakeResult). (after_make drum₁ marks s x).told) (make_same out order problem); alike = h }

  one_call : (c : Call) (s : State) → Matched (called c drum₁ marks s) (called c drum₂ marks s)
  one_call (load st deck t) s = load_both deck (start_of st s) t
  one_call (run st deck out n t) s = run_both deck out (start_of st s) n t
  one_call (make out order posed) s = make_both out order (problem_of posed s) s

-- ---- any list of calls

pub foreign_unseen : ForeignUnseen
unfolding history
foreign_unseen [] drum₁ drum₂ marks s h = record { tolds_same = refl; state_same = refl; marks_same = refl; drums_alike = h }
foreign_unseen (c ∷ cs) drum₁ drum₂ marks s h =
    let x = called c drum₁ marks s in
    let y = called c drum₂ marks s in
    let p : Matched x y = one_call drum₁ drum₂ marks h c s in
    let q : SameFor (history cs x.drum y.told.marks y.told.state) (history cs y.drum y.told.marks y.told.state) =
    foreign_unseen cs x.drum y.drum y.told.marks y.told.state p.alike in
    let r : SameFor (history cs x.drum x.told.marks x.told.state) (history cs y.drum y.told.marks y.told.state) =
    subst (λ (t : Told). SameFor (history cs x.drum t.marks t.state) (history cs y.drum y.told.marks y.told.state)) (sym p.told_same) q in
    record {
      tolds_same = ap (λ (t : Told). t ∷ (history cs x.drum x.told.marks x.told.state).tolds) p.told_same ∙ ap (λ (l : List Told). y.told ∷ l) r.tolds_same;
      state_same = r.state_same;
      marks_same = r.marks_same;
      drums_alike = r.drums_alike;
    }
