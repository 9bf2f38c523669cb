-- A call of run that passes its entry checks, and the one behind it: the cells and the state that a run leaves pass them again.
-- Assumes nothing.
use Rattle.std.proofs.Common.{Err, Ok}
use Prim.Native.Nat.{ℕ, ◌≤◌}
use mathlib.Core.Path.{◌≡◌, refl, sym, subst, ◌∙◌}
use mathlib.Core.List.{List}
use mathlib.Core.Bool.{Bool, true, false}
use lib.ListN.{length}
use borrow.Author.Tests.{eq-eqb}
use Rattle.rules.specs.Drum.{view, marks_of, overlay, drum_fits}
use Rattle.rules.specs.Decks.{deck_of}
use Rattle.rules.specs.Machine.{present}
use Rattle.rules.specs.Running.{RunCall, RunResult, state_fits, ran_as, ran_on, ran_by, ran}
use Rattle.rules.specs.Answers.{Cell, Deck, Outcome}
use Rattle.rules.specs.declared.Switches.{Switches}
use Rattle.rules.proofs.Views.{length-overlay, length_marks, view_again}
use Rattle.rules.proofs.Sound.{marks_of_fit, words_fit_lem, steady_fits}
use Rattle.rules.proofs.Entered.{Entered, course, ran_course, lent, left_sound}
use Rattle.promises.specs.Again.{following}
use Rattle.rules.proofs.Sides.{err_no_ok}

-- ---- what the entry checks found

module _ (c : RunCall) (o : Outcome) (fits : drum_fits (length c.drum) c.marks (view c.drum c.marks) ≡ true) where
  entered_on : (k : Deck) → deck_of c.deck ≡ k → (ran_on present c k).ending ≡ Ok o → Entered c
  unfolding ran_on
  entered_on (Err f) q e = err_no_ok e
  entered_on (Ok start) q e = by_state (state_fits (view c.drum c.marks) c.deck start.behind c.state c.budget) refl
    where
      by_state : (t : Bool) → state_fits (view c.drum c.marks) c.deck start.behind c.state c.budget ≡ t → Entered c
      by_state true f = record { drum_fits_lem = fits; first = start.behind; order = start.order; problem = start.problem; deck_good = q; state_fits_lem = f }
      by_state false f = err_no_ok (rw f at e)

pub entered : (c : RunCall) (o : Outcome) → (ran c).ending ≡ Ok o → Entered c
unfolding ran_by
entered c o e = by_fit (drum_fits (length c.drum) c.marks (view c.drum c.marks)) refl
  where
    by_fit : (t : Bool) → drum_fits (length c.drum) c.marks (view c.drum c.marks) ≡ t → Entered c
    by_fit true f = entered_on c o f (deck_of c.deck) refl (rw f at e)
    by_fit false f = err_no_ok (rw f at e)

-- ---- and what they find of what the run left

module _ (c : RunCall) (h : Entered c) where
  -- what drum and marks show is what the cells are
  pub left_view : view (overlay c.drum (course c).machine.cells) (marks_of (course c).machine.cells) ≡ (course c).machine.cells
  left_view = view_again c.drum (course c).machine.cells ((lent c h).drum_long ∙ sym (left_sound c h).cells.long)

  following_entered : (out : List ℕ) (budget : ℕ) (switches : Switches) → budget ≤ 999999 → Entered (following c (ran_as c (course c)) out budget switches)
  unfolding ran_as drum_fits
  following_entered out budget switches l =
      let v : List Cell = (course c).machine.cells in
      record {
        drum_fits_lem =
            rw (
              left_view,
              eq-eqb (length (overlay c.drum v)) 1000 (length-overlay c.drum v ∙ (lent c h).drum_long),
              eq-eqb (length (marks_of v)) 1000 (length_marks v ∙ (left_sound c h).cells.long),
              marks_of_fit v,
            )
            (words_fit_lem v (left_sound c h).cells.words);
        first = h.first;
        order = h.order;
        problem = h.problem;
        deck_good = h.deck_good;
        state_fits_lem = rw left_view (steady_fits v c.deck h.first (course c).machine.state budget l (left_sound c h).state (left_sound c h).cells.owned);
      }

  pub again_entered : (out : List ℕ) (budget : ℕ) (switches : Switches) → budget ≤ 999999 → Entered (following c (ran c) out budget switches)
  again_entered out budget switches l =
      subst (λ (x : RunResult). Entered (following c x out budget switches)) (sym (ran_course c h)) (following_entered out budget switches l)
