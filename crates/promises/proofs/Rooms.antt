-- Why room after room comes to what one large room comes to: what was sent before makes no difference to an order, and an order that is
-- refused with 22 has left nothing. Assumes nothing.
use Prim.Native.Nat.{ℕ, ◌-◌, ◌≤◌, ◌<◌}
use mathlib.Core.Path.{◌≡◌, refl, sym, ap, ◌∙◌}
use mathlib.Core.Logic.{⊎_elim}
use mathlib.Core.List.{List, [], ◌∷◌}
use mathlib.Core.Bool.{Bool, true, false, true≢false}
use native.Mathlib.Omega.{arith}
use lib.ListN.{length, length-append, length-drop}
use Rattle.rules.specs.Running.{Course, RunCall, over, begun, inputs, ran_as, ran}
use Rattle.rules.proofs.Tails.{good_tail}
use Rattle.rules.proofs.RoomRuns.{NotFull, run_fits, full_took}
use Rattle.promises.specs.Again.{again}
use Rattle.promises.specs.Rooms.{is_full, Came, came_to, within, room_after_room, OneLargeRoom, most_sent, LargeEnough, more, NeverFull}
use Rattle.rules.proofs.Entered.{Entered, course, ran_course, begun_sound}
use Rattle.promises.proofs.Again.{ran_outcome}
use Rattle.promises.proofs.Barred.{not_full, is_not_full, Barred, either_way, barred_not_full, of_call}
use Rattle.promises.proofs.Beside.{Is, last_room, count_is_course, course_full, rooms_are}

-- ---- calls that are refused at their entry

one_room_only : (outs : List (List ℕ)) (c : RunCall) → is_full (ran c).ending ≡ false → room_after_room outs c ≡ came_to (ran c)
unfolding room_after_room
one_room_only [] c e = refl
one_room_only (out ∷ outs) c e = rw (e, room_after_room)

barred_same : (c : RunCall) (outs : List (List ℕ)) (whole : List ℕ) → Barred c → room_after_room outs c ≡ came_to (ran (within c whole))
barred_same c outs whole h =
    one_room_only outs c (barred_not_full c h)
    ∙ ap came_to (h.1 c.out)
    ∙ ap came_to (sym (h.1 whole))

-- ---- the statements

-- the same call in another room passes the same checks
within_entered : (c : RunCall) → Entered c → (out : List ℕ) → Entered (within c out)
within_entered c h out =
    record {
      drum_fits_lem = h.drum_fits_lem;
      first = h.first;
      order = h.order;
      problem = h.problem;
      deck_good = h.deck_good;
      state_fits_lem = h.state_fits_lem;
    }

came_same : (drum : List ℕ) (z : Course) (w v : Came) → Is [] 0 drum z w → Is [] 0 drum z v → w ≡ v
came_same drum z w v a b =
    let counts : w.count ≡ v.count = omega (arith, a.count_is, b.count_is) in
    λ j.
    record {
      ending = (a.ending_is ∙ sym b.ending_is) j;
      count = counts j;
      cards = (a.cards_are ∙ sym b.cards_are) j;
      state = (a.state_is ∙ sym b.state_is) j;
      drum = (a.drum_is ∙ sym b.drum_is) j;
      marks = (a.marks_are ∙ sym b.marks_are) j;
    }

entered_same : (c : RunCall) (outs : List (List ℕ)) (whole : List ℕ) → Entered c → is_full (room_after_room outs c).ending ≡ false
    → is_full (ran (within c whole)).ending ≡ false → room_after_room outs c ≡ came_to (ran (within c whole))
entered_same c outs whole h f g =
    let d : RunCall = within c whole in
    let k : Entered d = within_entered c h whole in
    let n : NotFull (course d).outcome = not_full (ran d).ending (course d).outcome (ran_outcome d k) g in
    came_same c.drum (course d) (room_after_room outs c) (came_to (ran d)) (rooms_are outs c h [] 0 (length whole) n f)
    (last_room d k [] 0 (length whole) n g)

pub one_large_room : OneLargeRoom
one_large_room c outs whole f g = ⊎_elim (λ (h : Entered c). entered_same c outs whole h f g) (λ (h : Barred c). barred_same c outs whole h) (either_way c)

pub large_enough : LargeEnough
large_enough c l =
    of_call c (is_full (ran c).ending ≡ false)
    (λ h.
    is_not_full (ran c).ending (course c).outcome (ran_outcome c h)
    (run_fits (inputs c) h.first (good_tail c.deck h.first h.order h.problem h.deck_good) c.budget (begun c) 0 (begun_sound c h) (omega arith)))
    (barred_not_full c)

-- a room that holds what any order writes becomes full only behind an order that was done
pub full_counts : (c : RunCall) → most_sent ≤ length c.out → is_full (ran c).ending ≡ true → 0 < (ran c).count
full_counts c l f =
    of_call c (0 < (ran c).count)
    (λ h.
    rw (count_is_course c h f [])
    (full_took (inputs c) h.first (good_tail c.deck h.first h.order h.problem h.deck_good) c.budget (begun c) 0 (begun_sound c h) l
    (course_full c h f [])))
    (λ h. absurd (true≢false (sym f ∙ barred_not_full c h)))

pub never_full : NeverFull
unfolding room_after_room
never_full c [] l v b = large_enough c (omega arith)
never_full c (out ∷ outs) l (more _ _ k v) b =
    by_full (is_full (ran c).ending) refl (never_full (again c out (c.budget - (ran c).count) c.switches) outs k v)
  where
    by_full : (t : Bool) → is_full (ran c).ending ≡ t
        → (c.budget - (ran c).count ≤ length outs
        → is_full (room_after_room outs (again c out (c.budget - (ran c).count) c.switches)).ending ≡ false)
        → is_full (room_after_room (out ∷ outs) c).ending ≡ false
    by_full true e go = rw (e, room_after_room) (go (let z = full_counts c l e in omega arith))
    by_full false e go = rw (e, room_after_room) e

-- the output is no shorter than it was
over_long : (sent out : List ℕ) → length out ≤ length (over sent out)
unfolding over
over_long sent out = simp (length-append, length-drop) (omega arith)

pub out_kept : (c : RunCall) → length c.out ≤ length (ran c).out
unfolding ran_as
out_kept c =
    of_call c (length c.out ≤ length (ran c).out) (λ h. rw (ran_course c h) (over_long (course c).machine.sent c.out))
    (λ h. rw (h.1 c.out) (omega arith))
