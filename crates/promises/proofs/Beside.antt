-- Runs in one room after another, beside one run in a room that does not become full: in each of the rooms the one run goes on from where
-- the room before was left. Assumes nothing.
use Rattle.std.proofs.Common.{Err, None, Ok, Some}
use Prim.Native.Nat.{ℕ, suc, ◌+◌, ◌-◌}
use mathlib.Core.Path.{◌≡◌, refl, sym, ap, ap₂, subst, ◌∙◌}
use mathlib.Core.List.{List, [], ◌∷◌, ◌++◌, append_assoc, append-nil}
use mathlib.Core.Bool.{Bool, true, false}
use native.Mathlib.Nat.{add-zero, suc_inj}
use native.Mathlib.Omega.{arith}
use lib.ListN.{length, drop}
use lib.Seq.{take-append_seam}
use Rattle.rules.specs.Drum.{view, mark_of, marks_of, number_over, overlay}
use Rattle.rules.specs.Machine.{Machine}
use Rattle.rules.specs.Running.{Course, run_from, RunCall, RunResult, over, begun, inputs, ran_as, ran}
use Rattle.rules.specs.Answers.{Cell}
use Rattle.rules.specs.declared.Refusal.TheVariants.{NoRoom}
use Rattle.rules.proofs.Views.{Grows}
use Rattle.rules.proofs.Growth.{run_grows}
use Rattle.rules.proofs.Tails.{Tail, good_tail}
use Rattle.rules.proofs.Sound.{steady_from}
use Rattle.rules.proofs.SoundOrders.{run_sound}
use Rattle.rules.proofs.Rooms.{in_room, sent_before}
use Rattle.rules.proofs.RoomRuns.{NotFull, course_behind, count_within, run_alike, run_left}
use Rattle.promises.specs.Again.{again}
use Rattle.promises.specs.Rooms.{is_full, Came, cards_of, came_to, joined, room_after_room}
use Rattle.rules.proofs.Sides.{same_ok}
use Rattle.rules.proofs.Entered.{Entered, course, ran_course, begun_sound, left_sound}
use Rattle.promises.proofs.Entry.{again_entered}
use Rattle.promises.proofs.Again.{ran_outcome, begun_behind}
use Rattle.promises.proofs.Barred.{full_is, not_full}

-- ---- lists

number_kept : (c : Cell) (d : ℕ) → mark_of c ≡ 0 → number_over c d ≡ d
number_kept None d e = refl
number_kept (Some w) d e = let z : ⊥ = omega arith in absurd z

number_twice : (c c' : Cell) (d : ℕ) → (mark_of c' ≡ 0 → mark_of c ≡ 0) → number_over c' (number_over c d) ≡ number_over c' d
number_twice c None d g = number_kept c d (g refl)
number_twice c (Some w) d g = refl

-- cells laid over the drum, and then others that have grown from them, are these others laid over
overlay_twice : (ds : List ℕ) (v v' : List Cell) → length v ≡ length v' → Grows v v' → overlay (overlay ds v) v' ≡ overlay ds v'
unfolding overlay marks_of
overlay_twice [] v v' e g = refl
overlay_twice (d ∷ ds) [] [] e g = refl
overlay_twice (d ∷ ds) [] (c' ∷ v') e g = let z : ⊥ = omega arith in absurd z
overlay_twice (d ∷ ds) (c ∷ v) [] e g = let z : ⊥ = omega arith in absurd z
overlay_twice (d ∷ ds) (c ∷ v) (c' ∷ v') e g =
    ap₂ (λ (n : ℕ) (l : List ℕ). n ∷ l) (number_twice c c' d (g 0)) (overlay_twice ds v v' (suc_inj e) (λ i. g (suc i)))

-- ---- what runs came to, beside the course of one run with p sent and n orders completed before

pub record Is (p : List ℕ) (n : ℕ) (drum : List ℕ) (z : Course) (w : Came) : Type 0 where
  pub ending_is : w.ending ≡ Ok z.outcome
  pub count_is : n + w.count ≡ z.count
  pub cards_are : p ++ w.cards ≡ z.machine.sent
  pub state_is : w.state ≡ z.machine.state
  pub drum_is : w.drum ≡ overlay drum z.machine.cells
  pub marks_are : w.marks ≡ marks_of z.machine.cells

sent_are : (c : RunCall) (x : Course) → cards_of (ran_as c x) ≡ x.machine.sent
unfolding ran_as over
sent_are c x = take-append_seam x.machine.sent (drop (length x.machine.sent) c.out)

one_is : (c : RunCall) (p : List ℕ) (n : ℕ) (x : Course) → Is p n c.drum (course_behind p n x) (came_to (ran_as c x))
unfolding ran_as
one_is c p n x =
    record {
      ending_is = refl;
      count_is = refl;
      cards_are = ap (λ (s : List ℕ). p ++ s) (sent_are c x);
      state_is = refl;
      drum_is = refl;
      marks_are = refl;
    }

-- one run beside one with p sent before
module _ (c : RunCall) (h : Entered c) (p : List ℕ) (n r : ℕ) where
  abbrev pub beside : Course
  beside = run_from (in_room r (inputs c)) c.budget (sent_before p (begun c)) (n + 0)

  pub last_room : NotFull beside.outcome → is_full (ran c).ending ≡ false → Is p n c.drum beside (came_to (ran c))
  last_room f g =
      let e : beside ≡ course_behind p n (course c) =
      run_alike p r (inputs c) n c.budget (begun c) 0 (not_full (ran c).ending (course c).outcome (ran_outcome c h) g) f in
      subst (λ (z : Course). Is p n c.drum z (came_to (ran c))) (sym e)
      (subst (λ (x : RunResult). Is p n c.drum (course_behind p n (course c)) (came_to x)) (sym (ran_course c h)) (one_is c p n (course c)))

-- the room of c is full, and the other has q sent and k orders completed by then
module _ (c : RunCall) (h : Entered c) (g : is_full (ran c).ending ≡ true) (out : List ℕ) where
  abbrev pub next : RunCall
  next = again c out (c.budget - (ran c).count) c.switches

  pub course_full : (course c).outcome ≡ Err NoRoom
  course_full = same_ok (sym (ran_outcome c h) ∙ full_is (ran c).ending g)

  pub count_is_course : (ran c).count ≡ (course c).count
  unfolding ran_as
  count_is_course = ap (λ (x : RunResult). x.count) (ran_course c h)

  count_fits : (course c).count + (c.budget - (ran c).count) ≡ c.budget
  count_fits = omega (arith, count_is_course, (count_within (inputs c) c.budget (begun c) 0).1)

  pub next_entered : Entered next
  next_entered =
      let l = (steady_from (view c.drum c.marks) c.deck h.first c.state c.budget h.state_fits_lem).0 in
      again_entered c h out (c.budget - (ran c).count) c.switches (omega (arith, l))

  tail_is : Tail c.deck h.first
  tail_is = good_tail c.deck h.first h.order h.problem h.deck_good

  module _ (p : List ℕ) (n r : ℕ) (f : NotFull (beside c h p n r).outcome) where
    abbrev pub q : List ℕ
    q = p ++ (course c).machine.sent

    abbrev pub k : ℕ
    k = n + (course c).count

    beside_left : beside c h p n r
        ≡ run_from (in_room r (inputs c)) (c.budget - (ran c).count) (sent_before p (course c).machine) k
    beside_left =
        run_left p r (inputs c) n h.first tail_is c.budget (begun c) 0 (c.budget - (ran c).count) (begun_sound c h) course_full f
        (count_fits ∙ omega arith)

    begun_next : sent_before p (course c).machine ≡ sent_before q (begun next)
    begun_next =
        ap (λ (s : List ℕ). record { cells = (course c).machine.cells; sent = s; state = (course c).machine.state }) (sym (append-nil q))
        ∙ ap (sent_before q) (sym (begun_behind c h out (c.budget - (ran c).count) c.switches))

    beside_next : beside c h p n r ≡ beside next next_entered q k r
    beside_next =
        beside_left
        ∙ ap (λ (m : Machine). run_from (in_room r (inputs c)) (c.budget - (ran c).count) m k) begun_next
        ∙ ap (λ (j : ℕ). run_from (in_room r (inputs c)) (c.budget - (ran c).count) (sent_before q (begun next)) j) (sym (add-zero k))

    grown : Grows (course c).machine.cells (beside c h p n r).machine.cells
    grown =
        subst (λ (z : Course). Grows (course c).machine.cells z.machine.cells) (sym beside_left)
        (run_grows (in_room r (inputs c)) (c.budget - (ran c).count) (sent_before p (course c).machine) k)

    beside_long : length (beside c h p n r).machine.cells ≡ 1000
    beside_long =
        let s = begun_sound c h in
        (run_sound (in_room r (inputs c)) h.first tail_is c.budget (sent_before p (begun c)) (n + 0)
        (record { cells = s.cells; state = s.state })).cells.long

    drum_twice : overlay (ran c).drum (beside c h p n r).machine.cells ≡ overlay c.drum (beside c h p n r).machine.cells
    unfolding ran_as
    drum_twice =
        ap (λ (x : RunResult). overlay x.drum (beside c h p n r).machine.cells) (ran_course c h)
        ∙ overlay_twice c.drum (course c).machine.cells (beside c h p n r).machine.cells ((left_sound c h).cells.long ∙ sym beside_long) grown

    more_rooms : (w : Came) → Is q k next.drum (beside next next_entered q k r) w → Is p n c.drum (beside c h p n r) (joined (ran c) w)
    more_rooms w v =
        let z = subst (λ (x : Course). Is q k next.drum x w) (sym beside_next) v in
        record {
          ending_is = z.ending_is;
          count_is = omega (arith, z.count_is, count_is_course);
          cards_are =
              ap (λ (x : RunResult). p ++ (cards_of x ++ w.cards)) (ran_course c h)
              ∙ ap (λ (s : List ℕ). p ++ (s ++ w.cards)) (sent_are c (course c))
              ∙ sym (append_assoc p (course c).machine.sent w.cards)
              ∙ z.cards_are;
          state_is = z.state_is;
          drum_is = z.drum_is ∙ drum_twice;
          marks_are = z.marks_are;
        }

-- ---- any rooms

pub rooms_are : (outs : List (List ℕ)) (c : RunCall) (h : Entered c) (p : List ℕ) (n r : ℕ) → NotFull (beside c h p n r).outcome
    → is_full (room_after_room outs c).ending ≡ false → Is p n c.drum (beside c h p n r) (room_after_room outs c)
unfolding room_after_room
rooms_are [] c h p n r f g = last_room c h p n r f g
rooms_are (out ∷ outs) c h p n r f g =
    by_full (is_full (ran c).ending) refl (λ t. rooms_are outs (next c h t out) (next_entered c h t out) (q c h t out p n r f) (k c h t out p n r f) r)
  where
    by_full : (t : Bool) → is_full (ran c).ending ≡ t
        → ((e : is_full (ran c).ending ≡ true)
        → NotFull (beside (next c h e out) (next_entered c h e out) (q c h e out p n r f) (k c h e out p n r f) r).outcome
        → is_full (room_after_room outs (next c h e out)).ending ≡ false
        → Is (q c h e out p n r f) (k c h e out p n r f) (next c h e out).drum
        (beside (next c h e out) (next_entered c h e out) (q c h e out p n r f) (k c h e out p n r f) r) (room_after_room outs (next c h e out)))
        → Is p n c.drum (beside c h p n r) (room_after_room (out ∷ outs) c)
    by_full true e go =
        rw (e, room_after_room)
        (more_rooms c h e out p n r f (room_after_room outs (next c h e out))
        (go e (λ z. f (ap (λ (x : Course). x.outcome) (beside_next c h e out p n r f) ∙ z)) (rw (e, room_after_room) at g)))
    by_full false e go = rw (e, room_after_room) (last_room c h p n r f e)
