-- Why room after room is one large room for the program too: its rooms are such rooms as `promises` speaks of, each the output that the
-- run before it left. Assumes nothing.
use Prim.Native.Nat.{ℕ, zero, suc, ◌+◌, ◌-◌, ◌≤◌, ◌<◌}
use mathlib.Core.Path.{◌≡◌, refl, sym, ap, ◌∙◌}
use mathlib.Core.List.{List, [], ◌∷◌}
use mathlib.Core.Bool.{Bool, true, false}
use native.Mathlib.Omega.{arith}
use lib.Dec.{eqb}
use lib.ListN.{length}
use borrow.Author.Tests.{ne_eqb}
use Rattle.rules.specs.Words.{pick}
use Rattle.rules.specs.Running.{RunCall, ran}
use Rattle.rules.specs.Answers.{Ending}
use Rattle.promises.specs.Rooms.{is_full, Came, joined, room_after_room, most_sent}
use Rattle.promises.proofs.Rooms.{one_large_room, large_enough, full_counts, out_kept}
use Rattle.l1.specs.Going.{Whole, may_refill, refilled, gone_on}
use Rattle.l1.specs.Rooms.{GoesOnAsInOne}
use Rattle.l1.proofs.Rooms.{gone_end, gone_more}

-- all but the cards, with n orders completed before
abbrev whole_of : ℕ → Came → Whole
whole_of n w = record { ending = w.ending; count = n + w.count; state = w.state; drum = w.drum; marks = w.marks }

full_refills : (e : Ending) (count : ℕ) → is_full e ≡ true → 0 < count → may_refill e count ≡ true
full_refills e count f l = rw (ne_eqb count 0 (λ z. omega arith)) f

other_ends : (e : Ending) (count : ℕ) → is_full e ≡ false → may_refill e count ≡ false
other_ends e count f = by_none (eqb count 0)
  where
    by_none : (t : Bool) → pick t false (is_full e) ≡ false
    by_none true = refl
    by_none false = f

-- the rooms that the program's are, and what comes of them
record Rooms (k : ℕ) (c : RunCall) (n : ℕ) : Type 0 where
  outs : List (List ℕ)
  same : gone_on k c n ≡ whole_of n (room_after_room outs c)
  not_full : is_full (room_after_room outs c).ending ≡ false

rooms_of : (k : ℕ) (c : RunCall) (n : ℕ) → most_sent ≤ length c.out → c.budget ≤ k → Rooms k c n
unfolding gone_on room_after_room
rooms_of zero c n l b = record { outs = []; same = refl; not_full = large_enough c (omega arith) }
rooms_of (suc k) c n l b = by_full (is_full (ran c).ending) refl (rooms_of k (refilled c (ran c)) (n + (ran c).count) (omega (arith, out_kept c)))
  where
    by_full : (t : Bool) → is_full (ran c).ending ≡ t → (c.budget - (ran c).count ≤ k → Rooms k (refilled c (ran c)) (n + (ran c).count)) → Rooms (suc k) c n
    by_full true e go =
        let some = full_counts c l e in
        let r = go (omega arith) in
        let w : Came = room_after_room r.outs (refilled c (ran c)) in
        let one : room_after_room ((ran c).out ∷ r.outs) c ≡ joined (ran c) w = rw (e, room_after_room) in
        record {
          outs = (ran c).out ∷ r.outs;
          same =
              gone_more c n k (full_refills (ran c).ending (ran c).count e some)
              ∙ r.same
              ∙ ap (λ (j : ℕ). record { ending = w.ending; count = j; state = w.state; drum = w.drum; marks = w.marks }) (omega arith)
              ∙ ap (whole_of n) (sym one);
          not_full = ap (λ (x : Came). is_full x.ending) one ∙ r.not_full;
        }
    by_full false e go =
        record { outs = []; same = gone_end c n (suc k) (other_ends (ran c).ending (ran c).count e); not_full = e }

pub goes_on_as_in_one : GoesOnAsInOne
goes_on_as_in_one c whole l f =
    let r = rooms_of c.budget c 0 l (omega arith) in
    r.same ∙ ap (whole_of 0) (one_large_room c r.outs whole r.not_full f)
