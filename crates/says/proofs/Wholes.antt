-- A closing that may be written, in 64 bytes, and what is told of a call of make: all of it is at the start of the output. Assumes nothing.
use Rattle.std.proofs.Common.{Err, Ok}
use Prim.Native.Nat.{ℕ, ◌≤◌}
use mathlib.Core.Path.{◌≡◌, ap₂}
use mathlib.Core.List.{List}
use mathlib.Core.Bool.{Bool, true, false}
use native.Mathlib.Omega.{arith}
use borrow.Author.Tests.{le-leb}
use lib.ListN.{length, take, drop, length-take}
use lib.Seq.{take-append_seam}
use Rattle.rules.specs.Words.{pick, both}
use Rattle.rules.specs.Cards.{refusal_line}
use Rattle.rules.specs.Numbers.{outcome_number, outcome_shown, bar_number, bar_place, making_number}
use Rattle.rules.specs.Running.{over}
use Rattle.rules.specs.Sheet.{closing, make_line}
use Rattle.rules.specs.Answers.{Ending, Making}
use Rattle.rules.specs.declared.State.{State}
use Rattle.rules.specs.declared.Unmade.TheVariants.{Full, UnfitDrum, UnfitNumber}
use Rattle.rules.proofs.Fields.{length_stop, width_small, length_line}
use Rattle.rules.proofs.Tests.{false_true}
use Rattle.card.specs.Written.{fits}
use Rattle.says.specs.Told.{may_close, Closed}

-- a line has two numbers of at most 21 digits, and a Z card is 24 bytes long
line_short : (number place : ℕ) → length (refusal_line number place) ≤ 64
line_short number place = omega (arith, length_line number place, width_small 20 number, width_small 20 place)

closing_short : (e : Ending) (s : State) (count : ℕ) → length (closing e s count) ≤ 64
closing_short (Ok o) s count = omega (arith, length_stop (outcome_number o) s.location count (outcome_shown o))
closing_short (Err b) s count = line_short (bar_number b) (bar_place b)

by_fits : (t : Bool) (answer before after : List ℕ) (said : ℕ) → t ≡ true → said ≡ pick t (length answer) 0 → after ≡ pick t (over answer before) before
    → take said after ≡ answer
unfolding over
by_fits true answer before after said e q r = rw (q, r) (take-append_seam answer (drop (length answer) before))
by_fits false answer before after said e q r = false_true e

pub closes_whole : (e : Ending) (s : State) (count : ℕ) (before after : List ℕ) (said : ℕ) → may_close e s count ≡ true → 64 ≤ length before
    → Closed (may_close e s count) (closing e s count) before said after → take said after ≡ closing e s count
closes_whole e s count before after said may room w =
    by_fits (fits (may_close e s count) (closing e s count) before) (closing e s count) before after said
    (ap₂ both may (le-leb (length (closing e s count)) (length before) (omega (arith, closing_short e s count))))
    w.count_is w.bytes

-- a deck of make is no longer than the output that it stands in
making_short : (m : Making) (out : List ℕ) → 64 ≤ length out → length (make_line m out) ≤ length out
making_short (Ok n) out h = omega (arith, length-take n out)
making_short (Err UnfitDrum) out h = omega (arith, line_short (making_number (Err UnfitDrum)) 0)
making_short (Err UnfitNumber) out h = omega (arith, line_short (making_number (Err UnfitNumber)) 0)
making_short (Err Full) out h = omega (arith, line_short (making_number (Err Full)) 0)

pub making_whole : (m : Making) (before after : List ℕ) (said : ℕ) → 64 ≤ length before
    → Closed true (make_line m before) before said after → take said after ≡ make_line m before
making_whole m before after said room w =
    by_fits (fits true (make_line m before) before) (make_line m before) before after said
    (le-leb (length (make_line m before)) (length before) (making_short m before room))
    w.count_is w.bytes
