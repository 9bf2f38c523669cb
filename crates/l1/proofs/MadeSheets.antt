-- What is sent for a call of make is whole, and the same in any room that holds the longest deck: the room is then no matter. Assumes nothing.
use Rattle.std.proofs.Common.{Err, Ok}
use Prim.Native.Nat.{ℕ, ◌≤◌}
use mathlib.Core.Path.{◌≡◌, refl, sym, ap, ◌∙◌}
use mathlib.Core.List.{List}
use mathlib.Core.Bool.{Bool, true, false}
use native.Mathlib.Omega.{arith}
use lib.Dec.{leb}
use lib.ListN.{length, take, drop}
use lib.Seq.{take-append_seam}
use Rattle.rules.specs.Words.{pick}
use Rattle.rules.specs.Drum.{view, drum_fits}
use Rattle.rules.specs.Cards.{refusal_line}
use Rattle.rules.specs.Numbers.{making_number}
use Rattle.rules.specs.Running.{over}
use Rattle.rules.specs.Making.{MakeCall, MakeResult, deck_made, not_made, numbers_fit, made_of, made}
use Rattle.rules.specs.Sheet.{make_line, make_sheet}
use Rattle.rules.specs.Answers.{Making}
use Rattle.rules.specs.declared.State.{State}
use Rattle.rules.specs.declared.Unmade.TheVariants.{Full, UnfitDrum, UnfitNumber}
use Rattle.promises.specs.Making.{longest_made}
use Rattle.promises.proofs.Making.{refused_make_writes_nothing, made_past_untouched, room_enough}
use Rattle.making.specs.Made.{MakeRight}
use Rattle.calls.specs.Words.{first_of, problem_of}
use Rattle.calls.specs.declared.options.Options.{Options}
use Rattle.says.specs.Told.{Closed}
use Rattle.says.proofs.Wholes.{making_whole}
use Rattle.l1.specs.Made.{call_in, MadeTold}

-- ---- the sheet of a call that is not refused as 22, with no word of its room

abbrev sheet_of : Bool → Bool → List ℕ → List ℕ
sheet_of fit good deck = pick fit (pick good deck (refusal_line (making_number (Err UnfitNumber)) 0)) (refusal_line (making_number (Err UnfitDrum)) 0)

by_room : (t : Bool) (c : MakeCall) (deck : List ℕ)
    → let x : MakeResult = pick t (record { making = Ok (length deck); out = over deck c.out }) (not_made c (Err Full)) in
    (x.making ≡ (Err Full) → ⊥) → make_sheet x ≡ deck
unfolding over
by_room true c deck never = take-append_seam deck (drop (length deck) c.out)
by_room false c deck never = absurd (never refl)

deck_sheet : (c : MakeCall) (deck : List ℕ) → ((made_of c deck).making ≡ (Err Full) → ⊥) → make_sheet (made_of c deck) ≡ deck
unfolding made_of
deck_sheet c deck never = by_room (leb (length deck) (length c.out)) c deck never

by_tests : (fit good : Bool) (c : MakeCall) (deck : List ℕ)
    → let x : MakeResult = pick fit (pick good (made_of c deck) (not_made c (Err UnfitNumber))) (not_made c (Err UnfitDrum)) in
    (x.making ≡ (Err Full) → ⊥) → make_sheet x ≡ sheet_of fit good deck
by_tests true true c deck never = deck_sheet c deck never
by_tests true false c deck never = refl
by_tests false good c deck never = refl

any_sheet : (c : MakeCall) → ((made c).making ≡ (Err Full) → ⊥)
    → make_sheet (made c)
    ≡ sheet_of (drum_fits (length c.drum) c.marks (view c.drum c.marks)) (numbers_fit c.order c.problem)
    (deck_made (view c.drum c.marks) c.order c.problem)
unfolding made
any_sheet c never =
    by_tests (drum_fits (length c.drum) c.marks (view c.drum c.marks)) (numbers_fit c.order c.problem) c
    (deck_made (view c.drum c.marks) c.order c.problem) never

-- ---- what is told of it

-- the output is as long as it was
long_by : (c : MakeCall) (m : Making) → (made c).making ≡ m → length (made c).out ≡ length c.out
long_by c (Ok n) e = (made_past_untouched c n e).long
long_by c (Err UnfitDrum) e = ap length (refused_make_writes_nothing c (λ n f. let z : ◌≡◌ {A = ℕ} 0 1 = cc in let y : ⊥ = omega arith in y))
long_by c (Err UnfitNumber) e = ap length (refused_make_writes_nothing c (λ n f. let z : ◌≡◌ {A = ℕ} 0 1 = cc in let y : ⊥ = omega arith in y))
long_by c (Err Full) e = ap length (refused_make_writes_nothing c (λ n f. let z : ◌≡◌ {A = ℕ} 0 1 = cc in let y : ⊥ = omega arith in y))

module _ (drum marks : List ℕ) (options : Options) (state : State) where
  same_sheet : (one other : List ℕ) → longest_made ≤ length one → longest_made ≤ length other
      → make_sheet (made (call_in drum marks options state one)) ≡ make_sheet (made (call_in drum marks options state other))
  same_sheet one other h k =
      any_sheet (call_in drum marks options state one) (room_enough (call_in drum marks options state one) h)
      ∙ sym (any_sheet (call_in drum marks options state other) (room_enough (call_in drum marks options state other) k))

  pub made_told : (order problem : ℕ) (before left after : List ℕ) (m : Making) (n : ℕ) → 13196 ≡ length before
      → order ≡ first_of options
      → problem ≡ problem_of options state.problem
      → MakeRight (made (record { drum = drum; marks = marks; out = before; order = order; problem = problem })) left m
      → Closed true (make_line m left) left n after → MadeTold drum marks options state (take n after)
  made_told order problem before left after m n room p q r w =
      record {
        sheet_is = λ other h. whole ∙ same_sheet before other (omega arith) h;
        not_full = λ other h. room_enough (call_in drum marks options state other) h;
      }
    where
      call : MakeCall
      call = call_in drum marks options state before

      right : MakeRight (made call) left m
      right = rw (p, q) at r

      long : length left ≡ length before
      long = ap length right.out_is ∙ long_by call (made call).making refl

      whole : take n after ≡ make_sheet (made call)
      whole =
          making_whole m left after n (omega (arith, long)) w
          ∙ ap (λ (x : Making). make_line x left) right.making_is
          ∙ ap (λ (l : List ℕ). make_line (made call).making l) right.out_is
