-- What is written for an answer, by what the card's writers say. Assumes nothing.
use Rattle.std.proofs.Common.{Err, Ok}
use Prim.Native.Nat.{ℕ, zero, suc, ◌≤◌, min}
use mathlib.Core.Path.{◌≡◌, refl, sym, ap, ◌∙◌}
use mathlib.Core.List.{List, [], ◌∷◌}
use mathlib.Core.Bool.{Bool, true, false}
use native.Mathlib.Omega.{arith}
use borrow.Author.Tests.{le-leb}
use lib.ListN.{length, take, length-append, length-take}
use Rattle.rules.specs.Words.{pick}
use Rattle.rules.specs.Numbers.{outcome_number, outcome_shown, bar_number, bar_place, making_number}
use Rattle.rules.specs.Cards.{stop_card, refusal_line}
use Rattle.rules.specs.Running.{over}
use Rattle.rules.specs.Sheet.{closing, make_line}
use Rattle.rules.specs.Answers.{Ending, Making, Outcome}
use Rattle.rules.specs.declared.State.{State}
use Rattle.rules.specs.declared.Bar.{Bar}
use Rattle.rules.specs.declared.Unmade.{Unmade}
use Rattle.rules.proofs.Fields.{length_stop}
use Rattle.card.specs.Written.{stop_may, fits, Wrote, WroteLine}
use Rattle.says.specs.Counts.{IsPrefixLen}
use Rattle.says.specs.Told.{may_close, Closed}
use Rattle.says.proofs.Counted.{counts}

over_long : (s out : List ℕ) → length s ≤ length (over s out)
unfolding over
over_long s out = simp length-append (omega arith)

by_fits : (t : Bool) (answer before : List ℕ) → pick t (length answer) 0 ≤ length (pick t (over answer before) before)
by_fits true answer before = over_long answer before
by_fits false answer before = omega arith

pub closed_counts : (may : Bool) (answer before : List ℕ) (said : ℕ) (after : List ℕ) → Closed may answer before said after → IsPrefixLen said after
closed_counts may answer before said after w =
    counts said after
    (let h = by_fits (fits may answer before) answer before in
    rw (w.count_is, w.bytes) h)

-- a line that its writer wrote
pub line_closed : (line before : List ℕ) (said : ℕ) (after : List ℕ) → WroteLine line before said after → Closed true line before said after
line_closed line before said after w = record { count_is = w.answer; bytes = w.bytes }

module _ (e : Ending) (s : State) (count : ℕ) (before after : List ℕ) where
  pub line_told : (b : Bar) (number place said : ℕ) → e ≡ Err b → number ≡ bar_number b → place ≡ bar_place b
      → Closed true (refusal_line number place) before said after → Closed (may_close e s count) (closing e s count) before said after
  line_told b number place said p q r w = rw (p, ← q, ← r) w

  -- 24 bytes where the Z card was written, and else none
  pub stop_told : (o : Outcome) (number shown : ℕ) (told : Bool) (said : ℕ) → e ≡ Ok o → number ≡ outcome_number o → shown ≡ outcome_shown o
      → said ≡ pick told 24 0
      → Wrote (stop_may number s.location count shown) (stop_card number s.location count shown) before told after
      → Closed (may_close e s count) (closing e s count) before said after
  stop_told o number shown told said p q r y w =
      let card = stop_card number s.location count shown in
      rw (p, ← q, ← r)
      (record {
        count_is =
            y
            ∙ ap (λ (t : Bool). pick t 24 0) w.answer
            ∙ sym (ap (λ (k : ℕ). pick (fits (stop_may number s.location count shown) card before) k 0) (length_stop number s.location count shown));
        bytes = w.bytes;
      })

-- ---- a call of make

-- the line of a refused call is written
pub refused_told : (m : Making) (why : Unmade) (number said : ℕ) {before after : List ℕ} → m ≡ Err why → number ≡ making_number m
    → Closed true (refusal_line number 0) before said after → Closed true (make_line m before) before said after
refused_told m why number said e q w = rw (e, ← (q ∙ ap making_number e)) w

-- a deck stands in the output already, as far as that goes
over_itself : (n : ℕ) (out : List ℕ) → over (take n out) out ≡ out
unfolding over
over_itself zero out = refl
over_itself (suc n) [] = refl
over_itself (suc n) (x ∷ out) = ap (λ (l : List ℕ). x ∷ l) (over_itself n out)

pub made_told : (m : Making) (n said : ℕ) (out : List ℕ) → m ≡ Ok n → said ≡ min n (length out) → Closed true (make_line m out) out said out
made_told m n said out e r =
    let l = length-take n out in
    let h : length (take n out) ≤ length out = omega arith in
    rw e (record {
      count_is = r ∙ sym l ∙ sym (ap (λ (t : Bool). pick t (length (take n out)) 0) (le-leb (length (take n out)) (length out) h));
      bytes = sym (ap (λ (t : Bool). pick t (over (take n out) out) out) (le-leb (length (take n out)) (length out) h) ∙ over_itself n out);
    })

-- a line lies within the output, whole or as nothing
pub line_within : (line before : List ℕ) (said : ℕ) (after : List ℕ) → WroteLine line before said after → said ≤ length after
line_within line before said after w =
    let h = by_fits (fits true line before) line before in
    rw (w.answer, w.bytes) h
