-- Endings with 22, and calls that are refused at their entry: these are refused alike in every room. Assumes nothing.
use Rattle.std.proofs.Common.{Err, Ok}
use Prim.Native.Nat.{ℕ}
use mathlib.Core.Path.{◌≡◌, refl, sym, ap, ◌∙◌}
use mathlib.Core.Logic.{◌⊎◌, inl, inr, ⊎_elim}
use mathlib.Core.List.{List}
use mathlib.Core.Bool.{Bool, true, false, true≢false}
use lib.ListN.{length}
use Rattle.rules.specs.Drum.{view, drum_fits}
use Rattle.rules.specs.Decks.{deck_of}
use Rattle.rules.specs.Running.{RunCall, RunResult, not_run, state_fits, ran_on, ran_by, ran}
use Rattle.rules.specs.Answers.{Deck, Ending, Outcome}
use Rattle.rules.specs.declared.Refusal.TheVariants.{BadAddress, Unmarked, NoRoom, NotBuilt, NotNumber, ZeroDivisor, NegativeRoot, OutOfRange, Unfit, NoCard}
use Rattle.rules.specs.declared.Stop.TheVariants.{Unconditional, Conditional, Lost}
use Rattle.rules.specs.declared.Fault.TheVariants.{UnknownKind, SecondFirst, CutShort, BadByte, BadPlace}
use Rattle.rules.specs.declared.DeckFault.{DeckFault}
use Rattle.rules.specs.declared.DeckFault.TheVariants.{TooLong, At, NoFirst}
use Rattle.rules.specs.declared.Bar.{Bar}
use Rattle.rules.specs.declared.Bar.TheVariants.{BadDrum, BadDeck, BadState}
use Rattle.rules.specs.declared.Done.TheVariants.{GoesOn, Stops}
use Rattle.rules.proofs.Tests.{false_true}
use Rattle.rules.proofs.RoomRuns.{NotFull}
use Rattle.promises.specs.Rooms.{is_full, within}
use Rattle.rules.proofs.Sides.{same_ok}
use Rattle.rules.proofs.Entered.{Entered}

-- ---- 22

bad_deck_not_full : (f : DeckFault) → is_full (Err (BadDeck f)) ≡ false
bad_deck_not_full TooLong = refl
bad_deck_not_full (At p UnknownKind b) = refl
bad_deck_not_full (At p SecondFirst b) = refl
bad_deck_not_full (At p CutShort b) = refl
bad_deck_not_full (At p BadByte b) = refl
bad_deck_not_full (At p BadPlace b) = refl
bad_deck_not_full (NoFirst p) = refl

bar_not_full : (b : Bar) → is_full (Err b) ≡ false
bar_not_full BadDrum = refl
bar_not_full (BadDeck f) = bad_deck_not_full f
bar_not_full BadState = refl

pub full_is : (e : Ending) → is_full e ≡ true → e ≡ Ok (Err NoRoom)
full_is (Err b) t = false_true (sym (bar_not_full b) ∙ t)
full_is (Ok (Ok GoesOn)) t = false_true t
full_is (Ok (Ok (Stops Unconditional w))) t = false_true t
full_is (Ok (Ok (Stops Conditional w))) t = false_true t
full_is (Ok (Ok (Stops Lost w))) t = false_true t
full_is (Ok (Err BadAddress)) t = false_true t
full_is (Ok (Err Unmarked)) t = false_true t
full_is (Ok (Err NoRoom)) t = refl
full_is (Ok (Err NotBuilt)) t = false_true t
full_is (Ok (Err NotNumber)) t = false_true t
full_is (Ok (Err ZeroDivisor)) t = false_true t
full_is (Ok (Err NegativeRoot)) t = false_true t
full_is (Ok (Err OutOfRange)) t = false_true t
full_is (Ok (Err Unfit)) t = false_true t
full_is (Ok (Err NoCard)) t = false_true t

pub not_full : (e : Ending) (o : Outcome) → e ≡ Ok o → is_full e ≡ false → NotFull o
not_full e o q f z = true≢false (sym (ap is_full (q ∙ ap Ok z)) ∙ f)

pub is_not_full : (e : Ending) (o : Outcome) → e ≡ Ok o → NotFull o → is_full e ≡ false
is_not_full e o q n = by_test (is_full e) refl
  where
    by_test : (t : Bool) → is_full e ≡ t → t ≡ false
    by_test true f = absurd (n (same_ok (sym q ∙ full_is e f)))
    by_test false f = refl

-- ---- calls that are refused at their entry

abbrev pub Barred : RunCall → Type 0
Barred c = (b : Bar) × ((out : List ℕ) → ran (within c out) ≡ not_run (within c out) b)

module _ (c : RunCall) (fits : drum_fits (length c.drum) c.marks (view c.drum c.marks) ≡ true) where
  judged_deck : (k : Deck) → deck_of c.deck ≡ k → Entered c ⊎ Barred c
  unfolding ran_by ran_on
  judged_deck (Err f) q = inr (BadDeck f, λ out. rw (fits, q))
  judged_deck (Ok start) q = by_state (state_fits (view c.drum c.marks) c.deck start.behind c.state c.budget) refl
    where
      by_state : (t : Bool) → state_fits (view c.drum c.marks) c.deck start.behind c.state c.budget ≡ t → Entered c ⊎ Barred c
      by_state true f = inl (record { drum_fits_lem = fits; first = start.behind; order = start.order; problem = start.problem; deck_good = q; state_fits_lem = f })
      by_state false f = inr (BadState, λ out. rw (fits, q, f))

pub either_way : (c : RunCall) → Entered c ⊎ Barred c
unfolding ran_by
either_way c = by_fit (drum_fits (length c.drum) c.marks (view c.drum c.marks)) refl
  where
    by_fit : (t : Bool) → drum_fits (length c.drum) c.marks (view c.drum c.marks) ≡ t → Entered c ⊎ Barred c
    by_fit true f = judged_deck c f (deck_of c.deck) refl
    by_fit false f = inr (BadDrum, λ out. rw f)

pub barred_not_full : (c : RunCall) → Barred c → is_full (ran c).ending ≡ false
barred_not_full c h = ap (λ (x : RunResult). is_full x.ending) (h.1 c.out) ∙ bar_not_full h.0

-- what holds of a call that is refused at its entry or passes it
pub of_call : (c : RunCall) (P : Type 0) → (Entered c → P) → (Barred c → P) → P
of_call c P f g = ⊎_elim f g (either_way c)
