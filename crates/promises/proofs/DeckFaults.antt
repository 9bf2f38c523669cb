-- What each number of a refused deck says of its bytes: of any bytes one of the things that a number may say is right, and it is the one that is
-- told. So too for a load and a run, and as before. Assumes nothing.
use Rattle.std.proofs.Common.{Err, Ok}
use Prim.Native.Nat.{ℕ, ◌≤◌}
use mathlib.Core.Path.{◌≡◌, refl, sym, ap, subst, subst₂, ◌∙◌}
use mathlib.Core.Logic.{◌↔◌, ◌⊎◌, inl, inr, ⊎_elim}
use mathlib.Core.List.{List}
use native.Mathlib.Omega.{arith}
use Rattle.rules.specs.Decks.{deck_of}
use Rattle.rules.specs.Numbers.{deck_number, deck_place, check_number, check_place, loading_number, loading_place, ending_number, ending_place}
use Rattle.rules.specs.Loads.{LoadCall, loaded_from, loaded}
use Rattle.rules.specs.Machine.{present}
use Rattle.rules.specs.Running.{RunCall, ran_on, ran_by}
use Rattle.rules.specs.Answers.{Deck}
use Rattle.rules.specs.declared.Fault.TheVariants.{UnknownKind, SecondFirst, CutShort, BadByte, BadPlace}
use Rattle.rules.specs.declared.DeckFault.{DeckFault}
use Rattle.rules.specs.declared.DeckFault.TheVariants.{TooLong, At, NoFirst}
use Rattle.promises.specs.DeckFaults.{byte_at, UnknownKindAt, CutShortAt, BadByteAt, OutOfRangeAt, SecondFirstAt, NoFirstIn, TooLongAt, GoodDeck, Tells, NumbersSay, CallsTell, number_before, InThatCard, RefusedAsBefore}
use Rattle.promises.proofs.CardFaults.{field_within}
use Rattle.promises.proofs.DeckChecks.{told_unknown, told_cut, told_byte, told_place, told_second, told_none, told_long, told_good}
use Rattle.promises.proofs.DeckFound.{Says, says_good, says_long, says_unknown, says_cut, says_byte, says_place, says_second, says_none, found}

-- ---- what is right is told

-- the number and the place, in the card where it was told before
record Told (deck : List ℕ) (number place : ℕ) : Type 0 where
  tells : Tells deck number place
  in_card : (f : DeckFault) → deck_of deck ≡ Err f → InThatCard deck f

fault_told : {deck : List ℕ} (f : DeckFault) → deck_of deck ≡ Err f → InThatCard deck f → Told deck (deck_number f) (deck_place f)
fault_told {deck} f e c =
    record {
      tells = (ap check_number e, ap check_place e);
      in_card = λ g q. let s : f ≡ g = cc in subst (InThatCard deck) s c;
    }

told : {deck : List ℕ} {number place : ℕ} → Says deck number place → Told deck number place
told (says_good h) =
    let e = (told_good h).3 in
    record { tells = (ap check_number e, ap check_place e); in_card = λ f q. let z : ◌≡◌ {A = ℕ} 0 1 = cc in absurd (omega arith) }
told {deck} (says_long h) = subst (Told deck 11) (sym h.there) (fault_told TooLong (told_long h) refl)
told (says_unknown h) = fault_told (At _ UnknownKind _) (told_unknown h) (inl refl)
told (says_cut h) = fault_told (At _ CutShort _) (told_cut h) (inl refl)
told (says_byte h) = fault_told (At _ BadByte _) (told_byte h) (inr (omega arith, omega arith))
told {deck} (says_place h) =
    let w = field_within (byte_at deck h.p) h.known in
    fault_told (At _ BadPlace _) (told_place h) (inr (omega arith, omega arith))
told (says_second h) = fault_told (At _ SecondFirst _) (told_second h) (inl refl)
told (says_none h) = fault_told (NoFirst _) (told_none h) refl

-- ---- what is told is right

said : {deck : List ℕ} {number place : ℕ} → Tells deck number place → Says deck number place
said {deck} h =
    let f = found deck in
    let t = (told f.2).tells in
    subst₂ (Says deck) (sym t.0 ∙ h.0) (sym t.1 ∙ h.1) f.2

module _ {deck : List ℕ} where
  is_good : Says deck 0 0 → GoodDeck deck
  is_good (says_good h) = h

  module _ {place : ℕ} where
    is_long : Says deck 11 place → TooLongAt deck place
    is_long (says_long h) = h

    is_unknown : Says deck 13 place → UnknownKindAt deck place
    is_unknown (says_unknown h) = h

    is_cut : Says deck 14 place → CutShortAt deck place
    is_cut (says_cut h) = h

    is_byte : Says deck 15 place → BadByteAt deck place
    is_byte (says_byte h) = h

    is_place : Says deck 16 place → OutOfRangeAt deck place
    is_place (says_place h) = h

    is_second_lem : Says deck 17 place → SecondFirstAt deck place
    is_second_lem (says_second h) = h

    is_none : Says deck 18 place → NoFirstIn deck place
    is_none (says_none h) = h

-- of all faults
fault_number_lem : (f : DeckFault) → (deck_number f ≡ 11) ⊎ ((13 ≤ deck_number f) × (deck_number f ≤ 18))
fault_number_lem TooLong = inl refl
fault_number_lem (At p UnknownKind b) = inr (omega arith)
fault_number_lem (At p CutShort b) = inr (omega arith)
fault_number_lem (At p BadByte b) = inr (omega arith)
fault_number_lem (At p BadPlace b) = inr (omega arith)
fault_number_lem (At p SecondFirst b) = inr (omega arith)
fault_number_lem (NoFirst n) = inr (omega arith)

no_other : (k : Deck) → (check_number k ≡ 0) ⊎ (check_number k ≡ 11) ⊎ ((13 ≤ check_number k) × (check_number k ≤ 18))
no_other (Ok start) = inl refl
no_other (Err f) = inr (fault_number_lem f)

pub numbers_say : NumbersSay
numbers_say =
    record {
      unknown_kind = λ deck place. (λ t. is_unknown (said t), λ h. (told (says_unknown h)).tells);
      cut_short = λ deck place. (λ t. is_cut (said t), λ h. (told (says_cut h)).tells);
      bad_byte = λ deck place. (λ t. is_byte (said t), λ h. (told (says_byte h)).tells);
      out_of_range = λ deck place. (λ t. is_place (said t), λ h. (told (says_place h)).tells);
      second_first = λ deck place. (λ t. is_second_lem (said t), λ h. (told (says_second h)).tells);
      no_first_order = λ deck place. (λ t. is_none (said t), λ h. (told (says_none h)).tells);
      too_long = λ deck place. (λ t. is_long (said t), λ h. (told (says_long h)).tells);
      good = λ deck. (λ t. is_good (said t), λ h. (told (says_good h)).tells);
      no_other = λ deck place number t. rw t.0 at (no_other (deck_of deck));
    }

-- ---- calls

of_load_lem : (c : LoadCall) (k : Deck) → deck_of c.deck ≡ k
    → Tells c.deck (loading_number (loaded_from c k).loading) (loading_place (loaded_from c k).loading)
unfolding loaded_from
of_load_lem c (Ok start) e = (ap check_number e, ap check_place e)
of_load_lem c (Err f) e = (ap check_number e, ap check_place e)

of_run_lem : (c : RunCall) (k : Deck) → deck_of c.deck ≡ k → (check_number k ≡ 0 → ⊥)
    → Tells c.deck (ending_number (ran_on present c k).ending) (ending_place (ran_on present c k).ending)
unfolding ran_on
of_run_lem c (Ok start) e n = absurd (n refl)
of_run_lem c (Err f) e n = (ap check_number e, ap check_place e)

pub calls_tell : CallsTell
unfolding loaded ran_by
calls_tell =
    record {
      load = λ c fits. rw fits (of_load_lem c (deck_of c.deck) refl);
      run = λ c fits n. rw fits (of_run_lem c (deck_of c.deck) refl n);
    }

-- ---- as before

same_deck : (k : Deck) → (check_number k ≡ 0) ↔ (number_before k ≡ 0)
same_deck (Ok start) = (λ e. refl, λ e. refl)
same_deck (Err f) = (λ e. ⊎_elim (λ n. omega arith) (λ n. omega arith) (fault_number_lem f), λ e. omega arith)

pub refused_as_before : RefusedAsBefore
refused_as_before =
    record {
      same_decks = λ deck. same_deck (deck_of deck);
      same_card = λ deck f e. (told (found deck).2).in_card f e;
    }
