-- What a made deck is worth. A call that says how many bytes it made has passed its checks, and its output begins with the deck; that deck
-- is good, has a card for each block, stores each block's words, and is never longer than 13,196 bytes. Assumes nothing.
use Rattle.std.proofs.Common.{Err, Ok}
use Prim.Native.Nat.{ℕ, zero, suc, ◌≤◌, ◌<◌}
use mathlib.Core.Path.{◌≡◌, refl, sym, ap, ap₂, subst, ◌∙◌}
use mathlib.Core.List.{List, ◌∷◌, ◌++◌, map}
use mathlib.Core.Bool.{Bool, true, false}
use native.Mathlib.Omega.{arith}
use lib.Dec.{leb}
use lib.ListN.{length, get_or, take, drop, length-append, length-drop}
use lib.Seq.{take_at, drop_at}
use borrow.Author.Tests.{leb-true, leb-false, le-leb, eq-eqb}
use Rattle.rules.specs.Words.{pick}
use Rattle.rules.specs.Drum.{cell_of, view, cell_at, shown, word_at, mark_of, marks_of, number_over, overlay, drum_fits}
use Rattle.rules.specs.Decks.{DataCard, data_from, deck_of}
use Rattle.rules.specs.Running.{over}
use Rattle.rules.specs.Loads.{cells_loaded, loaded_from, loaded}
use Rattle.rules.specs.Making.{Block, blocks_in, deck_made, MakeCall, MakeResult, not_made, made_of, numbers_fit, made}
use Rattle.rules.specs.Answers.{Cell, Making, good}
use Rattle.rules.specs.declared.State.{State}
use Rattle.rules.specs.declared.Unmade.TheVariants.{Full, UnfitDrum, UnfitNumber}
use Rattle.rules.proofs.Views.{length-overlay, Fit, fit, length-view, length_marks, marks_again, view_again}
use Rattle.rules.proofs.Sound.{all_words, words_fit_lem, marks_of_fit}
use Rattle.rules.proofs.MadeSizes.{made_short}
use Rattle.rules.proofs.MadeCells.{AllBear, no_card, one_card, Given, given_back, cell_at_lem, mark_at, number_at}
use Rattle.rules.proofs.MadeDecks.{deck_good, deck_bears, in_range_lem}
use Rattle.promises.specs.Calls.{load_of, make_of}
use Rattle.promises.specs.Making.{block_of, HasThese, Restored, MadeIsGood, LoadsTheSame, MadeAlike, SameDeckAgain, RefusedMakeWritesNothing, MadePastUntouched, longest_made, RoomEnough}
use Rattle.rules.proofs.Sides.{same_ok}
use Rattle.promises.proofs.SameDecks.{deck_same}

-- ---- what the checks of a call found

abbrev cells_of : MakeCall → List Cell
cells_of c = view c.drum c.marks

abbrev deck_for : MakeCall → List ℕ
deck_for c = deck_made (cells_of c) c.order c.problem

cells_long : (c : MakeCall) → Fit c.drum c.marks → length (cells_of c) ≡ 1000
cells_long c f = length-view c.drum c.marks (f.drum_long ∙ sym f.marks_long) ∙ f.drum_long

record Passed (c : MakeCall) : Type 0 where
  lent : Fit c.drum c.marks
  from : 1 ≤ c.order
  upto : c.order ≤ 999
  posed : c.problem ≤ 999
  room : length (deck_for c) ≤ length c.out

passed : (c : MakeCall) → drum_fits (length c.drum) c.marks (cells_of c) ≡ true → numbers_fit c.order c.problem ≡ true
    → leb (length (deck_for c)) (length c.out) ≡ true → Passed c
passed c d n r =
    let k = in_range_lem c.order c.problem n in
    record {
      lent = fit c.drum c.marks d;
      from = k.0;
      upto = k.1;
      posed = k.2;
      room = leb-true (length (deck_for c)) (length c.out) r;
    }

abbrev made_as : MakeCall → MakeResult
made_as c = record { making = Ok (length (deck_for c)); out = over (deck_for c) c.out }

-- a call that passes its checks makes the deck
numbers_fit_lem : {c : MakeCall} → Passed c → numbers_fit c.order c.problem ≡ true
numbers_fit_lem {c} p = simp (le-leb 1 c.order p.from, le-leb c.order 999 p.upto, le-leb c.problem 999 p.posed)

is_made : (c : MakeCall) → drum_fits (length c.drum) c.marks (cells_of c) ≡ true → numbers_fit c.order c.problem ≡ true
    → length (deck_for c) ≤ length c.out → made c ≡ made_as c
unfolding made made_of
is_made c d n r = rw (d, n, le-leb (length (deck_for c)) (length c.out) r)

-- why none is made
data Refused (c : MakeCall) : Making → Type 0 where
  drum_unfit : Refused c (Err UnfitDrum)
  number_unfit : Refused c (Err UnfitNumber)
  too_long : Fit c.drum c.marks → length c.out < length (deck_for c) → Refused c (Err Full)

not_made_lem : {c : MakeCall} {x : Making} {n : ℕ} → Refused c x → x ≡ Ok n → ⊥
not_made_lem drum_unfit e = let z : ◌≡◌ {A = ℕ} 0 1 = cc in omega arith
not_made_lem number_unfit e = let z : ◌≡◌ {A = ℕ} 0 1 = cc in omega arith
not_made_lem (too_long f l) e = let z : ◌≡◌ {A = ℕ} 0 1 = cc in omega arith

-- What is said of a call's result where no deck is made, and where one is made, is said of each.
module _ (P : MakeResult → Type 0) (c : MakeCall) (not : (x : Making) → Refused c x → P (not_made c x)) (did : Passed c → P (made_as c)) where
  by_room : drum_fits (length c.drum) c.marks (cells_of c) ≡ true → numbers_fit c.order c.problem ≡ true
      → (t : Bool) → leb (length (deck_for c)) (length c.out) ≡ t → P (pick t (made_as c) (not_made c (Err Full)))
  by_room d n true e = did (passed c d n e)
  by_room d n false e = not (Err Full) (too_long (fit c.drum c.marks d) (leb-false (length (deck_for c)) (length c.out) e))

  by_numbers : drum_fits (length c.drum) c.marks (cells_of c) ≡ true → (t : Bool) → numbers_fit c.order c.problem ≡ t
      → P (pick t (made_of c (deck_for c)) (not_made c (Err UnfitNumber)))
  unfolding made_of
  by_numbers d true e = by_room d e (leb (length (deck_for c)) (length c.out)) refl
  by_numbers d false e = not (Err UnfitNumber) number_unfit

  by_drum : (t : Bool) → drum_fits (length c.drum) c.marks (cells_of c) ≡ t
      → P (pick t (pick (numbers_fit c.order c.problem) (made_of c (deck_for c)) (not_made c (Err UnfitNumber))) (not_made c (Err UnfitDrum)))
  by_drum true e = by_numbers e (numbers_fit c.order c.problem) refl
  by_drum false e = not (Err UnfitDrum) drum_unfit

  of_make_lem : P (made c)
  unfolding made
  of_make_lem = by_drum (drum_fits (length c.drum) c.marks (cells_of c)) refl

-- a call that made n bytes
record Done (c : MakeCall) (n : ℕ) (x : MakeResult) : Type 0 where
  checks : Passed c
  long : length (deck_for c) ≡ n
  out_is : x.out ≡ deck_for c ++ drop n c.out

done : (c : MakeCall) (n : ℕ) → (made c).making ≡ Ok n → Done c n (made c)
unfolding over
done c n =
    of_make_lem (λ (x : MakeResult). x.making ≡ Ok n → Done c n x) c (λ x r e. absurd (not_made_lem r e))
    (λ p e. record {
      checks = p;
      long = same_ok e;
      out_is = ap (λ (k : ℕ). deck_for c ++ drop k c.out) (same_ok e);
    })

module _ (c : MakeCall) (n : ℕ) (h : Done c n (made c)) where
  deck_is : take n (made c).out ≡ deck_for c
  deck_is = ap (take n) h.out_is ∙ take_at (deck_for c) (drop n c.out) n h.long

  is_good : deck_of (take n (made c).out) ≡ good n c.order c.problem
  is_good =
      let p = h.checks in
      ap deck_of deck_is
      ∙ deck_good (cells_of c) c.order c.problem (cells_long c p.lent) p.lent.words_fit_lem p.from p.upto p.posed
      ∙ ap (λ (k : ℕ). good k c.order c.problem) h.long

  bears : AllBear (cells_of c) n (data_from (take n (made c).out) 0) (blocks_in (cells_of c))
  bears =
      let p = h.checks in
      subst (λ (d : List ℕ). AllBear (cells_of c) n (data_from d 0) (blocks_in (cells_of c))) (sym deck_is)
      (subst (λ (k : ℕ). AllBear (cells_of c) k (data_from (deck_for c) 0) (blocks_in (cells_of c))) h.long
      (deck_bears (cells_of c) c.order c.problem (cells_long c p.lent) p.lent.words_fit_lem p.from p.upto p.posed))

pub made_is_good : MadeIsGood
made_is_good c n e = is_good c n (done c n e)

-- ---- its cards

borne : {v : List Cell} {end : ℕ} {ks : List DataCard} {bs : List Block} → AllBear v end ks bs → map block_of ks ≡ bs
borne no_card = refl
borne (one_card h r) =
    ap₂ (λ (b : Block) (bs : List Block). b ∷ bs)
    (ap₂ (λ (l n : ℕ). record { location = l; cells = n }) h.same_location h.same_words) (borne r)

pub has_these : HasThese
has_these c n e = borne (bears c n (done c n e))

-- ---- loaded again

module _ (c : MakeCall) (n : ℕ) (h : Done c n (made c)) (drum marks : List ℕ)
    (fits : drum_fits (length drum) marks (view drum marks) ≡ true) (clear : (a : ℕ) → get_or marks a 0 ≡ 0) where
  there : Fit drum marks
  there = fit drum marks fits

  same_long : length drum ≡ length marks
  same_long = there.drum_long ∙ sym there.marks_long

  abbrev cells : List Cell
  cells = cells_loaded (view drum marks) (take n (made c).out) n

  given : Given (cells_of c) cells
  given =
      given_back (cells_of c) (view drum marks) (bears c n h) (cells_long c h.checks.lent) (length-view drum marks same_long ∙ there.drum_long)
      (λ x. cell_at_lem drum marks x same_long ∙ ap (λ (m : ℕ). cell_of m (get_or drum x 0)) (clear x))

  -- what a cell holds after the load, and what it held where the deck was made
  number_is : (a : ℕ) {x : Cell} → cell_at cells a ≡ x → get_or (overlay drum cells) a 0 ≡ number_over x (get_or drum a 0)
  number_is a e =
      number_at drum cells a (there.drum_long ∙ sym given.long) ∙ ap (λ (y : Cell). number_over y (get_or drum a 0)) e

  cell_is : (a : ℕ) {m : ℕ} → 1 ≤ a → get_or c.marks a 0 ≡ m → cell_at cells a ≡ cell_of m (get_or c.drum a 0)
  cell_is a l e =
      given.others a l
      ∙ cell_at_lem c.drum c.marks a (h.checks.lent.drum_long ∙ sym h.checks.lent.marks_long)
      ∙ ap (λ (k : ℕ). cell_of k (get_or c.drum a 0)) e

  restored : (s : State) (traced : Bool) → Restored c n drum traced (loaded (load_of drum marks (take n (made c).out) s traced))
  unfolding loaded loaded_from
  restored s traced =
      rw (fits, is_good c n h)
      (record {
        done = refl;
        state_is = refl;
        zero_marked = mark_at cells 0 ∙ ap mark_of given.zero_is;
        zero_is = number_is 0 given.zero_is;
        marks_same = λ a l.
            mark_at cells a
            ∙ ap mark_of (given.others a l)
            ∙ sym (mark_at (cells_of c) a)
            ∙ ap (λ (ms : List ℕ). get_or ms a 0) (marks_again c.drum c.marks h.checks.lent);
        words_same = λ a l e. number_is a (cell_is a l e);
        others_kept = λ a l e. number_is a (cell_is a l e);
      })

  -- made again: drum and marks are valid, their cells are the same from 001 on, and so is the deck
  shows_word : (a : ℕ) → word_at cells a ≤ 19999999999
  shows_word zero = omega (arith, ap shown given.zero_is)
  shows_word (suc a) = omega (arith, ap shown (given.others (suc a) (omega arith)), all_words (cells_of c) h.checks.lent.words_fit_lem (suc a))

  seen_again : view (overlay drum cells) (marks_of cells) ≡ cells
  seen_again = view_again drum cells (there.drum_long ∙ sym given.long)

  fits_again : drum_fits (length (overlay drum cells)) (marks_of cells) (view (overlay drum cells) (marks_of cells)) ≡ true
  unfolding drum_fits
  fits_again =
      simp (
        eq-eqb (length (overlay drum cells)) 1000 (length-overlay drum cells ∙ there.drum_long),
        eq-eqb (length (marks_of cells)) 1000 (length_marks cells ∙ given.long),
        marks_of_fit cells,
        seen_again,
        words_fit_lem cells shows_word,
      )

  made_again : (s : State) (traced : Bool) (room : List ℕ) → n ≤ length room
      → let x = loaded (load_of drum marks (take n (made c).out) s traced) in
      MadeAlike n (made c) (made (make_of x.drum x.marks room c.order c.problem))
  unfolding loaded loaded_from over
  made_again s traced room l =
      rw (fits, is_good c n h)
      (let d : MakeCall = make_of (overlay drum cells) (marks_of cells) room c.order c.problem in
      let same : deck_for d ≡ deck_for c =
      ap (λ (v : List Cell). deck_made v c.order c.problem) seen_again ∙ deck_same cells (cells_of c) given.others c.order c.problem in
      let long : length (deck_for d) ≡ n = ap length same ∙ h.long in
      let y : made d ≡ made_as d = is_made d fits_again (numbers_fit_lem h.checks) (omega arith) in
      record {
        making_same = ap (λ (x : MakeResult). x.making) y ∙ ap Ok long;
        deck_same =
            ap (λ (x : MakeResult). take n x.out) y
            ∙ take_at (deck_for d) (drop (length (deck_for d)) room) n long
            ∙ same
            ∙ sym (deck_is c n h);
      })

pub loads_the_same : LoadsTheSame
loads_the_same c n e drum marks k s traced = restored c n (done c n e) drum marks k.valid k.unmarked s traced

pub same_deck_again : SameDeckAgain
same_deck_again c n e drum marks k s traced room l = made_again c n (done c n e) drum marks k.valid k.unmarked s traced room l

-- ---- what is written

pub refused_make_writes_nothing : RefusedMakeWritesNothing
refused_make_writes_nothing c =
    of_make_lem (λ (x : MakeResult). ((n : ℕ) → x.making ≡ Ok n → ⊥) → x.out ≡ c.out) c (λ x r h. refl)
    (λ p h. absurd (h (length (deck_for c)) refl))

pub made_past_untouched : MadePastUntouched
made_past_untouched c n e =
    let h = done c n e in
    record {
      room = omega arith;
      long =
          ap length h.out_is
          ∙ length-append (deck_for c) (drop n c.out)
          ∙ omega (arith, length-drop n c.out);
      past = ap (drop n) h.out_is ∙ drop_at (deck_for c) (drop n c.out) n h.long;
    }

-- a deck is refused for its room only where it is longer than that, and none that is made is longer than 13,196 bytes
room_for : {c : MakeCall} {x : Making} → longest_made ≤ length c.out → Refused c x → x ≡ (Err Full) → ⊥
room_for l drum_unfit e = let z : ◌≡◌ {A = ℕ} 0 1 = cc in omega arith
room_for l number_unfit e = let z : ◌≡◌ {A = ℕ} 0 1 = cc in omega arith
room_for {c} l (too_long f g) e = omega (arith, made_short (cells_of c) c.order c.problem (cells_long c f))

pub room_enough : RoomEnough
room_enough c l =
    of_make_lem (λ (x : MakeResult). x.making ≡ (Err Full) → ⊥) c (λ x r. room_for l r) (λ p e. let z : ◌≡◌ {A = ℕ} 0 1 = cc in omega arith)
