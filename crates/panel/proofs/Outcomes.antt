-- The two calls by their outcome: refused because the state is not nine numbers, or done by the machine. Assumes nothing.
use Rattle.std.proofs.Common.{Err}
use Prim.Native.Nat.{ℕ}
use mathlib.Core.Path.{◌≡◌, refl, sym, ap, ◌∙◌, subst⁻¹}
use mathlib.Core.List.{List}
use mathlib.Core.Bool.{Bool, true, false}
use lib.ListN.{length}
use Rattle.rules.specs.Words.{pick}
use Rattle.rules.specs.Drum.{view, drum_fits}
use Rattle.rules.specs.Decks.{deck_of}
use Rattle.rules.specs.Loads.{LoadCall, LoadResult, loaded}
use Rattle.rules.specs.Running.{RunCall, RunResult, ran}
use Rattle.rules.specs.States.{numbers_of}
use Rattle.rules.specs.Answers.{Deck}
use Rattle.rules.specs.declared.Bar.{Bar}
use Rattle.rules.specs.declared.Bar.TheVariants.{BadDrum}
use Rattle.machine.specs.Lent.{LoadRight, RunRight}
use Rattle.machine.specs.declared.Loaded.{Loaded}
use Rattle.machine.specs.declared.Ran.{Ran}
use Rattle.panel.specs.Calls.{is_state, bar_of, barred, load_called, loading_told, LoadTold, run_called, ending_told, RunTold}
use Rattle.panel.specs.declared.Place.{Place}
use Rattle.panel.specs.declared.Ended.{Ended}

-- the first of the checks 10 and 11 that fails, and else 12
pub barred_by : (drum marks deck : List ℕ) {t : Bool} {d : Deck}
    → t ≡ drum_fits (length drum) marks (view drum marks)
    → d ≡ deck_of deck
    → pick t (bar_of d) BadDrum ≡ barred drum marks deck
unfolding barred
barred_by drum marks deck e q i = pick (e i) (bar_of (q i)) BadDrum

-- whether the state is nine numbers decides between two
decided : {A : Type 0} (a b : A) {t u : Bool} → t ≡ u → pick t a b ≡ pick u a b
decided a b e = ap (λ (t : Bool). pick t a b) e

-- ---- load

module _ (row : List ℕ) (c : LoadCall) where
  pub load_barred : {b : Bar} {r : Place}
      → is_state row ≡ false
      → b ≡ barred c.drum c.marks c.deck
      → r ≡ loading_told (Err b)
      → LoadTold row (load_called row c) c.drum c.marks row r
  unfolding load_called
  load_barred {b} {r} h e t =
      subst⁻¹ (λ (x : LoadResult). LoadTold row x c.drum c.marks row r) (decided _ _ h)
      (record {
        told_is = t ∙ ap (λ (k : Bar). loading_told (Err k)) e;
        drum_is = refl;
        marks_are = refl;
        row_is = sym (decided _ _ h);
      })

  pub load_done : {c' : LoadCall} {drum' marks' row' : List ℕ} {x : Loaded} {r : Place}
      → is_state row ≡ true
      → c' ≡ c
      → LoadRight (loaded c') drum' marks' x
      → row' ≡ numbers_of x.state
      → r ≡ loading_told x.loading
      → LoadTold row (load_called row c) drum' marks' row' r
  unfolding load_called
  load_done {c'} {drum'} {marks'} {row'} {x} {r} h e k w t =
      subst⁻¹ (λ (y : LoadResult). LoadTold row y drum' marks' row' r) (decided _ _ h ∙ ap loaded (sym e))
      (record {
        told_is = t ∙ ap loading_told k.loading_is;
        drum_is = k.drum_is;
        marks_are = k.marks_are;
        row_is = w ∙ ap numbers_of k.state_is ∙ sym (decided _ _ h);
      })

-- ---- run

module _ (row : List ℕ) (c : RunCall) where
  pub run_barred_lem : {b : Bar} {r : Ended}
      → is_state row ≡ false
      → b ≡ barred c.drum c.marks c.deck
      → r ≡ ending_told (Err b) 0 0
      → RunTold row (run_called row c) c.drum c.marks c.out row r
  unfolding run_called
  run_barred_lem {b} {r} h e t =
      subst⁻¹ (λ (x : RunResult). RunTold row x c.drum c.marks c.out row r) (decided _ _ h)
      (record {
        told_is = t ∙ ap (λ (k : Bar). ending_told (Err k) 0 0) e;
        drum_is = refl;
        marks_are = refl;
        out_is = refl;
        row_is = sym (decided _ _ h);
      })

  pub run_done : {c' : RunCall} {drum' marks' out' row' : List ℕ} {x : Ran} {r : Ended}
      → is_state row ≡ true
      → c' ≡ c
      → RunRight (ran c') drum' marks' out' x
      → row' ≡ numbers_of x.state
      → r ≡ ending_told x.ending x.count x.written
      → RunTold row (run_called row c) drum' marks' out' row' r
  unfolding run_called
  run_done {c'} {drum'} {marks'} {out'} {row'} {x} {r} h e k w t =
      subst⁻¹ (λ (y : RunResult). RunTold row y drum' marks' out' row' r) (decided _ _ h ∙ ap ran (sym e))
      (record {
        told_is = t ∙ (λ i. ending_told (k.ending_is i) (k.count_is i) (k.written_is i));
        drum_is = k.drum_is;
        marks_are = k.marks_are;
        out_is = k.out_is;
        row_is = w ∙ ap numbers_of k.state_is ∙ sym (decided _ _ h);
      })
