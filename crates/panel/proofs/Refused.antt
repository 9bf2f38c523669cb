-- A refused load or run leaves all nine numbers of the state as they came, whatever they are, and a state of any other length too.
-- Assumes nothing.
use Rattle.std.proofs.Common.{Err, Ok}
use Prim.Native.Nat.{ℕ}
use mathlib.Core.Path.{◌≡◌, refl, ap, ◌∙◌}
use mathlib.Core.List.{List}
use mathlib.Core.Bool.{Bool, true, false, true≢false}
use lib.ListN.{length}
use borrow.Author.Tests.{eqb-true}
use Rattle.rules.specs.Words.{pick}
use Rattle.rules.specs.Drum.{view, drum_fits}
use Rattle.rules.specs.Decks.{deck_of}
use Rattle.rules.specs.Loads.{LoadCall, not_loaded, loaded_from, loaded}
use Rattle.rules.specs.Machine.{present}
use Rattle.rules.specs.Running.{RunCall, not_run, begun, inputs, run_from, state_fits, ran_as, ran_on, ran_by}
use Rattle.rules.specs.States.{state_in, numbers_of}
use Rattle.rules.specs.Answers.{Deck, Ending, Loading}
use Rattle.rules.specs.declared.Bar.{Bar}
use Rattle.rules.specs.declared.Bar.TheVariants.{BadDrum, BadState}
use Rattle.rules.proofs.States.{kept}
use Rattle.panel.specs.Calls.{is_state, barred, row_after, load_call, load_called, run_call, run_called}

-- the numbers of a state that was only read
same_row : (row : List ℕ) → row_after row (state_in row) ≡ row
same_row row = by_length (is_state row) refl
  where
    by_length : (t : Bool) → is_state row ≡ t → pick t (numbers_of (state_in row)) row ≡ row
    by_length true e = kept row (eqb-true (length row) 9 e)
    by_length false e = refl

-- ---- load

is_done : Loading → Bool
is_done (Ok _) = true
is_done (Err b) = false

load_state : (c : LoadCall) (t u : Bool) (d : Deck) (k b : Bar)
    → (pick t (pick u (loaded_from c d) (not_loaded c BadDrum)) (not_loaded c k)).loading ≡ Err b
    → (pick t (pick u (loaded_from c d) (not_loaded c BadDrum)) (not_loaded c k)).state ≡ c.state
unfolding loaded_from is_done
load_state c false u d k b e = refl
load_state c true false d k b e = refl
load_state c true true (Err f) k b e = refl
load_state c true true (Ok start) k b e = absurd (true≢false (ap is_done e))

pub load_keeps : (drum marks deck row : List ℕ) (traced : ℕ) (b : Bar)
    → (load_called row (load_call drum marks deck row traced)).loading ≡ Err b
    → row_after row (load_called row (load_call drum marks deck row traced)).state ≡ row
unfolding load_called loaded
load_keeps drum marks deck row traced b e =
    ap (row_after row)
    (load_state (load_call drum marks deck row traced) (is_state row) (drum_fits (length drum) marks (view drum marks)) (deck_of deck) (barred drum marks deck) b e)
    ∙ same_row row

-- ---- run

has_run : Ending → Bool
has_run (Ok o) = true
has_run (Err b) = false

begun_state : (c : RunCall) (t : Bool) (b : Bar)
    → (pick t (ran_as c (run_from (inputs c) c.budget (begun c) 0)) (not_run c BadState)).ending ≡ Err b
    → (pick t (ran_as c (run_from (inputs c) c.budget (begun c) 0)) (not_run c BadState)).state ≡ c.state
unfolding ran_as has_run
begun_state c true b e = absurd (true≢false (ap has_run e))
begun_state c false b e = refl

run_state : (c : RunCall) (t u : Bool) (d : Deck) (k b : Bar)
    → (pick t (pick u (ran_on present c d) (not_run c BadDrum)) (not_run c k)).ending ≡ Err b
    → (pick t (pick u (ran_on present c d) (not_run c BadDrum)) (not_run c k)).state ≡ c.state
unfolding ran_on
run_state c false u d k b e = refl
run_state c true false d k b e = refl
run_state c true true (Err f) k b e = refl
run_state c true true (Ok start) k b e =
    begun_state c (state_fits (view c.drum c.marks) c.deck start.behind c.state c.budget) b e

pub run_keeps : (drum marks deck out row : List ℕ) (budget stop : ℕ) (b : Bar)
    → (run_called row (run_call drum marks deck out row budget stop)).ending ≡ Err b
    → row_after row (run_called row (run_call drum marks deck out row budget stop)).state ≡ row
unfolding run_called ran_by
run_keeps drum marks deck out row budget stop b e =
    ap (row_after row)
    (run_state (run_call drum marks deck out row budget stop) (is_state row) (drum_fits (length drum) marks (view drum marks)) (deck_of deck) (barred drum marks deck) b e)
    ∙ same_row row
