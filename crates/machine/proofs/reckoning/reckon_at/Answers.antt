use Rattle.std.proofs.Common.{Err, Ok}
use mathlib.Core.Path.{◌≡◌, sym, ap₂, subst, ◌∙◌}
use Prim.Native.Nat.{ℕ}
use Rattle.rules.specs.Drum.{word_at}
use lib.Dec.{ltb}
use Rattle.rules.specs.Words.{both}
use Rattle.rules.specs.Machine.{Machine, Inputs, present}
use Rattle.rules.specs.Orders.{reckoned_by, loss_by, stops_at, resulted, reckoned}
use Rattle.rules.specs.Answers.{Reckoned}
use Rattle.rules.specs.declared.Reckoning.{Reckoning}
use Rattle.rules.specs.declared.Switches.{Switches}
use mathlib.Core.List.{List}
use Rattle.drum.specs.Held.{Holds}
use Rattle.rules.proofs.Results.{reckoned_fits}
use Rattle.machine.proofs.Refusals.{refused_as}
use Rattle.machine.proofs.Shown.{word_is, stays}
use Rattle.machine.proofs.Stores.{fits_word}
use Rattle.rules.proofs.Results.{Fits}
use Rattle.machine.specs.Lent.{Did}
use Rattle.machine.proofs.reckoning.reckon_at.Goals as goal
use Rattle.machine.proofs.reckoning.reckon_at.Goals.{After-reckon}

-- the two words are the machine's
first_is : (c : After-reckon) (drum₀ : List ℕ) (m : Machine) → (Holds drum₀ c.args.drum.now c.args.marks.now m.cells)
    → (c.word-x.result ≡ word_at m.cells c.args.a)
first_is c drum₀ m h =
    word_is h c.args.a c.word-x.ensures

second_is : (c : After-reckon) (drum₀ : List ℕ) (m : Machine) → (Holds drum₀ c.args.drum.now c.args.marks.now m.cells)
    → (c.word-y.result ≡ word_at m.cells c.args.b)
second_is c drum₀ m h =
    word_is h c.args.b c.word-y.ensures

-- what is reckoned is reckoned of them
of_cells : (c : After-reckon) (drum₀ : List ℕ) (m : Machine) → (Holds drum₀ c.args.drum.now c.args.marks.now m.cells)
    → (c.reckon.result ≡ reckoned_by c.args.k (word_at m.cells c.args.a) (word_at m.cells c.args.b))
of_cells c drum₀ m h =
    c.reckon.ensures ∙ ap₂ (reckoned_by c.args.k) (first_is c drum₀ m h) (second_is c drum₀ m h)

-- the loss is that of the machine's words, and the switch that of its inputs
stops_as : (i : Inputs) (t : Switches) (k : Reckoning) {x y x' y' : ℕ} (w : ℕ) → i.switches ≡ t → i.requests ≡ present → x ≡ x' → y ≡ y'
    → resulted (both t.stop (ltb 2 (loss_by k x y (Ok w)))) w ≡ resulted (stops_at i (loss_by k x' y' (Ok w))) w
stops_as i t k w e f g h = rw (e, f, sym g, sym h)

pub store_result-requires : goal.store_result-requires
store_result-requires c =
    (c.requires.0, c.requires.1, fits_word c.reckon.result c.in_ok-w.w c.in_ok-w.was (subst Fits (sym c.reckon.ensures) (reckoned_fits c.args.k c.word-x.result c.word-y.result)))

pub returns : goal.returns
returns c =
    let a = c.args in
    let s = c.store_result in
    λ i e f drum₀ out₀ out m h.
    subst (λ (z : Reckoned). Did drum₀ out₀ s.new.drum s.new.marks out s.new.desk c.outcome_of-o.result
    (reckoned (stops_at i (loss_by a.k (word_at m.cells a.a) (word_at m.cells a.b) z)) m a.c z))
    (sym c.in_ok-w.was ∙ of_cells (goal.at.returns c).After-reckon drum₀ m h.memory)
    (record {
      outcome_is = c.outcome_of-o.ensures ∙ stops_as i a.switches a.k _ e f (first_is (goal.at.returns c).After-reckon drum₀ m h.memory) (second_is (goal.at.returns c).After-reckon drum₀ m h.memory);
      shows = (s.ensures drum₀ out₀ out m h).shows;
    })

pub returns-in_err-w : goal.returns-in_err-w
returns-in_err-w c =
    λ i e f drum₀ out₀ out m h.
    let a = c.args in
    let why = c.in_err-w.field-0.0 in
    rw (refused_as c.from_residual.result c.from_residual.ensures.1)
    (subst (λ (z : Reckoned). Did drum₀ out₀ a.drum.now a.marks.now out a.desk.now (Err why)
    (reckoned (stops_at i (loss_by a.k (word_at m.cells a.a) (word_at m.cells a.b) z)) m a.c z))
    (sym c.in_err-w.was ∙ of_cells (goal.at.returns-in_err-w c).After-reckon drum₀ m h.memory) (stays h (Err why)))
