-- `machine::changing::change`: the word at b is changed as the rules change it, and stored; or it is refused, and all stays. Assumes nothing.
use Rattle.std.proofs.Common.{Err, Ok}
use mathlib.Core.Path.{◌≡◌, refl, sym, ap, subst, ◌∙◌}
use native.Mathlib.Omega.{arith}
use Prim.Native.Nat.{ℕ, ◌≤◌}
use mathlib.Core.List.{List}
use Rattle.rules.specs.Drum.{word_at}
use Rattle.rules.specs.Machine.{Machine}
use Rattle.rules.specs.Orders.{carried, changed}
use Rattle.rules.specs.Answers.{Reckoned}
use Rattle.rules.specs.declared.Done.TheVariants.{GoesOn}
use Rattle.rules.proofs.Results.{Fits}
use Rattle.rules.proofs.Changes.{carried_fits}
use Rattle.drum.specs.Held.{Holds}
use Rattle.machine.specs.Lent.{Did}
use Rattle.machine.proofs.Refusals.{refused_as}
use Rattle.machine.proofs.Shown.{word_is, stays}
use Rattle.machine.proofs.Stores.{fits_word, stored_on}
use borrow.Author.Rules.{rules}
use Rattle.machine.proofs.changing.change.Goals as goal
use Rattle.machine.proofs.changing.change.Goals.{After-changed_word, After-word-w}

-- the word at b is a word, and is the machine's
is_word : (c : After-word-w) → c.word-w.result ≤ 19999999999
is_word c =
    rw c.word-w.ensures (c.requires.0 c.args.b)

of_cells : (c : After-changed_word) (drum₀ : List ℕ) (m : Machine)
    → (Holds drum₀ c.args.drum.now c.args.marks.now m.cells)
    → (c.changed_word.result ≡ carried c.args.k c.args.x (word_at m.cells c.args.b) c.args.c)
of_cells c drum₀ m h =
    let a = c.args in
    c.changed_word.ensures ∙ ap (λ (w : ℕ). carried a.k a.x w a.c) (word_is h a.b c.word-w.ensures)

pub changed_word-requires : goal.changed_word-requires
changed_word-requires c = (is_word (goal.at.changed_word-requires c).After-word-w, search rules)

pub returns-in_err-y : goal.returns-in_err-y
returns-in_err-y c =
    λ drum₀ out₀ out m h.
    let a = c.args in
    let r = c.from_residual.result in
    rw (refused_as r c.from_residual.ensures.1)
    (subst (λ (z : Reckoned). Did drum₀ out₀ a.drum.now a.marks.now out a.desk.now (Err c.in_err-y.field-0.0) (changed m a.b z))
    (sym c.in_err-y.was ∙ of_cells (goal.at.returns-in_err-y c).After-changed_word drum₀ m h.memory) (stays h (Err c.in_err-y.field-0.0)))

pub returns : goal.returns
returns c =
    λ drum₀ out₀ out m h.
    let a = c.args in
    let fits : Fits c.changed_word.result =
    rw c.changed_word.ensures (carried_fits a.k a.x c.word-w.result a.c (is_word (goal.at.returns c).After-word-w) (omega (arith, c.requires.3))) in
    subst (λ (z : Reckoned). Did drum₀ out₀ c.keep.new.drum c.keep.new.marks out c.go_on.new.self (Ok GoesOn) (changed m a.b z)) (sym c.in_ok-y.was ∙ of_cells (goal.at.returns c).After-changed_word drum₀ m h.memory)
    (stored_on h a.b c.requires.2 (fits_word c.changed_word.result c.in_ok-y.y c.in_ok-y.was fits) refl c.keep.ensures c.go_on.ensures)
