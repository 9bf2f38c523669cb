-- `list::kinds::is_stop` meets its contract: its tests are those of the definition. Assumes nothing.
use mathlib.Core.Path.{◌≡◌, sym, ap, ◌∙◌}
use mathlib.Core.Bool.{false}
use Prim.Native.Nat.{ℕ}
use borrow.Author.Tests.{lt-leb, le-leb}
use lib.Dec.{eqb}
use Rattle.rules.proofs.Tests.{false_true}
use Rattle.list.specs.Listing.{is_stop}
use Rattle.list.proofs.kinds.is_stop.Goals as goal
use Rattle.list.proofs.kinds.is_stop.Goals.{then-rest-ge24, else-rest-ge24}

pub returns-then-rest-eq90 : goal.returns-then-rest-eq90
unfolding is_stop
returns-then-rest-eq90 c =
    elim c.if-rest-ge24.branch [
      | then-rest-ge24 w ↦
          simp (le-leb 24 _ w.if-rest-ge24.true, sym w.value-is ∙ c.if-rest-eq90.true) (ap (λ (k : ℕ). eqb k 24) c.stop_bad.ensures)
      | else-rest-ge24 w ↦ false_true (sym (lt-leb 24 _ w.if-rest-ge24.false) ∙ sym w.value-is ∙ c.if-rest-eq90.true)
    ]

pub returns-else-rest-eq90 : goal.returns-else-rest-eq90
unfolding is_stop
returns-else-rest-eq90 c =
    let no : false ≡ is_stop c.args.rest.now =
    elim c.if-rest-ge24.branch [
      | then-rest-ge24 w ↦ simp (le-leb 24 _ w.if-rest-ge24.true, sym w.value-is ∙ c.if-rest-eq90.false)
      | else-rest-ge24 w ↦ simp (lt-leb 24 _ w.if-rest-ge24.false)
    ] in
    c.if-rest-eq90.false ∙ no
