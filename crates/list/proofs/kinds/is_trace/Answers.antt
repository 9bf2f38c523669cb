-- `list::kinds::is_trace` meets its contract: its tests are those of the definition. Assumes nothing.
use mathlib.Core.Path.{◌≡◌, sym, ap, ◌∙◌}
use mathlib.Core.Bool.{false}
use Prim.Native.Nat.{ℕ}
use borrow.Author.Tests.{lt-leb, le-leb}
use lib.Dec.{eqb}
use Rattle.rules.proofs.Tests.{false_true}
use Rattle.list.specs.Listing.{is_trace}
use Rattle.list.proofs.kinds.is_trace.Goals as goal
use Rattle.list.proofs.kinds.is_trace.Goals.{then-rest-ge77, else-rest-ge77}

pub returns-then-rest-eq88 : goal.returns-then-rest-eq88
unfolding is_trace
returns-then-rest-eq88 c =
    elim c.if-rest-ge77.branch [
      | then-rest-ge77 w ↦
          simp (le-leb 77 _ w.if-rest-ge77.true, sym w.value-is ∙ c.if-rest-eq88.true) (ap (λ (k : ℕ). eqb k 77) c.first_bad.ensures)
      | else-rest-ge77 w ↦ false_true (sym (lt-leb 77 _ w.if-rest-ge77.false) ∙ sym w.value-is ∙ c.if-rest-eq88.true)
    ]

pub returns-else-rest-eq88 : goal.returns-else-rest-eq88
unfolding is_trace
returns-else-rest-eq88 c =
    let no : false ≡ is_trace c.args.rest.now =
    elim c.if-rest-ge77.branch [
      | then-rest-ge77 w ↦ simp (le-leb 77 _ w.if-rest-ge77.true, sym w.value-is ∙ c.if-rest-eq88.false)
      | else-rest-ge77 w ↦ simp (lt-leb 77 _ w.if-rest-ge77.false)
    ] in
    c.if-rest-eq88.false ∙ no
