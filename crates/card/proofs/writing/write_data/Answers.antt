-- `card::write_data` meets its contract: it is refused for a field or for the room, or all of it is written. Assumes nothing.
use mathlib.Core.Bool.{true}
use mathlib.Core.Path.{◌≡◌, sym, ap, ◌∙◌}
use Prim.Native.Nat.{ℕ, ◌+◌, ◌*◌, ◌≤◌}
use native.Mathlib.Omega.{arith}
use borrow.Author.Tests.{not-true, not-false}
use lib.ListN.{length, take}
use lib.Seq.{length-take-le}
use Rattle.rules.specs.Cards.{data_card}
use Rattle.rules.proofs.Fields.{length_data}
use Rattle.card.specs.Written.{data_may}
use Rattle.card.proofs.Writes.{may_is, out_of_range, no_room, whole_card_lem}
use Rattle.card.proofs.writing.write_data.Goals as goal
use Rattle.card.proofs.writing.write_data.Goals.{Else-not-data_may, Start}

five : (c : Start) → length c.args.words ≡ 5
five c = omega (arith, c.well_formed)

-- what is known of a card that may be written: its words, and how long it is
may : (c : Else-not-data_may)
    → let a = c.args in
    data_may a.number a.location a.words a.n a.problem ≡ true
may c = sym c.data_may.ensures ∙ not-false _ c.if-not-data_may.false-raw

few : (c : Else-not-data_may) → c.args.n ≤ 5
few c =
    let a = c.args in
    (may_is a.number a.location a.words a.n a.problem (may c)).few

taken : (c : Else-not-data_may) → length (take c.args.n c.args.words) ≡ c.args.n
taken c = length-take-le _ _ (omega (arith, few c, c.well_formed))

size : (c : Else-not-data_may)
    → let a = c.args in
    length (data_card a.number a.location (take a.n a.words) a.problem) ≡ 11 + 11 * a.n
size c = length_data _ _ _ _ ∙ ap (λ (k : ℕ). 11 + 11 * k) (taken c)

pub returns-then-not-data_may : goal.returns-then-not-data_may
returns-then-not-data_may c = out_of_range _ _ _ (sym c.data_may.ensures ∙ not-true _ c.if-not-data_may.true-raw)

pub overflow_mul-n : goal.overflow_mul-n
overflow_mul-n c = omega (arith, few (goal.at.overflow_mul-n c).Else-not-data_may)

pub overflow_add-n : goal.overflow_add-n
overflow_add-n c = omega (arith, few (goal.at.overflow_add-n c).Else-not-data_may)

pub returns-then-out-n : goal.returns-then-out-n
returns-then-out-n c = no_room _ _ _ (omega (arith, c.if-out-n.true, size (goal.at.returns-then-out-n c).Else-not-data_may))

pub overflow_cast-n : goal.overflow_cast-n
overflow_cast-n c = omega (arith, few (goal.at.overflow_cast-n c).Else-not-data_may)

pub overflow_add-n-2 : goal.overflow_add-n-2
overflow_add-n-2 c = omega (arith, few (goal.at.overflow_add-n-2 c).Else-not-data_may)

pub put_card-requires : goal.put_card-requires
put_card-requires c =
    omega (arith, taken (goal.at.put_card-requires c).Else-not-data_may, c.if-out-n.false)

pub returns : goal.returns
unfolding data_card
returns c =
    whole_card_lem _ _ _ _ (may (goal.at.returns c).Else-not-data_may) (omega (arith, c.if-out-n.false, size (goal.at.returns c).Else-not-data_may)) (rw (taken (goal.at.returns c).Else-not-data_may) c.put_card.ensures)
