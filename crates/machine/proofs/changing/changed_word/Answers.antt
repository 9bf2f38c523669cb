-- `machine::changing::changed_word`: what is taken out and put in is within the word, and a sum is judged by its digits. Assumes nothing.
use mathlib.Core.Path.{ap, ◌∙◌}
use Prim.Native.Nat.{ℕ, ◌*◌, ◌≤◌}
use native.Mathlib.Omega.{arith}
use Rattle.rules.specs.Orders.{raised_by, lowered_by}
use Rattle.machine.proofs.Changes.{shifted_small, taken_small, raised_past, raised_held, lowered_past, lowered_held}
use Rattle.machine.proofs.changing.changed_word.Goals as goal
use Rattle.machine.proofs.changing.changed_word.Goals.{After-address_in-old, After-worth_of-worth}

-- the shifted C, and the address that SET takes out
shifted_c : (c : After-worth_of-worth) → (c.args.c * c.worth_of-worth.result ≤ 999000000)
shifted_c c =
    shifted_small c.args.x c.args.c c.worth_of-worth.ensures c.requires.1

taken : (c : After-address_in-old)
    → (let part : ℕ = c.address_in-old.result * c.worth_of-worth.result in (part ≤ c.args.w) × (part ≤ 999000000))
taken c =
    taken_small c.args.x c.args.w c.address_in-old.ensures c.worth_of-worth.ensures

pub overflow_mul-n : goal.overflow_mul-n
overflow_mul-n c = record { fits = omega (arith, shifted_c (goal.at.overflow_mul-n c).After-worth_of-worth) }

pub overflow_mul-part : goal.overflow_mul-part
overflow_mul-part c = record { fits = omega (arith, (taken (goal.at.overflow_mul-part c).After-address_in-old).1) }

pub overflow_sub-put : goal.overflow_sub-put
overflow_sub-put c = (taken (goal.at.overflow_sub-put c).After-address_in-old).0

pub overflow_add-put : goal.overflow_add-put
overflow_add-put c =
    record { fits = omega (arith, c.requires.0, shifted_c (goal.at.overflow_add-put c).After-worth_of-worth) }

pub overflow_add-sum : goal.overflow_add-sum
overflow_add-sum c = record { fits = omega (arith, shifted_c (goal.at.overflow_add-sum c).After-worth_of-worth) }

pub returns-then-sum-gt9999999999 : goal.returns-then-sum-gt9999999999
returns-then-sum-gt9999999999 c =
    let a = c.args in
    rw c.in-AddTo.is
    (raised_past a.w (a.c * c.worth_of-worth.result) c.if-sum-gt9999999999.true ∙ ap (λ (z : ℕ). raised_by a.w (a.c * z)) c.worth_of-worth.ensures)

pub overflow_add-more : goal.overflow_add-more
overflow_add-more c =
    record { fits = omega (arith, c.requires.0, shifted_c (goal.at.overflow_add-more c).After-worth_of-worth) }

pub returns-then-digits-n : goal.returns-then-digits-n
returns-then-digits-n c =
    let a = c.args in
    rw c.in-SubFrom.is
    (lowered_past a.w (a.c * c.worth_of-worth.result) c.if-digits-n.true ∙ ap (λ (z : ℕ). lowered_by a.w (a.c * z)) c.worth_of-worth.ensures)

pub overflow_sub-less : goal.overflow_sub-less
overflow_sub-less c = omega (arith, c.if-digits-n.false)

pub returns-in-SetTo : goal.returns-in-SetTo
returns-in-SetTo c = rw (c.in-SetTo.is, c.address_in-old.ensures, c.worth_of-worth.ensures)

pub returns-else-sum-gt9999999999 : goal.returns-else-sum-gt9999999999
returns-else-sum-gt9999999999 c =
    let a = c.args in
    rw c.in-AddTo.is
    (raised_held a.w (a.c * c.worth_of-worth.result) (omega (arith, c.if-sum-gt9999999999.false)) ∙ ap (λ (z : ℕ). raised_by a.w (a.c * z)) c.worth_of-worth.ensures)

pub returns-else-digits-n : goal.returns-else-digits-n
returns-else-digits-n c =
    let a = c.args in
    rw c.in-SubFrom.is
    (lowered_held a.w (a.c * c.worth_of-worth.result) (omega (arith, c.if-digits-n.false)) ∙ ap (λ (z : ℕ). lowered_by a.w (a.c * z)) c.worth_of-worth.ensures)
