-- `machine::sums::as_done` meets its contract: the box is added to an order with minus alone. Assumes nothing.
use Prim.Native.Nat.{ℕ, ◌+◌, ◌≤◌}
use mathlib.Core.Path.{◌≡◌, sym, ap, subst, ◌∙◌}
use borrow.Author.Rules.{rules}
use Rattle.rules.specs.Running.{as_done}
use Rattle.machine.proofs.Boxes.{done_word}
use Rattle.machine.proofs.sums.as_done.Goals as goal

pub returns-then-is_minus : goal.returns-then-is_minus
returns-then-is_minus c =
    let w : ℕ = c.args.w in
    let e : w + c.box_word.result ≡ as_done c.args.desk.now.state w =
    simp (sym c.is_minus.ensures ∙ c.if-is_minus.true) (ap (λ (n : ℕ). w + n) c.box_word.ensures.0) in
    (e, subst (λ (n : ℕ). n ≤ 19999999999) (sym e) (done_word c.args.desk.now.state w c.requires.0 c.requires.1))

pub returns-else-is_minus : goal.returns-else-is_minus
returns-else-is_minus c = (simp (sym c.is_minus.ensures ∙ c.if-is_minus.false), search rules)
