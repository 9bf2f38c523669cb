-- `number::steps::even_root_by_steps` meets its contract: the root of the whole, cut to the digits above the even power, is the root of n
-- cut, and has eight digits, rounded too. Assumes nothing.
use Prim.Native.Nat.{ℕ, ◌≤◌}
use mathlib.Core.Path.{sym, ap, ◌∙◌}
use native.Mathlib.Omega.{arith}
use Rattle.rules.specs.Rounding.{single, placed}
use Rattle.rules.specs.Arithmetic.{word_of}
use Rattle.number.proofs.Sizes.{Halves, halves, root_least, root_most, root_is}
use Rattle.number.proofs.Units.{eight_already}
use Rattle.number.proofs.steps.even_root_by_steps.Goals as goal
use Rattle.number.proofs.steps.even_root_by_steps.Goals.{After-nearest_root}

found : (c : After-nearest_root) → Halves c.args.n c.nearest_root.result
found c = halves c.args.n c.nearest_root.result c.nearest_root.ensures

most : (c : After-nearest_root) → (found c).root ≤ 199999998
most c = root_most c.args.n (found c).root c.requires.0 c.requires.1 (found c).cut

pub returns : goal.returns
returns c =
    let n : ℕ = c.args.n in
    let j : ℕ = c.args.j in
    let f : Halves n c.nearest_root.result = found (goal.at.returns c).After-nearest_root in
    c.judged.ensures
    ∙ sym
    (ap word_of
    (eight_already f.root 0 j _ (root_least n f.root c.requires.0 c.requires.1 f.cut) (omega (arith, most (goal.at.returns c).After-nearest_root)) (root_is n f.root c.requires.0 c.requires.1 f.cut j c.requires.4)
    ∙ ap (λ (t : ℕ). placed single 0 t j) f.half))
