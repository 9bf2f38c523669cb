-- `number::roots::even_root` meets its contract: the root of the whole, cut to the digits above the even power, is the root of n cut, and
-- has eight digits, rounded too. Assumes nothing.
use Prim.Native.Nat.{ℕ, ◌≤◌}
use mathlib.Core.Path.{sym, ap, ◌∙◌}
use native.Mathlib.Omega.{arith}
use Rattle.rules.specs.Arithmetic.{word_of}
use Rattle.number.proofs.Sizes.{root_least, root_most, root_is}
use Rattle.number.proofs.Units.{eight_already}
use Rattle.number.proofs.roots.even_root.Goals as goal
use Rattle.number.proofs.roots.even_root.Goals.{After-root_below}

most : (c : After-root_below) → c.root_below.result ≤ 199999998
most c = root_most c.args.n c.root_below.result c.requires.0 c.requires.1 c.root_below.ensures

pub returns : goal.returns
returns c =
    let n : ℕ = c.args.n in
    let h : ℕ = c.root_below.result in
    c.judged.ensures
    ∙ sym
    (ap word_of
    (eight_already h 0 c.args.j _ (root_least n h c.requires.0 c.requires.1 c.root_below.ensures) (omega (arith, most (goal.at.returns c).After-root_below)) (root_is n h c.requires.0 c.requires.1 c.root_below.ensures c.args.j c.requires.3)))
