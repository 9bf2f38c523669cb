-- `number::roots::root` meets its contract: seven or eight places moved up leave an even power of ten. Assumes nothing.
use Rattle.std.proofs.Common.{Ok}
use Prim.Native.Nat.{ℕ, ◌+◌, ◌*◌, ◌/◌, ◌^◌, ◌<◌}
use mathlib.Core.Path.{◌≡◌, refl, sym, ap, subst, ◌∙◌}
use native.Mathlib.Omega.{arith}
use Rattle.rules.specs.Words.{leading_in, exponent_in}
use Rattle.rules.specs.Rounding.{single, settled, grown, root_below, root_halves, root_of}
use Rattle.rules.specs.Arithmetic.{value_in, word_of}
use Rattle.rules.proofs.Words.{Full, number_full}
use Rattle.number.proofs.Sizes.{moved}
use Rattle.number.proofs.roots.root.Goals as goal
use Rattle.number.proofs.roots.root.Goals.{Else-b-eq0}

-- the digits of b, moved up by i places
raised : (b i j : ℕ) → b < 10 ^ 10 → exponent_in b + 57 + 200 ≡ i + (j + j) → word_of (settled single 0 (root_halves single (b / 100 * 10 ^ i * 10 ^ (j + j)))) ≡ word_of (root_of single (value_in b))
unfolding root_of
raised b i j plus even =
    let l : b / 100 ≡ leading_in b = omega arith in
    ap (λ (n : ℕ). word_of (settled single 0 (root_halves single n)))
    (ap (λ (m : ℕ). m * 10 ^ i * 10 ^ (j + j)) l ∙ moved (leading_in b) (exponent_in b) i j even)

digits : (c : Else-b-eq0) → Full c.args.b
digits c = number_full c.args.b c.requires.0 c.if-b-eq0.false

pub returns-then-b-eq0 : goal.returns-then-b-eq0
unfolding root_of settled root_below grown
returns-then-b-eq0 c = subst (λ (b : ℕ). Ok 0 ≡ word_of (root_of single (value_in b))) (sym c.if-b-eq0.true) refl

pub near_root-guess-requires : goal.near_root-guess-requires
near_root-guess-requires c = omega (arith, (digits (goal.at.near_root-guess-requires c).Else-b-eq0).leading)

pub even_root-requires : goal.even_root-requires
even_root-requires c = omega (arith, (digits (goal.at.even_root-requires c).Else-b-eq0).leading, c.near_root-guess.ensures)

pub returns-then-x-eq0 : goal.returns-then-x-eq0
returns-then-x-eq0 c =
    let b : ℕ = c.args.b in
    c.even_root.ensures ∙ raised b 7 ((exponent_in b + 250) / 2) c.requires.1 (omega (arith, c.if-x-eq0.true))

pub near_root-guess-requires-2 : goal.near_root-guess-requires-2
near_root-guess-requires-2 c = omega (arith, (digits (goal.at.near_root-guess-requires-2 c).Else-b-eq0).leading)

pub even_root-requires-2 : goal.even_root-requires-2
even_root-requires-2 c = omega (arith, (digits (goal.at.even_root-requires-2 c).Else-b-eq0).leading, c.near_root-guess-2.ensures)

pub returns : goal.returns
returns c =
    let b : ℕ = c.args.b in
    c.even_root-2.ensures ∙ raised b 8 ((exponent_in b + 249) / 2) c.requires.1 (omega (arith, c.if-x-eq0.false))
