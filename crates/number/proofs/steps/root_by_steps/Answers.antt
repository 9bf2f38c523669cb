-- `number::steps::root_by_steps` meets its contract: seven or eight places moved up leave an even power of ten. Assumes nothing.
use Rattle.std.proofs.Common.{Ok}
use Prim.Native.Nat.{ℕ, zero, suc, ◌+◌, ◌-◌, ◌*◌, ◌/◌, ◌%◌, ◌^◌, ◌≤◌, ◌<◌}
use mathlib.Core.Path.{◌≡◌, refl, sym, ap, subst, ◌∙◌}
use mathlib.Core.Logic.{inl, inr}
use native.Mathlib.Nat.{lt_of_not-le}
use native.Mathlib.Decide.{dec_le}
use native.Mathlib.Omega.{arith}
use Rattle.rules.specs.Words.{leading_in, exponent_in}
use Rattle.rules.specs.Rounding.{single, settled, grown, root_below, root_halves, root_of}
use Rattle.rules.specs.Arithmetic.{value_in, word_of}
use Rattle.rules.proofs.Roots.{no_larger}
use Rattle.rules.proofs.Words.{Full, number_full}
use Rattle.number.specs.Steps.{Chosen, OneMore}
use Rattle.number.proofs.Sizes.{moved}
use Rattle.number.proofs.steps.root_by_steps.Goals as goal
use Rattle.number.proofs.steps.root_by_steps.Goals.{Else-b-eq0}

-- the digits of b, moved up by i places
moved_up : (b i j : ℕ) → b < 10 ^ 10 → exponent_in b + 57 + 200 ≡ i + (j + j) → word_of (settled single 0 (root_halves single (b / 100 * 10 ^ i * 10 ^ (j + j)))) ≡ word_of (root_of single (value_in b))
unfolding root_of
moved_up b i j plus even =
    let l : b / 100 ≡ leading_in b = omega arith in
    ap (λ (n : ℕ). word_of (settled single 0 (root_halves single n)))
    (ap (λ (m : ℕ). m * 10 ^ i * 10 ^ (j + j)) l ∙ moved (leading_in b) (exponent_in b) i j even)

digits : (c : Else-b-eq0) → Full c.args.b
digits c = number_full c.args.b c.requires.0 c.if-b-eq0.false

-- the digits moved up, and the scale
module _ (b : ℕ) where
  abbrev raised : ℕ
  raised = b / 100 * 10000000 * (1 + 9 * (b % 2))

  even_unit : b % 2 ≡ 0 → raised ≡ b / 100 * 10 ^ 7
  even_unit even = ap (λ (t : ℕ). b / 100 * 10000000 * (1 + 9 * t)) even ∙ omega arith

  odd_unit : b % 2 ≡ 1 → raised ≡ b / 100 * 10 ^ 8
  odd_unit odd = ap (λ (t : ℕ). b / 100 * 10000000 * (1 + 9 * t)) odd ∙ omega arith

  -- It is the same root.
  same_root : b < 10 ^ 10 → word_of (settled single 0 (root_halves single (raised * 10 ^ ((b % 100 + 250) / 2 + (b % 100 + 250) / 2)))) ≡ word_of (root_of single (value_in b))
  same_root plus = either (dec_le (b % 2) 0)
    where
      either : Dec (b % 2 ≤ 0) → word_of (settled single 0 (root_halves single (raised * 10 ^ ((b % 100 + 250) / 2 + (b % 100 + 250) / 2)))) ≡ word_of (root_of single (value_in b))
      either (yes l) =
          ap (λ (n : ℕ). word_of (settled single 0 (root_halves single (n * 10 ^ ((b % 100 + 250) / 2 + (b % 100 + 250) / 2))))) (even_unit (omega arith))
          ∙ moved_up b 7 ((b % 100 + 250) / 2) plus (omega arith)
      either (no g) =
          ap (λ (n : ℕ). word_of (settled single 0 (root_halves single (n * 10 ^ ((b % 100 + 250) / 2 + (b % 100 + 250) / 2))))) (odd_unit (omega (arith, lt_of_not-le g)))
          ∙ moved_up b 8 ((b % 100 + 250) / 2) plus (omega (arith, lt_of_not-le g))

  chosen : Chosen b raised (14894620 - b % 2 * 10184528)
  chosen = either (dec_le (b % 2) 0)
    where
      either : Dec (b % 2 ≤ 0) → Chosen b raised (14894620 - b % 2 * 10184528)
      either (yes l) = inl (omega arith, even_unit (omega arith), omega arith)
      either (no g) =
          let odd : b % 2 ≡ 1 = omega (arith, lt_of_not-le g) in
          inr (odd, odd_unit odd, omega arith)

-- What was found is the root of sixteen digits at most, or little more.
found_fits : (n r : ℕ) → n ≤ 10 ^ 16 → OneMore n r → r ≤ 2000000000
found_fits n zero few w = omega arith
found_fits n (suc zero) few w = omega arith
found_fits n (suc (suc k)) few w = omega (arith, no_larger n k 100000000 (omega (arith, w.over)) (omega arith))

raised_fits : (b : ℕ) → 10 ^ 9 ≤ b → b < 10 ^ 10 → (10 ^ 14 ≤ raised b) × (raised b ≤ 9999999900000000)
raised_fits b least few = either (dec_le (b % 2) 0)
  where
    either : Dec (b % 2 ≤ 0) → (10 ^ 14 ≤ raised b) × (raised b ≤ 9999999900000000)
    either (yes l) =
        let is : raised b ≡ b / 100 * 10 ^ 7 = even_unit b (omega arith) in
        (omega (arith, is), omega (arith, is))
    either (no g) =
        let is : raised b ≡ b / 100 * 10 ^ 8 = odd_unit b (omega (arith, lt_of_not-le g)) in
        (omega (arith, is), omega (arith, is))

least : (c : Else-b-eq0) → 10 ^ 9 ≤ c.args.b
least c = omega (arith, (digits c).leading)

pub returns-then-b-eq0 : goal.returns-then-b-eq0
unfolding root_of settled root_below grown
returns-then-b-eq0 c = subst (λ (b : ℕ). Ok 0 ≡ word_of (root_of single (value_in b))) (sym c.if-b-eq0.true) refl

pub stepped-guess-requires : goal.stepped-guess-requires
stepped-guess-requires c = (least (goal.at.stepped-guess-requires c).Else-b-eq0, c.requires.1, chosen c.args.b)

pub even_root_by_steps-requires : goal.even_root_by_steps-requires
even_root_by_steps-requires c =
    let f = raised_fits c.args.b (least (goal.at.even_root_by_steps-requires c).Else-b-eq0) c.requires.1 in
    (f.0, f.1, c.stepped-guess.ensures.some, found_fits (raised c.args.b) c.stepped-guess.result (omega (arith, f.1)) c.stepped-guess.ensures, omega arith)

pub returns : goal.returns
returns c = c.even_root_by_steps.ensures ∙ same_root c.args.b c.requires.1
