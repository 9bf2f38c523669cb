-- `machine::going::go`: each stop or transfer goes where the rules go. Assumes nothing.
use Rattle.std.proofs.Common.{Ok}
use mathlib.Core.Path.{ap, ap₂, ◌∙◌}
use Prim.Native.Nat.{ℕ, ◌+◌}
use lib.Dec.{leb}
use Rattle.rules.specs.Words.{pick, exponent_in}
use Rattle.rules.specs.Orders.{is_negative, gone}
use Rattle.rules.specs.declared.Stop.TheVariants.{Unconditional, Conditional}
use Rattle.rules.specs.declared.Done.TheVariants.{GoesOn, Stops}
use Rattle.machine.proofs.Shown.{word_is, location_is, went, went_as, went_on}
use Rattle.machine.proofs.going.go.Goals as goal

pub returns-in-UncStop : goal.returns-in-UncStop
unfolding gone
returns-in-UncStop c =
    λ i e drum₀ out₀ out m h.
    rw c.in-UncStop.is
    (record { outcome_is = ap (λ (w : ℕ). Ok (Stops Unconditional w)) (word_is h.memory c.args.b c.word-w.ensures); shows = h })

pub returns-then-switches : goal.returns-then-switches
unfolding gone
returns-then-switches c =
    λ i e drum₀ out₀ out m h.
    rw (c.in-CondStop.is, e, c.if-switches.true)
    (record { outcome_is = ap (λ (w : ℕ). Ok (Stops Conditional w)) (word_is h.memory c.args.b c.word-w-in-CondStop.ensures); shows = (went h (Ok GoesOn) c.args.c c.go_to.ensures).shows })

pub returns-else-switches : goal.returns-else-switches
unfolding gone
returns-else-switches c =
    λ i e drum₀ out₀ out m h.
    rw (c.in-CondStop.is, e, c.if-switches.false) (went h (Ok GoesOn) c.args.c c.go_to.ensures)

pub returns-in-TrSgn : goal.returns-in-TrSgn
unfolding gone
returns-in-TrSgn c =
    λ i e drum₀ out₀ out m h.
    let a = c.args in
    rw c.in-TrSgn.is
    (went_as h (Ok GoesOn) (c.sign_target-l.ensures ∙ ap (λ (w : ℕ). pick (is_negative w) a.c a.b) (word_is h.memory 0 c.word-w-in-TrSgn.ensures))
    c.go_to-in-TrSgn.ensures)

pub returns-in-TrExp : goal.returns-in-TrExp
unfolding gone
returns-in-TrExp c =
    λ i e drum₀ out₀ out m h.
    let a = c.args in
    rw c.in-TrExp.is
    (went_as h (Ok GoesOn)
    (c.exponent_target-l.ensures
    ∙ ap₂ (λ (w l : ℕ). pick (leb a.b (exponent_in w)) a.c (l + 1)) (word_is h.memory 0 c.word-w-in-TrExp.ensures) (location_is h))
    c.go_to-in-TrExp.ensures)

pub returns-in-Tr : goal.returns-in-Tr
unfolding gone
returns-in-Tr c =
    λ i e drum₀ out₀ out m h.
    rw c.in-Tr.is (went h (Ok GoesOn) c.args.c c.go_to-in-Tr.ensures)

pub returns-in-TrSubr : goal.returns-in-TrSubr
unfolding gone
returns-in-TrSubr c =
    λ i e drum₀ out₀ out m h.
    rw c.in-TrSubr.is (c.link.ensures drum₀ out₀ out m h)

pub returns-in-Noop : goal.returns-in-Noop
unfolding gone
returns-in-Noop c =
    λ i e drum₀ out₀ out m h.
    rw c.in-Noop.is (went_on h c.go_on.ensures)
