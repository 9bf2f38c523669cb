use Prim.Native.Nat.{ℕ, ◌%◌}
use mathlib.Core.Path.{◌≡◌, sym, ◌∙◌}
use native.Mathlib.Omega.{arith}
use Rattle.rules.specs.Words.{a_in, b_in, c_in}
use Rattle.machine.proofs.Orders.{placed, passed, obey_not_built, obey_refused, obey_done}
use mathlib.Core.Path.{subst}
use lib.Dec.{eqb}
use Rattle.rules.specs.Codes.{codes, lookup}
use Rattle.rules.specs.Drum.{view}
use Rattle.rules.specs.Machine.{Answer}
use Rattle.rules.specs.Orders.{performed}
use Rattle.rules.specs.Running.{code_done}
use Rattle.rules.specs.declared.Class.{Class}
use Rattle.machine.specs.Lent.{Did}
use Rattle.machine.proofs.Orders.{found_at, for_mode}
use Rattle.machine.proofs.Refusals.{refused_as}
use Rattle.machine.proofs.obeying.obey.Goals as goal
use Rattle.machine.proofs.obeying.obey.Goals.{After-built_at, After-parts_of-key}

-- what is found in the index
found : (c : After-built_at) → (c.built_at.result ≡ lookup (code_done (eqb (c.args.desk.now.state.mode) 1) c.args.w) codes)
found c =
    found_at c.args.w c.requires.indexed c.parts_of-key.ensures.key_is c.slot_of-slot.ensures c.built_at.ensures

-- the checks, by the word's own addresses
at_parts : (c : After-parts_of-key) (k : Class)
    → (placed k (view c.args.drum.now c.args.marks.now) (c.parts_of-key.result.key % 1000) c.parts_of-key.result.b c.parts_of-key.result.c
    ≡ placed k (view c.args.drum.now c.args.marks.now) (a_in c.args.w) (b_in c.args.w) (c_in c.args.w))
at_parts c k =
    let p = c.parts_of-key.ensures in
    (λ j. placed k (view c.args.drum.now c.args.marks.now) (p.key_is j % 1000) (p.b_is j) (p.c_is j))

pub returns-in_default : goal.returns-in_default
returns-in_default c =
    λ i l drum₀ out₀ m e h.
    obey_not_built h i c.args.w (for_mode h i c.args.w (sym c.in_default.is ∙ found (goal.at.returns-in_default c).After-built_at))

pub perform-requires : goal.perform-requires
perform-requires c =
    let p = c.parts_of-key.ensures in
    let w : ℕ = c.args.w in record {
      ready = (c.requires.ready.0, c.requires.ready.1);
      order_allowed = (
        rw p.b_is (omega arith),
        rw p.c_is (omega arith),
        passed _ c.in-Some.o c.in-Some.k _ _ _ _ (sym c.in-Some.is ∙ found (goal.at.perform-requires c).After-built_at) (sym c.check.ensures ∙ c.in_ok-check.was),
      );
    }

pub returns-in_err-check : goal.returns-in_err-check
returns-in_err-check c =
    λ i l drum₀ out₀ m e h.
    rw (refused_as c.from_residual.result c.from_residual.ensures.1)
    (obey_refused h i c.args.w c.in-Some.o c.in-Some.k (for_mode h i c.args.w (sym c.in-Some.is ∙ found (goal.at.returns-in_err-check c).After-built_at)) c.in_err-check.field-0.0
    (sym c.in_err-check.was ∙ c.check.ensures ∙ at_parts (goal.at.returns-in_err-check c).After-parts_of-key c.in-Some.k))

pub returns : goal.returns
returns c =
    λ i l drum₀ out₀ m e h.
    let p = c.parts_of-key.ensures in
    let o = c.in-Some.o in
    let r = c.perform in
    obey_done h i c.args.w o c.in-Some.k (for_mode h i c.args.w (sym c.in-Some.is ∙ found (goal.at.returns c).After-built_at))
    (sym c.in_ok-check.was ∙ c.check.ensures ∙ at_parts (goal.at.returns c).After-parts_of-key c.in-Some.k)
    (subst (λ (y : Answer). Did drum₀ out₀ r.new.drum r.new.marks r.new.out r.new.desk r.result y)
    (λ j. performed i m o (p.key_is j % 1000) (p.b_is j) (p.c_is j)) (r.ensures i l drum₀ out₀ m e h))
