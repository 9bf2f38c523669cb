-- `l1::sessions::load_as` meets its contract: the load is traced where the word was given. Assumes nothing.
use mathlib.Core.Path.{◌≡◌, subst}
use mathlib.Core.List.{List}
use mathlib.Core.Bool.{Bool}
use Prim.Native.Nat.{ℕ}
use Rattle.rules.specs.Loads.{loaded}
use Rattle.rules.specs.declared.State.{State}
use Rattle.machine.specs.Lent.{LoadRight}
use Rattle.machine.specs.declared.Loaded.{Loaded}
use Rattle.l1.proofs.sessions.load_as.Goals as goal

asked : (drum marks deck : List ℕ) (s : State) {t u : Bool} {d k : List ℕ} {r : Loaded} → t ≡ u
    → LoadRight (loaded (record { drum = drum; marks = marks; deck = deck; state = s; traced = t })) d k r
    → LoadRight (loaded (record { drum = drum; marks = marks; deck = deck; state = s; traced = u })) d k r
asked drum marks deck s {d = d} {k = k} {r = r} e w =
    subst (λ (x : Bool). LoadRight (loaded (record { drum = drum; marks = marks; deck = deck; state = s; traced = x })) d k r) e w

pub returns : goal.returns
returns c =
    let a = c.args in
    asked a.drum.now a.marks.now a.deck.now a.state c.is_traced.ensures c.load.ensures
