-- What is known of the first of the cards that are ahead of a cell. Assumes nothing.
use Prim.Native.Nat.{ℕ, ◌+◌, ◌≤◌}
use mathlib.Core.List.{List, ◌∷◌}
use native.Mathlib.Omega.{arith}
use Rattle.rules.specs.Making.{Block}
use Rattle.rules.specs.Answers.{Cell}
use Rattle.rules.proofs.Blocks.{Run, Cut, passes, takes, Ahead}

-- it begins at that cell or behind it, and its cells are a run; those behind it are ahead of its end
pub record Next (v : List Cell) (a : ℕ) (b : Block) (bs : List Block) : Type 0 where
  pub behind : a ≤ b.location
  pub some : 1 ≤ b.cells
  pub run : Run v b.location b.cells 5
  pub ahead : Ahead v (b.location + b.cells) bs

pub next : {v : List Cell} {a : ℕ} (b : Block) (bs : List Block) → Ahead v a (b ∷ bs) → Next v a b bs
next {v} b bs h = by_cut h.cut h.enough
  where
    by_cut : {k a : ℕ} → Cut v k a (b ∷ bs) → 1000 ≤ a + k → Next v a b bs
    by_cut (passes o c) m =
        let n = by_cut c (omega arith) in
        record { behind = omega (arith, n.behind); some = n.some; run = n.run; ahead = n.ahead }
    by_cut (takes {k = k} s r c) m =
        record { behind = omega arith; some = s; run = r; ahead = record { steps = k; enough = omega (arith, s); cut = c } }
