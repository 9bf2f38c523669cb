-- `octets::number_in` meets its contract. The loop's invariant: the number of the digits passed, and that it fits, since no byte counts
-- for more than 207. Assumes nothing.
use mathlib.Core.List.{List, [], ◌∷◌}
use mathlib.Core.Path.{◌≡◌, refl, ap, ap₂, ◌∙◌}
use Prim.Native.Nat.{ℕ, zero, suc, ◌+◌, ◌*◌, ◌-◌, ◌^◌, ◌≤◌, min}
use native.Mathlib.Nat.{pow-suc}
use native.Mathlib.Numerals.{add-one, unary_clauses}
use native.Mathlib.Omega.{arith}
use lib.ListN.{length, get_or, take, drop, length-drop}
use lib.Seq.{take_all}
use Rattle.std.proofs.lemmas.List.{get_or-drop}
use Rattle.rules.specs.Cards.{number_in}
use Rattle.octets.proofs.reads.number_in.Goals as goal

more : (d : List ℕ) (a i x : ℕ) {y : ℕ} → x ≡ number_in d a i → y ≡ get_or d (a + i) 0 - 48 → 10 * x + y ≡ number_in d a (i + 1)
unfolding number_in
more d a i x e h = rw add-one (ap₂ (λ (u v : ℕ). 10 * u + v) e h)

grows : (x y i : ℕ) → x + 23 ≤ 23 * 10 ^ i → y ≤ 207 → 10 * x + y + 23 ≤ 23 * 10 ^ (i + 1)
grows x y i h k = rw (add-one, pow-suc) (omega arith)

-- from a place past the end on there is nothing, as from the end on
rest : (a : ℕ) (d : List ℕ) → drop (min a (length d)) d ≡ drop a d
rest zero d = simp unary_clauses refl
rest (suc a) [] = simp unary_clauses refl
rest (suc a) (x ∷ d) = simp unary_clauses (rest a d)

-- the byte i places behind place a, as one of the rest from there on
behind : (a m i : ℕ) (d : List ℕ) {b : ℕ} → m ≡ min a (length d) → b ≡ get_or (take (length d - m) (drop m d)) i 0 → b ≡ get_or d (a + i) 0
behind a m i d p q =
    q
    ∙ ap (λ (l : List ℕ). get_or l i 0) (take_all _ (drop m d) (omega (arith, length-drop m d)) ∙ ap (λ (k : ℕ). drop k d) p ∙ rest a d)
    ∙ get_or-drop a d i 0

pub loop-i-preserved : goal.loop-i-preserved
loop-i-preserved c =
    let a = c.args in
    let l = c.loop-i in
    let q = behind a.a _ l.i a.d.now c.min.ensures c.byte_at.ensures in (
      more a.d.now a.a l.i l.x l.invariant.0 (c.figure.ensures.0 ∙ ap (λ (b : ℕ). b - 48) q),
      grows l.x c.figure.result l.i l.invariant.1 c.figure.ensures.1,
    )
