-- `disk::names::put` meets its contract: what is copied is what there is room for. Assumes nothing.
use Prim.Native.Nat.{ℕ, zero, suc, ◌+◌, ◌-◌, ◌≤◌}
use mathlib.Core.Path.{◌≡◌, refl, sym, ap, ◌∙◌}
use mathlib.Core.List.{List, [], ◌∷◌}
use native.Mathlib.Omega.{arith}
use lib.ListN.{length, take, length-take}
use Rattle.octets.proofs.Joins.{put_fits}
use Rattle.disk.proofs.names.put.Goals as goal

take_short : (n : ℕ) (l : List ℕ) → length (take n l) ≤ n
take_short zero l = omega arith
take_short (suc n) [] = omega arith
take_short (suc n) (x ∷ l) = omega (arith, take_short n l)

pub returns : goal.returns
returns c =
    let a = c.args in
    let left : ℕ = length a.out.now - a.at in
    let e : c.min.result ≡ length (take left a.part.now) = c.min.ensures ∙ sym (length-take left a.part.now) in
    let f : a.at + length (take left a.part.now) ≤ length a.out.now = omega (arith, c.requires, take_short left a.part.now) in
    record { put = (ap (λ (k : ℕ). a.at + k) e, c.copy.ensures ∙ put_fits a.at (take left a.part.now) a.out.now refl f); within = omega (arith, e, f, c.copy.auto.out) }
