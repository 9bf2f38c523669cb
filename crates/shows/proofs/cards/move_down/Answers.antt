-- `shows::cards::move_down` meets its contract. The loop's invariant: the bytes passed stand at the start, and all behind them is as it
-- was, so that the byte to move is still the old one. Assumes nothing.
use mathlib.Core.Path.{◌≡◌, sym, ap, ◌∙◌}
use mathlib.Core.List.{List}
use Prim.Native.Nat.{ℕ, ◌+◌, ◌-◌, ◌≤◌, ◌<◌}
use native.Mathlib.Nat.{zero-add}
use native.Mathlib.Omega.{arith}
use lib.ListN.{length, get_or, drop, set, length-drop}
use lib.Seq.{paste, paste-zero, drop-paste, get_or-drop}
use Rattle.octets.proofs.Copies.{copy_more}
use Rattle.shows.proofs.cards.move_down.Goals as goal

-- what stands behind the bytes passed is the old
kept : (old room : List ℕ) (from i : ℕ) → i ≤ length (drop from old) → room ≡ paste old 0 (drop from old) i → get_or room (from + i) 0 ≡ get_or (drop from old) i 0
kept old room from i l e =
    let z : 0 + i ≡ i = zero-add i in
    let behind : drop i room ≡ drop i old =
    ap (drop i) e
    ∙ ap (λ (k : ℕ). drop k (paste old 0 (drop from old) i)) (sym z)
    ∙ drop-paste old 0 (drop from old) i (omega arith) l
    ∙ ap (λ (k : ℕ). drop k old) z in
    ap (λ (k : ℕ). get_or room k 0) (let q : from + i ≡ i + from = omega arith in q)
    ∙ sym (get_or-drop i room from 0)
    ∙ ap (λ (x : List ℕ). get_or x from 0) behind
    ∙ get_or-drop i old from 0
    ∙ ap (λ (k : ℕ). get_or old k 0) (let q : i + from ≡ from + i = omega arith in q)
    ∙ sym (get_or-drop from old i 0)

moved : (old room : List ℕ) (from i : ℕ) → i < length (drop from old) → i < length old → room ≡ paste old 0 (drop from old) i
    → set room i (get_or room (from + i) 0) ≡ paste old 0 (drop from old) (i + 1)
moved old room from i l h e =
    ap (λ (k : ℕ). set room k (get_or room (from + i) 0)) (sym (zero-add i))
    ∙ copy_more old (drop from old) 0 i e (get_or room (from + i) 0) (kept old room from i (omega arith) e) (omega arith) l

pub loop-i-init : goal.loop-i-init
loop-i-init c = paste-zero c.args.room.now 0 (drop c.args.from c.args.room.now)

pub loop-i-preserved : goal.loop-i-preserved
loop-i-preserved c =
    let old = c.args.room.now in
    let l : c.loop-i.i < length (drop c.args.from old) = omega (arith, length-drop c.args.from old, c.requires) in
    moved old c.loop-i.room c.args.from c.loop-i.i l (omega (arith, c.requires)) c.loop-i.invariant

pub returns : goal.returns
returns c =
    let old = c.args.room.now in
    let e : c.loop-i.i ≡ c.args.to - c.args.from = omega arith in
    c.loop-i.invariant ∙ ap (λ (k : ℕ). paste old 0 (drop c.args.from old) k) e
