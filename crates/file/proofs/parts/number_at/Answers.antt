-- `file::number_at` meets its contract. The loop's invariant: the number of the bytes from place i up, and that it fits so many bytes.
-- Assumes nothing.
use mathlib.Core.Path.{◌≡◌, sym, ap, ap₂, ◌∙◌}
use mathlib.Core.List.{List}
use Prim.Native.Nat.{ℕ, suc, ◌+◌, ◌*◌, ◌-◌, ◌^◌, ◌≤◌, ◌<◌}
use native.Mathlib.Nat.{pow-suc, pow-le-pow_right}
use native.Mathlib.Omega.{arith}
use lib.ListN.{length, get_or, take, drop, length-drop, drop_of_length-le}
use lib.Seq.{length-take-le, get_or-take, get_or-drop}
use Rattle.file.specs.Files.{number_of}
use Rattle.file.proofs.Files.{number_more}
use Rattle.file.proofs.parts.number_at.Goals as goal
use Rattle.file.proofs.parts.number_at.Invariants.{eight}

-- seven bytes leave room for one more
small : (x i : ℕ) → x < 256 ^ (8 - i) → 1 ≤ i → x < 72057594037927936
small x i h k =
    let e : 256 ^ (8 - i) ≤ 256 ^ 7 = pow-le-pow_right {n = 256} (omega arith) {i = 8 - i} {j = 7} (omega arith) in
    omega arith

grows : (b x i : ℕ) → x < 256 ^ (8 - i) → b ≤ 255 → 1 ≤ i → i ≤ 8 → b + 256 * x < 256 ^ (8 - (i - 1))
grows b x i h k l m =
    let e : 8 - (i - 1) ≡ suc (8 - i) = omega arith in
    let p : 256 ^ suc (8 - i) ≡ 256 ^ (8 - i) * 256 = pow-suc 256 (8 - i) in
    rw e (omega arith)

more : (bytes : List ℕ) (a x i : ℕ) {b : ℕ} → a + 8 ≤ length bytes → x ≡ number_of (drop i (eight bytes a)) → 1 ≤ i → i ≤ 8 → b ≡ get_or bytes (a + (i - 1)) 0
    → b + 256 * x ≡ number_of (drop (i - 1) (eight bytes a))
more bytes a x i h e k m q =
    let w = eight bytes a in
    let n : length w ≡ 8 = length-take-le 8 (drop a bytes) (omega (arith, length-drop a bytes)) in
    let at : get_or w (i - 1) 0 ≡ get_or bytes (a + (i - 1)) 0 = get_or-take 8 (drop a bytes) (i - 1) 0 (omega arith) ∙ get_or-drop a bytes (i - 1) 0 in
    let up : i ≡ i - 1 + 1 = omega arith in
    ap₂ (λ (u v : ℕ). u + 256 * v) (q ∙ sym at) (e ∙ ap (λ (j : ℕ). number_of (drop j w)) up) ∙ sym (number_more w (i - 1) (omega arith))

pub loop-i-init : goal.loop-i-init
unfolding number_of
loop-i-init c =
    let d = drop c.args.a c.args.bytes.now in
    let long : 8 ≤ length d = simp length-drop (omega arith) in
    (omega arith, sym (ap number_of (drop_of_length-le (take 8 d) {i = 8} (omega (arith, length-take-le 8 d long)))), omega arith)

pub overflow_mul-x : goal.overflow_mul-x
overflow_mul-x c = omega (arith, small _ _ c.loop-i.invariant.2 (omega arith))

pub overflow_add-x : goal.overflow_add-x
overflow_add-x c = omega (arith, small _ _ c.loop-i.invariant.2 (omega arith), c.from.ensures, c.type_inv.bytes (c.args.a + (c.loop-i.i - 1)))

pub loop-i-preserved : goal.loop-i-preserved
loop-i-preserved c =
    let l = c.loop-i in (
      omega arith,
      more _ _ _ _ c.requires l.invariant.1 (omega arith) l.invariant.0 c.from.ensures,
      grows _ _ _ l.invariant.2 (omega (arith, c.from.ensures, c.type_inv.bytes (c.args.a + (l.i - 1)))) (omega arith) l.invariant.0,
    )

pub returns : goal.returns
returns c =
    let e : c.loop-i.i ≡ 0 = omega arith in
    rw e at c.loop-i.invariant.1
