-- Parts written into a list one right behind the other are one part, and over the start of the list they are what is written over it.
-- Assumes nothing.
use mathlib.Core.Path.{◌≡◌, sym, ap, ◌∙◌}
use mathlib.Core.List.{List, [], ◌∷◌, ◌++◌, append_assoc, append-nil}
use Prim.Native.Nat.{ℕ, suc, ◌+◌, ◌≤◌, ◌<◌}
use native.Mathlib.Nat.{le_refl, add-zero, zero-add}
use native.Mathlib.Numerals.{add-one}
use native.Mathlib.Omega.{arith}
use lib.ListN.{length, take, drop, set, length-append, take-append-drop}
use lib.Seq.{take_at, drop_at, drop-drop, length-take-le, set_split, set-append_left, take-set-lt, take-suc-set, append_snoc}
use Rattle.rules.specs.Running.{over}
use Rattle.octets.specs.Put.{splice}

-- nothing, and one byte
pub splice_none : (a : ℕ) (d : List ℕ) → d ≡ splice a [] d
unfolding splice
splice_none a d =
    sym (ap (λ (l : List ℕ). l ++ drop (a + 0) d) (append-nil (take a d)) ∙ ap (λ (k : ℕ). take a d ++ drop k d) (add-zero a) ∙ take-append-drop a d)

pub splice_one : (d : List ℕ) (a b : ℕ) → a < length d → set d a b ≡ splice a (b ∷ []) d
unfolding splice
splice_one d a b h =
    set_split d a b h
    ∙ sym (append_snoc (take a d) b (drop (suc a) d))
    ∙ ap (λ (k : ℕ). take a d ++ (b ∷ []) ++ drop k d) (sym (add-one a))

-- a part t right behind a part s
pub splice_more : (a b : ℕ) (s t d : List ℕ) → a + length s ≡ b → b + length t ≤ length d → splice b t (splice a s d) ≡ splice a (s ++ t) d
unfolding splice
splice_more a b s t d e h =
    let p : List ℕ = take a d ++ s in
    let r : List ℕ = drop (a + length s) d in
    let n : length p ≡ b = length-append (take a d) s ∙ omega (arith, length-take-le a d (omega arith)) in
    let q : a + length s + length t ≡ a + length (s ++ t) = omega (arith, length-append s t) in
    let rest : drop (b + length t) (p ++ r) ≡ drop (a + length (s ++ t)) d =
    sym (drop-drop (length t) b (p ++ r))
    ∙ ap (drop (length t)) (drop_at p r b n)
    ∙ drop-drop (length t) (a + length s) d
    ∙ ap (λ (k : ℕ). drop k d) q in
    ap (λ (l : List ℕ). l ++ t ++ drop (b + length t) (p ++ r)) (take_at p r b n)
    ∙ ap (λ (l : List ℕ). p ++ t ++ l) rest
    ∙ ap (λ (l : List ℕ). l ++ drop (a + length (s ++ t)) d) (append_assoc (take a d) s t)

-- a byte right in front of a part t
pub splice_before : (a b : ℕ) (t d : List ℕ) → suc a + length t ≤ length d → set (splice (suc a) t d) a b ≡ splice a (b ∷ t) d
unfolding splice
splice_before a b t d h =
    let p : List ℕ = take (suc a) d in
    let r : List ℕ = drop (suc a + length t) d in
    let n : length p ≡ suc a = length-take-le (suc a) d (omega arith) in
    let m : length (p ++ t) ≡ suc a + length t = length-append p t ∙ omega arith in
    let q : set p a b ≡ take a d ++ (b ∷ []) = sym (take-set-lt (suc a) d a b (le_refl (suc a))) ∙ take-suc-set d a b (omega arith) in
    let e : suc a + length t ≡ a + length (b ∷ t) = omega arith in
    set-append_left (p ++ t) r a b (omega arith)
    ∙ ap (λ (l : List ℕ). l ++ r) (set-append_left p t a b (omega arith))
    ∙ ap (λ (l : List ℕ). l ++ t ++ r) q
    ∙ ap (λ (l : List ℕ). l ++ r) (append_snoc (take a d) b t)
    ∙ ap (λ (k : ℕ). take a d ++ (b ∷ t) ++ drop k d) e

pub splice_start : (s d : List ℕ) → splice 0 s d ≡ over s d
unfolding over splice
splice_start s d = ap (λ (k : ℕ). s ++ drop k d) (zero-add (length s))
