-- Two parts that are written at once, right behind those before. Assumes nothing.
use mathlib.Core.Path.{◌≡◌, sym, ap, subst, ◌∙◌}
use mathlib.Core.List.{List, ◌++◌, append_assoc}
use Prim.Native.Nat.{ℕ, ◌+◌, ◌≤◌}
use lib.ListN.{length, take, drop, length-append}
use Rattle.octets.specs.Put.{splice}
use Rattle.octets.proofs.Joins.{Put, put_part, length_field}

-- and two parts more that are written at once, of n bytes together
pub put_both : {d l m p : List ℕ} {a b e : ℕ} (s t : List ℕ) (n : ℕ) → Put d a p b l → m ≡ splice b (s ++ t) l → length (s ++ t) ≡ n → b + n ≡ e
    → e ≤ length d → Put d a (p ++ s ++ t) e m
put_both {d} {l} {m} {p} {a} {b} {e} s t n h f q r k =
    subst (λ (x : List ℕ). Put d a x e m) (sym (append_assoc p s t)) (put_part (s ++ t) n h f q r k)

-- n bytes of another run behind a text
pub length_piece : (text d : List ℕ) (b n : ℕ) → b + n ≤ length d → length (text ++ take n (drop b d)) ≡ length text + n
length_piece text d b n h = length-append text (take n (drop b d)) ∙ ap (λ (k : ℕ). length text + k) (length_field d b n h)

-- a text with such bytes behind it
pub put_piece : {d l m p : List ℕ} {a b e : ℕ} (text from : List ℕ) (o n : ℕ) → Put d a p b l → m ≡ splice b (text ++ take n (drop o from)) l
    → o + n ≤ length from → b + (length text + n) ≡ e → e ≤ length d → Put d a (p ++ text ++ take n (drop o from)) e m
put_piece text from o n h f q r k = put_both text (take n (drop o from)) (length text + n) h f (length_piece text from o n q) r k
