-- A loop that copies a list s element by element: what has been copied stands in the list d from a place on, or from its start until it
-- is all of s. Assumes nothing.
use borrow.Rule.Slice.PartMut.{put_mid}
use mathlib.Core.Path.{◌≡◌, refl, sym, ap, ap₂, ◌∙◌}
use mathlib.Core.List.{List, ◌++◌, append-nil}
use Prim.Native.Nat.{ℕ, ◌+◌, ◌<◌}
use native.Mathlib.Nat.{zero-add}
use native.Mathlib.Numerals.{add-one}
use native.Mathlib.Omega.{arith}
use lib.ListN.{length, get_or, take, drop, set, drop_of_length-le}
use lib.Seq.{paste, paste-suc, take-length}
use Rattle.std.proofs.lemmas.Slice.{put_mid-paste}
use Rattle.octets.specs.Put.{splice}

module _ {l : List ℕ} (d s : List ℕ) (a i : ℕ) (e : l ≡ paste d a s i) where
  pub copy_more : (v : ℕ) → v ≡ get_or s i 0 → a + i < length d → i < length s → set l (a + i) v ≡ paste d a s (i + 1)
  copy_more v q h k =
      ap₂ (λ (t : List ℕ) (x : ℕ). set t (a + i) x) e q ∙ paste-suc d a s i 0 h k ∙ ap (λ (n : ℕ). paste d a s n) (sym (add-one i))

  pub copy_end : i ≡ length s → l ≡ splice a s d
  unfolding splice
  copy_end q =
      e ∙ ap (λ (n : ℕ). paste d a s n) q ∙ ap (λ (t : List ℕ). take a d ++ t ++ drop (a + length s) d) (take-length s)

module _ {l : List ℕ} (d s : List ℕ) (i : ℕ) (n : length s ≡ length d) (e : l ≡ paste d 0 s i) where
  pub fill_more : (v : ℕ) → v ≡ get_or s i 0 → i < length d → set l i v ≡ paste d 0 s (i + 1)
  fill_more v q h =
      ap (λ (k : ℕ). set l k v) (sym (zero-add i)) ∙ copy_more d s 0 i e v q (omega arith) (omega arith)

  pub fill_end : i ≡ length d → l ≡ s
  unfolding splice
  fill_end q =
      copy_end d s 0 i e (q ∙ sym n)
      ∙ ap (λ (t : List ℕ). s ++ t) (drop_of_length-le d {i = 0 + length s} (omega arith))
      ∙ append-nil s

-- the copy of s over the part of d that begins at place a, by a call of the library
pub copied : (a k : ℕ) (d s t : List ℕ) → t ≡ s → k ≡ length s → put_mid a k d t ≡ splice a s d
copied a k d s t e q = copy_end d s a (length s) (put_mid-paste a k d t s (length s) e (sym q) refl) refl
