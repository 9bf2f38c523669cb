-- A part that fits is written, and parts that are written one right behind the other are one part. Assumes nothing.
use mathlib.Core.Path.{◌≡◌, sym, ap, ◌∙◌}
use mathlib.Core.Bool.{Bool}
use mathlib.Core.List.{List, [], ◌++◌, append_assoc, append-nil}
use Prim.Native.Nat.{ℕ, ◌+◌, ◌≤◌}
use native.Mathlib.Omega.{arith}
use borrow.Author.Tests.{le-leb}
use lib.ListN.{length, take, drop, length-append, length-drop, drop_of_length-le}
use lib.Seq.{length-take-le, drop-drop}
use Rattle.rules.specs.Words.{pick}
use Rattle.rules.specs.Running.{over}
use Rattle.rules.proofs.Parts.{part_of, put_back, part_is, nothing_behind}
use Rattle.octets.specs.Put.{splice, put_at}
use Rattle.octets.proofs.Splices.{splice_none, splice_more, splice_start}

-- ---- one part, of n bytes

pub put_fits : {n : ℕ} (a : ℕ) (s d : List ℕ) → length s ≡ n → a + n ≤ length d → put_at a s d ≡ splice a s d
unfolding put_at
put_fits a s d size h = ap (λ (t : Bool). pick t (splice a s d) d) (le-leb (a + length s) (length d) (omega arith))

pub length-splice : (a : ℕ) (s d : List ℕ) → a + length s ≤ length d → length (splice a s d) ≡ length d
unfolding splice
length-splice a s d h =
    length-append (take a d ++ s) (drop (a + length s) d)
    ∙ omega (arith, length-append (take a d) s, length-take-le a d (omega arith), length-drop (a + length s) d)

-- ---- one part behind the other

-- the list l is d with p from place a up to place e
pub record Put (d : List ℕ) (a : ℕ) (p : List ℕ) (e : ℕ) (l : List ℕ) : Type 0 where
  pub same : l ≡ splice a p d
  pub ends : a + length p ≡ e
  pub room : e ≤ length d

pub put_nothing : {a e : ℕ} (d : List ℕ) → a ≡ e → a ≤ length d → Put d a [] e d
put_nothing {a} d q k = record { same = splice_none a d; ends = omega arith; room = omega arith }

pub part_begin : {d l p : List ℕ} {a e : ℕ} (n : ℕ) → l ≡ splice a p d → length p ≡ n → a + n ≡ e → e ≤ length d → Put d a p e l
part_begin n s q r k = record { same = s; ends = omega arith; room = k }

pub put_begin : {d l p : List ℕ} {a e : ℕ} (n : ℕ) → l ≡ put_at a p d → length p ≡ n → a + n ≡ e → e ≤ length d → Put d a p e l
put_begin {d} {l} {p} {a} n s q r k = part_begin n (s ∙ put_fits a p d q (omega arith)) q r k

-- one part more, of n bytes
module _ {d l m p : List ℕ} {a b e : ℕ} (s : List ℕ) (n : ℕ) (h : Put d a p b l) where
  pub put_part : m ≡ splice b s l → length s ≡ n → b + n ≡ e → e ≤ length d → Put d a (p ++ s) e m
  put_part f q r k = record {
    same = f ∙ ap (splice b s) h.same ∙ splice_more a b p s d h.ends (omega arith);
    ends = omega (arith, length-append p s, h.ends);
    room = k;
  }

  pub put_more : m ≡ put_at b s l → length s ≡ n → b + n ≡ e → e ≤ length d → Put d a (p ++ s) e m
  put_more f q r k =
      let long : length l ≡ length d = ap length h.same ∙ length-splice a p d (omega (arith, h.ends, h.room)) in
      put_part (f ∙ put_fits b s l q (omega arith)) q r k

-- parts over the start
pub put_over : {d l p : List ℕ} {e : ℕ} → Put d 0 p e l → l ≡ over p d
put_over {d} {l} {p} h = h.same ∙ splice_start p d

-- a part as long as the whole
pub put_all : (s d : List ℕ) → length s ≡ length d → put_at 0 s d ≡ s
unfolding splice
put_all s d q =
    put_fits 0 s d q (omega arith)
    ∙ ap (λ (l : List ℕ). s ++ l) (drop_of_length-le d {i = 0 + length s} (omega arith))
    ∙ append-nil s

-- n bytes of another run
pub length_field : (d : List ℕ) (b n : ℕ) → b + n ≤ length d → length (take n (drop b d)) ≡ n
length_field d b n h = length-take-le n (drop b d) (omega (arith, length-drop b d))

-- s over the start of the part that is lent from place a on
pub part_spliced : (a : ℕ) (s d p : List ℕ) → p ≡ over s (part_of a d) → put_back a d p ≡ splice a s d
unfolding over splice
part_spliced a s d p e =
    let q : p ≡ s ++ drop (a + length s) d =
    e ∙ ap (λ (l : List ℕ). s ++ drop (length s) l) (part_is a d) ∙ ap (λ (l : List ℕ). s ++ l) (drop-drop (length s) a d) in
    ap (λ (l : List ℕ). take a d ++ (p ++ l)) (nothing_behind a d)
    ∙ ap (λ (l : List ℕ). take a d ++ l) (append-nil p ∙ q)
    ∙ sym (append_assoc (take a d) s (drop (a + length s) d))
