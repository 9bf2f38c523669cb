-- The words of a block moved one by one, from the first on or from the last on: what is moved so far is a block too, and the next word stands
-- outside the cells that have been stored in. Assumes nothing.
use Rattle.std.proofs.Common.{Ok}
use Prim.Native.Nat.{ℕ, ◌+◌, ◌-◌, ◌≤◌, ◌<◌}
use mathlib.Core.Path.{◌≡◌, refl, sym, ap, subst, ◌∙◌}
use mathlib.Core.List.{List}
use mathlib.Core.Bool.{Bool, true, false}
use native.Mathlib.Omega.{arith}
use lib.Dec.{leb}
use borrow.Author.Tests.{leb-true, leb-false}
use Rattle.rules.specs.Words.{pick}
use Rattle.rules.specs.Drum.{view, word_at, store, shown}
use Rattle.rules.specs.Machine.{Machine, done}
use Rattle.rules.specs.Orders.{words_from, stored_from, cells_moved, block_moved}
use Rattle.rules.specs.Answers.{Cell}
use Rattle.rules.specs.declared.Done.TheVariants.{GoesOn}
use Rattle.rules.proofs.BlockMoves.{moved_first, moved_last, moved_elsewhere}
use Rattle.drum.specs.Held.{Holds, Keeps, Stored}
use Rattle.drum.proofs.Cells.{kept}
use Rattle.machine.specs.Lent.{Went, Shows, Did}
use Rattle.machine.proofs.Shown.{word_is, went_on}
use Rattle.machine.specs.declared.desk.Desk.{Desk}

-- the word that is moved in turn i, and the first of those that are moved before that turn
abbrev pub in_turn : ℕ → ℕ → ℕ → ℕ → ℕ
in_turn b c n i = pick (leb c b) i (n - 1 - i)

abbrev pub lowest : ℕ → ℕ → ℕ → ℕ → ℕ
lowest b c n i = pick (leb c b) 0 (n - i)

-- the cells with those i words moved
abbrev moved_to : ℕ → ℕ → ℕ → ℕ → List Cell → List Cell
moved_to b c n i v = let k = lowest b c n i in cells_moved v i (b + k) (c + k)

pub record Moving (drum₁ marks₁ : List ℕ) (b c n : ℕ) (drum marks : List ℕ) (i : ℕ) : Type 0 where
  pub keeps : Keeps drum₁ marks₁ drum marks (moved_to b c n i)

-- one word more: the block of those that are moved grows behind its last, or before its first
turned : (b c n i : ℕ) (v : List Cell) → i < n
    → store (moved_to b c n i v) (c + in_turn b c n i) (word_at v (b + in_turn b c n i)) ≡ moved_to b c n (i + 1) v
turned b c n i v l = by_way (leb c b)
  where
    by_way : (t : Bool)
        → store (cells_moved v i (b + pick t 0 (n - i)) (c + pick t 0 (n - i))) (c + pick t i (n - 1 - i)) (word_at v (b + pick t i (n - 1 - i)))
        ≡ cells_moved v (i + 1) (b + pick t 0 (n - (i + 1))) (c + pick t 0 (n - (i + 1)))
    by_way true =
        ap (λ (k : ℕ). store (cells_moved v i (b + 0) (c + 0)) (k + i) (word_at v (b + i))) (omega arith)
        ∙ ap (λ (k : ℕ). store (cells_moved v i (b + 0) (c + 0)) (c + 0 + i) (word_at v (k + i))) (omega arith)
        ∙ moved_last v i (b + 0) (c + 0)
    by_way false =
        let k : ℕ = n - 1 - i in
        let e : n - i ≡ k + 1 = omega arith in
        let f : n - (i + 1) ≡ k = omega arith in
        ap (λ (j : ℕ). store (cells_moved v i j (c + (n - i))) (c + k) (word_at v (b + k))) (omega arith)
        ∙ ap (λ (j : ℕ). store (cells_moved v i (b + k + 1) j) (c + k) (word_at v (b + k))) (omega arith)
        ∙ moved_first v i (b + k) (c + k)
        ∙ ap (λ (j : ℕ). cells_moved v (i + 1) (b + j) (c + j)) (sym f)

-- the next word is none that has been stored over
unmoved : (b c n i : ℕ) (v : List Cell) → i < n → word_at (moved_to b c n i v) (b + in_turn b c n i) ≡ word_at v (b + in_turn b c n i)
unmoved b c n i v l = by_way (leb c b) refl
  where
    by_way : (t : Bool) → leb c b ≡ t
        → word_at (cells_moved v i (b + pick t 0 (n - i)) (c + pick t 0 (n - i))) (b + pick t i (n - 1 - i)) ≡ word_at v (b + pick t i (n - 1 - i))
    by_way true e = let f = leb-true c b e in ap shown (moved_elsewhere v i (b + 0) (c + 0) (b + i) (λ g h. omega arith))
    by_way false e =
        let f = leb-false c b e in
        ap shown (moved_elsewhere v i (b + (n - i)) (c + (n - i)) (b + (n - 1 - i)) (λ g h. omega arith))

pub none_moved : {drum marks : List ℕ} (b c n : ℕ) → Moving drum marks b c n drum marks 0
unfolding words_from stored_from
none_moved b c n = record { keeps = λ drum₀ v h. h }

pub one_moved : {drum₁ marks₁ drum marks drum' marks' : List ℕ} {b c n i k w : ℕ} → Moving drum₁ marks₁ b c n drum marks i → i < n → c + n ≤ 1000
    → k ≡ in_turn b c n i → w ≡ word_at (view drum marks) (b + k) → Stored drum marks (c + k) w drum' marks'
    → Moving drum₁ marks₁ b c n drum' marks' (i + 1)
one_moved {drum = drum} {marks = marks} {drum' = drum'} {marks' = marks'} {b = b} {c = c} {n = n} {i = i} {k = k} {w = w} h l f q e s = record {
  keeps = λ drum₀ v y.
      let g = h.keeps drum₀ v y in
      let x : w ≡ word_at (moved_to b c n i v) (b + k) = word_is g (b + k) e in
      let z : w ≡ word_at v (b + in_turn b c n i) = x ∙ ap (λ (j : ℕ). word_at (moved_to b c n i v) (b + j)) q ∙ unmoved b c n i v l in
      subst (λ (u : List Cell). Holds drum₀ drum' marks' u)
      (ap (λ (j : ℕ). store (moved_to b c n i v) (c + j) w) q ∙ ap (store (moved_to b c n i v) (c + in_turn b c n i)) z ∙ turned b c n i v l)
      (kept g (c + k) w (rw q (inside (leb c b))) (rw x (g.words (b + k))) s);
}
  where
    inside : (t : Bool) → c + pick t i (n - 1 - i) < 1000
    inside true = omega arith
    inside false = omega arith

pub all_moved : {drum₁ marks₁ drum marks : List ℕ} {b c n i : ℕ} → Moving drum₁ marks₁ b c n drum marks i → i ≡ n
    → Keeps drum₁ marks₁ drum marks (λ v. cells_moved v n b c)
all_moved {drum = drum} {marks = marks} {b = b} {c = c} {n = n} {i = i} h e drum₀ v y =
    subst (λ (u : List Cell). Holds drum₀ drum marks u) (ap (λ (j : ℕ). moved_to b c n j v) e ∙ whole (leb c b)) (h.keeps drum₀ v y)
  where
    whole : (t : Bool) → cells_moved v n (b + pick t 0 (n - n)) (c + pick t 0 (n - n)) ≡ cells_moved v n b c
    whole true = ap (λ (j : ℕ). cells_moved v n j (c + 0)) (omega arith) ∙ ap (cells_moved v n b) (omega arith)
    whole false = ap (λ (j : ℕ). cells_moved v n j (c + (n - n))) (omega arith) ∙ ap (cells_moved v n b) (omega arith)

-- the whole order
pub moved_on : {drum₀ out₀ drum marks out d k : List ℕ} {desk desk' : Desk} {m : Machine} (h : Shows drum₀ out₀ drum marks out desk m) (n b c : ℕ)
    → Keeps drum marks d k (λ v. cells_moved v n b c) → Went desk (desk.state.location + 1) desk'
    → Did drum₀ out₀ d k out desk' (Ok GoesOn) (done (block_moved m n b c))
moved_on {drum₀ = drum₀} {desk = desk} {m = m} h n b c f e =
    went_on {desk = desk} (record { memory = f drum₀ m.cells h.memory; output = h.output; state_is = h.state_is; written_is = h.written_is }) e
