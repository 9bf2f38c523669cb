-- Words stored in cells upward, and so a block moved: what each cell then is, marks that stay, and that cells which hold words go on to. And
-- one word more, at either end, as a loop moves a block. Assumes nothing.
use Rattle.std.proofs.Common.{None, Some}
use Prim.Native.Nat.{ℕ, zero, suc, ◌+◌, ◌-◌, ◌≤◌, ◌<◌}
use mathlib.Core.Path.{◌≡◌, refl, sym, ap, ◌∙◌}
use mathlib.Core.List.{List, [], ◌∷◌, ◌++◌}
use mathlib.Core.Bool.{Bool, true, false}
use native.Mathlib.Nat.{le_of_suc-le-suc}
use native.Mathlib.Numerals.{add-one}
use native.Mathlib.Omega.{arith}
use lib.Dec.{eqb, leb}
use lib.ListN.{length, get_or, length-set}
use lib.Seq.{get_or-set_same, get_or-set_other, set_comm}
use borrow.Author.Tests.{eqb-true, eqb-false, leb-true}
use Rattle.rules.specs.Drum.{cell_at, word_at, store}
use Rattle.rules.specs.Codes.{block_lies, owned_at, owned_from}
use Rattle.rules.specs.Orders.{words_from, stored_from, cells_moved}
use Rattle.rules.specs.Answers.{Cell}
use Rattle.rules.proofs.Tests.{both_first, both_second}
use Rattle.rules.proofs.Views.{Grows, store_grows}
use Rattle.rules.proofs.Sound.{Cells, cells_stored}
use Rattle.rules.proofs.Punching.{words_long}
use Rattle.rules.proofs.MadeDecks.{word_of}

pub stored_long : (c : ℕ) (ws : List ℕ) (v : List Cell) → length (stored_from c ws v) ≡ length v
unfolding stored_from
stored_long c [] v = refl
stored_long c (w ∷ ws) v = stored_long (c + 1) ws (store v c w) ∙ length-set v c (Some w)

-- the word of each cell that is stored in, and all other cells
pub stored_elsewhere : (c : ℕ) (ws : List ℕ) (v : List Cell) (x : ℕ) → (c ≤ x → x < c + length ws → ⊥) → cell_at (stored_from c ws v) x ≡ cell_at v x
unfolding stored_from
stored_elsewhere c [] v x f = refl
stored_elsewhere c (w ∷ ws) v x f =
    stored_elsewhere (c + 1) ws (store v c w) x (λ l k. f (omega arith) (omega arith))
    ∙ get_or-set_other v c x (Some w) None (λ e. f (omega arith) (omega arith))

pub stored_there : (c : ℕ) (ws : List ℕ) (v : List Cell) (i : ℕ) → c + length ws ≤ length v → i < length ws
    → cell_at (stored_from c ws v) (c + i) ≡ Some (get_or ws i 0)
unfolding stored_from
stored_there c [] v i l k = let z : ⊥ = omega arith in absurd z
stored_there c (w ∷ ws) v zero l k =
    ap (cell_at (stored_from (c + 1) ws (store v c w))) (omega arith)
    ∙ stored_elsewhere (c + 1) ws (store v c w) c (λ f g. omega arith)
    ∙ get_or-set_same v c (Some w) None (omega arith)
stored_there c (w ∷ ws) v (suc i) l k =
    ap (cell_at (stored_from (c + 1) ws (store v c w))) (omega arith)
    ∙ stored_there (c + 1) ws (store v c w) i (omega (arith, length-set v c (Some w))) (le_of_suc-le-suc k)

-- ---- marks and words

pub stored_grows : (c : ℕ) (ws : List ℕ) (v : List Cell) → Grows v (stored_from c ws v)
unfolding stored_from
stored_grows c [] v = λ k e. e
stored_grows c (w ∷ ws) v = λ k e. store_grows v c w k (stored_grows (c + 1) ws (store v c w) k e)

-- cells that hold words, in which words are stored
stored_sound : (c : ℕ) (ws : List ℕ) {v : List Cell} → ((i : ℕ) → get_or ws i 0 ≤ 19999999999) → Cells v → Cells (stored_from c ws v)
unfolding stored_from
stored_sound c [] f h = h
stored_sound c (w ∷ ws) f h = stored_sound (c + 1) ws (λ i. f (suc i)) (cells_stored c w (f 0) h)

-- ---- one word more

-- the block's first word, and those behind it
pub words_first : (v : List Cell) (b n : ℕ) → words_from v b (suc n) ≡ word_at v b ∷ words_from v (b + 1) n
unfolding words_from
words_first v b zero = ap (λ (a : ℕ). word_at v a ∷ []) (omega arith)
words_first v b (suc n) =
    ap (λ (ws : List ℕ). ws ++ (word_at v (b + suc n) ∷ [])) (words_first v b n)
    ∙ ap (λ (a : ℕ). word_at v b ∷ (words_from v (b + 1) n ++ (word_at v a ∷ []))) (omega arith)

-- behind the last
pub stored_last : (c : ℕ) (ws : List ℕ) (w : ℕ) (v : List Cell) → stored_from c (ws ++ (w ∷ [])) v ≡ store (stored_from c ws v) (c + length ws) w
unfolding stored_from
stored_last c [] w v = ap (λ (a : ℕ). store v a w) (omega arith)
stored_last c (x ∷ ws) w v =
    stored_last (c + 1) ws w (store v c x) ∙ ap (λ (a : ℕ). store (stored_from (c + 1) ws (store v c x)) a w) (omega arith)

-- before the first
pub stored_first : (a c : ℕ) (ws : List ℕ) (w : ℕ) (v : List Cell) → a < c → stored_from c ws (store v a w) ≡ store (stored_from c ws v) a w
unfolding stored_from
stored_first a c [] w v l = refl
stored_first a c (x ∷ ws) w v l =
    ap (stored_from (c + 1) ws) (set_comm v a c (Some w) (Some x) (λ e. omega arith)) ∙ stored_first a (c + 1) ws w (store v c x) (omega arith)

-- ---- a block

words_small : (v : List Cell) (b n : ℕ) → ((a : ℕ) → word_at v a ≤ 19999999999) → (i : ℕ) → get_or (words_from v b n) i 0 ≤ 19999999999
unfolding words_from
words_small v b zero h i = omega arith
words_small v b (suc n) h zero = rw (words_first v b n) (h b)
words_small v b (suc n) h (suc i) = rw (words_first v b n) (words_small v (b + 1) n h i)

pub moved_sound : (n b c : ℕ) {v : List Cell} → Cells v → Cells (cells_moved v n b c)
moved_sound n b c {v} h = stored_sound c (words_from v b n) (words_small v b n h.words) h

-- a block of which the words behind the last, and before the first, are still to be moved
pub moved_last : (v : List Cell) (n b c : ℕ) → store (cells_moved v n b c) (c + n) (word_at v (b + n)) ≡ cells_moved v (n + 1) b c
unfolding words_from
moved_last v n b c =
    ap (λ (k : ℕ). store (cells_moved v n b c) (c + k) (word_at v (b + n))) (sym (words_long v b n))
    ∙ sym (stored_last c (words_from v b n) (word_at v (b + n)) v)
    ∙ ap (λ (k : ℕ). cells_moved v k b c) (sym (add-one n))

pub moved_first : (v : List Cell) (n b c : ℕ) → store (cells_moved v n (b + 1) (c + 1)) c (word_at v b) ≡ cells_moved v (n + 1) b c
unfolding stored_from
moved_first v n b c =
    sym (stored_first c (c + 1) (words_from v (b + 1) n) (word_at v b) v (omega arith))
    ∙ ap (λ (ws : List ℕ). stored_from c ws v) (sym (words_first v b n))
    ∙ ap (λ (k : ℕ). cells_moved v k b c) (sym (add-one n))

-- what stands outside the cells that are moved to is as it was
pub moved_elsewhere : (v : List Cell) (n b c x : ℕ) → (c ≤ x → x < c + n → ⊥) → cell_at (cells_moved v n b c) x ≡ cell_at v x
moved_elsewhere v n b c x f = stored_elsewhere c (words_from v b n) v x (λ l k. f l (omega (arith, words_long v b n)))

-- each cell that is moved to is what its source was, where that is marked
pub moved_there : (v : List Cell) (n b c k : ℕ) → c + n ≤ length v → k < n → cell_at (cells_moved v n b c) (c + k) ≡ Some (word_at v (b + k))
moved_there v n b c k l f =
    stored_there c (words_from v b n) v k (omega (arith, words_long v b n)) (omega (arith, words_long v b n)) ∙ ap Some (word_of v b n k f)

-- ---- where a block may lie, and its marks

pub block_begins : (b n : ℕ) → block_lies b n ≡ true → 1 ≤ b
block_begins b n e = leb-true 1 b (both_first (leb 1 b) (leb (b + n - 1) 999) e)

pub block_ends : (b n : ℕ) → block_lies b n ≡ true → b + n ≤ 1000
block_ends b n e =
    let g : b + n - 1 ≤ 999 = leb-true (b + n - 1) 999 (both_second (leb 1 b) (leb (b + n - 1) 999) e) in
    omega (arith, block_begins b n e)

pub owned_each : (v : List Cell) (b n k : ℕ) → owned_from v b n ≡ true → k < n → owned_at v (b + k) ≡ true
unfolding owned_from
owned_each v b zero k e l = let z : ⊥ = omega arith in absurd z
owned_each v b (suc n) k e l =
    by_last (eqb k n) refl (owned_each v b n k (both_first (owned_from v b n) (owned_at v (b + n)) e))
  where
    by_last : (t : Bool) → eqb k n ≡ t → (k < n → owned_at v (b + k) ≡ true) → owned_at v (b + k) ≡ true
    by_last true f g = rw (eqb-true k n f) (both_second (owned_from v b n) (owned_at v (b + n)) e)
    by_last false f g = let q = eqb-false k n f in g (omega arith)

pub owned_all : (v : List Cell) (b n : ℕ) → ((k : ℕ) → k < n → owned_at v (b + k) ≡ true) → owned_from v b n ≡ true
unfolding owned_from
owned_all v b zero f = refl
owned_all v b (suc n) f = rw (owned_all v b n (λ k l. f k (omega arith)), f n (omega arith))
