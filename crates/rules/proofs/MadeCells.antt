-- What storing the cards of a deck that is made gives. The cards pass no marked cell and take none that is not marked; so where they bear
-- their words, each marked cell gets its word and all others are as they were. And what a cell is by its mark and its number.
-- Assumes nothing.
use Rattle.std.proofs.Common.{None, Some}
use Prim.Native.Nat.{ℕ, zero, suc, ◌+◌, ◌-◌, ◌≤◌, ◌<◌}
use mathlib.Core.Path.{◌≡◌, refl, sym, ap, subst, ◌∙◌}
use mathlib.Core.List.{List, [], ◌∷◌}
use mathlib.Core.Bool.{Bool, true, false}
use native.Mathlib.Nat.{suc_inj}
use native.Mathlib.Omega.{arith}
use lib.Dec.{eqb, ltb}
use lib.ListN.{length, get_or, length-set}
use lib.Seq.{get_or-set_same, get_or-set_other}
use borrow.Author.Tests.{eqb-true, eqb-false, ltb-true, ltb-false, lt-ltb}
use Rattle.rules.specs.Drum.{cell_of, view, cell_at, store, word_at, mark_of, marks_of, number_over, overlay}
use Rattle.rules.specs.Cards.{word_in, word_place}
use Rattle.rules.specs.Decks.{DataCard, words_stored, cards_stored}
use Rattle.rules.specs.Codes.{owned_at}
use Rattle.rules.specs.Making.{Block, blocks_in}
use Rattle.rules.specs.Answers.{Cell}
use Rattle.rules.proofs.Tests.{false_true}
use Rattle.rules.proofs.Blocks.{owned_is, foreign_is, owned_inside, Run, run_inside, Cut, no_steps, passes, takes, all_ahead}

-- ---- the words of a card, stored

words_long : (d : List ℕ) (l n : ℕ) (v : List Cell) → length (words_stored d l n v) ≡ length v
unfolding words_stored
words_long d l zero v = refl
words_long d l (suc n) v = length-set (words_stored d l n v) (l + n) _ ∙ words_long d l n v

words_elsewhere : (d : List ℕ) (l n : ℕ) (v : List Cell) (x : ℕ) → (l ≤ x → x < l + n → ⊥) → cell_at (words_stored d l n v) x ≡ cell_at v x
unfolding words_stored
words_elsewhere d l zero v x f = refl
words_elsewhere d l (suc n) v x f =
    get_or-set_other (words_stored d l n v) (l + n) x _ None (λ e. f (omega arith) (omega arith))
    ∙ words_elsewhere d l n v x (λ g h. f g (omega arith))

words_there : (d : List ℕ) (l n : ℕ) (v : List Cell) (i : ℕ) → l + n ≤ length v → i < n
    → cell_at (words_stored d l n v) (l + i) ≡ Some (word_in d (word_place i))
unfolding words_stored
words_there d l zero v i g h = let z : ⊥ = omega arith in absurd z
words_there d l (suc n) v i g h = by_last (eqb i n) refl (words_there d l n v i (omega arith))
  where
    by_last : (t : Bool) → eqb i n ≡ t → (i < n → cell_at (words_stored d l n v) (l + i) ≡ Some (word_in d (word_place i)))
        → cell_at (words_stored d l (suc n) v) (l + i) ≡ Some (word_in d (word_place i))
    by_last true e r =
        subst (λ (j : ℕ). cell_at (words_stored d l (suc n) v) (l + j) ≡ Some (word_in d (word_place j))) (sym (eqb-true i n e))
        (get_or-set_same (words_stored d l n v) (l + n) _ None (omega (arith, words_long d l n v)))
    by_last false e r =
        let q = eqb-false i n e in
        get_or-set_other (words_stored d l n v) (l + n) (l + i) _ None (λ z. q (omega arith)) ∙ r (omega arith)

-- ---- the cards of blocks, stored

-- the words of one card
abbrev one_stored : DataCard → List Cell → List Cell
one_stored k v = words_stored k.rest k.location k.words v

-- a card that begins before the place `end` and bears the words that v has in a block
pub record Bears (v : List Cell) (end : ℕ) (k : DataCard) (b : Block) : Type 0 where
  pub before : k.place < end
  pub same_location : k.location ≡ b.location
  pub same_words : k.words ≡ b.cells
  pub has : (i : ℕ) → i < b.cells → word_in k.rest (word_place i) ≡ word_at v (b.location + i)

pub data AllBear (v : List Cell) (end : ℕ) : List DataCard → List Block → Type 0 where
  no_card : AllBear v end [] []
  one_card : {k : DataCard} {ks : List DataCard} {b : Block} {bs : List Block} → Bears v end k b → AllBear v end ks bs
      → AllBear v end (k ∷ ks) (b ∷ bs)

-- what becomes of the cell x: from a on it gets the word that v has there, if v has one, and is else as it was
record Laid (v old new : List Cell) (a x : ℕ) : Type 0 where
  marked : a ≤ x → owned_at v x ≡ true → cell_at new x ≡ cell_at v x
  kept : (a ≤ x → owned_at v x ≡ false) → cell_at new x ≡ cell_at old x

-- an unmarked cell is passed
one_passed : {v old new : List Cell} {a x : ℕ} → owned_at v a ≡ false → Laid v old new (a + 1) x → Laid v old new a x
one_passed {v} {old} {new} {a} {x} o r =
    record { marked = λ l m. by_first l m (eqb a x) refl; kept = λ f. r.kept (λ l. f (omega arith)) }
  where
    by_first : a ≤ x → owned_at v x ≡ true → (t : Bool) → eqb a x ≡ t → cell_at new x ≡ cell_at v x
    by_first l m true e = false_true (sym o ∙ ap (owned_at v) (eqb-true a x e) ∙ m)
    by_first l m false e = let d = eqb-false a x e in r.marked (omega arith) m

-- a card, and then the others
module _ {v new : List Cell} {a n end x : ℕ} {k : DataCard} (h : Run v a n 5) (c : Bears v end k (record { location = a; cells = n }))
    (old : List Cell) (room : a + n ≤ length old) (r : Laid v (one_stored k old) new (a + n) x) where
  there : a ≤ x → x < a + n → cell_at (one_stored k old) x ≡ cell_at v x
  there p q =
      let i : ℕ = x - a in
      let s : k.location + i ≡ x = omega arith in
      let t : a + i ≡ x = omega arith in
      ap (cell_at (one_stored k old)) (sym s)
      ∙ words_there k.rest k.location k.words old i (omega arith) (omega arith)
      ∙ ap Some (c.has i (omega arith) ∙ ap (word_at v) t)
      ∙ owned_is (cell_at v x) (h.owned x p q)

  one_laid : Laid v old new a x
  one_laid =
      record {
        marked = λ l m. by_marked l m (ltb x (a + n)) refl;
        kept = λ f.
            r.kept (λ l. f (omega arith))
            ∙ words_elsewhere k.rest k.location k.words old x
            (λ p q. false_true (sym (f (omega arith)) ∙ h.owned x (omega arith) (omega arith)));
      }
    where
      by_marked : a ≤ x → owned_at v x ≡ true → (t : Bool) → ltb x (a + n) ≡ t → cell_at new x ≡ cell_at v x
      by_marked l m true e = let q = ltb-true x (a + n) e in r.kept (λ g. let z : ⊥ = omega arith in absurd z) ∙ there l q
      by_marked l m false e = r.marked (ltb-false x (a + n) e) m

cards_long : (end : ℕ) (ks : List DataCard) (v : List Cell) → length (cards_stored end ks v) ≡ length v
unfolding cards_stored
cards_long end [] v = refl
cards_long end (k ∷ ks) v = by_place (ltb k.place end) refl (cards_long end ks (one_stored k v))
  where
    by_place : (t : Bool) → ltb k.place end ≡ t → length (cards_stored end ks (one_stored k v)) ≡ length (one_stored k v)
        → length (cards_stored end (k ∷ ks) v) ≡ length v
    by_place true e r = rw (e, cards_stored) (r ∙ words_long k.rest k.location k.words v)
    by_place false e r = rw (e, cards_stored)

cards_laid : {v : List Cell} {j a end : ℕ} {ks : List DataCard} {bs : List Block} → Cut v j a bs → length v ≤ a + j → AllBear v end ks bs
    → (old : List Cell) → length old ≡ length v → (x : ℕ) → Laid v old (cards_stored end ks old) a x
unfolding cards_stored
cards_laid {v} no_steps l no_card old long x =
    record { marked = λ g m. let z : ⊥ = omega (arith, owned_inside v x m) in absurd z; kept = λ f. refl }
cards_laid (passes o c) l cs old long x = one_passed o (cards_laid c (omega arith) cs old long x)
cards_laid {end = end} (takes s h c) l (one_card {k = k} {ks = ks} b cs) old long x =
    rw (lt-ltb k.place end b.before, cards_stored)
    (one_laid h b old (omega (arith, run_inside s h))
    (cards_laid c (omega arith) cs (one_stored k old) (words_long k.rest k.location k.words old ∙ long) x))

-- what the cells are once a deck made of v is loaded where none was marked
pub record Given (v new : List Cell) : Type 0 where
  pub long : length new ≡ 1000
  pub zero_is : cell_at new 0 ≡ Some 0
  pub others : (x : ℕ) → 1 ≤ x → cell_at new x ≡ cell_at v x

pub given_back : (v old : List Cell) {end : ℕ} {ks : List DataCard} → AllBear v end ks (blocks_in v) → length v ≡ 1000 → length old ≡ 1000
    → ((x : ℕ) → cell_at old x ≡ None) → Given v (store (cards_stored end ks old) 0 0)
given_back v old {end = end} {ks = ks} cs long old_long none =
    record {
      long = length-set cells 0 (Some 0) ∙ cells_long;
      zero_is = get_or-set_same cells 0 (Some 0) None (omega (arith, cells_long));
      others = λ x l. get_or-set_other cells 0 x (Some 0) None (λ e. omega arith) ∙ by_mark x l (owned_at v x) refl;
    }
  where
    cells : List Cell
    cells = cards_stored end ks old

    cells_long : length cells ≡ 1000
    cells_long = cards_long end ks old ∙ old_long

    laid : (x : ℕ) → Laid v old cells 1 x
    laid = cards_laid (all_ahead v).cut (omega (arith, (all_ahead v).enough)) cs old (old_long ∙ sym long)

    by_mark : (x : ℕ) → 1 ≤ x → (t : Bool) → owned_at v x ≡ t → cell_at cells x ≡ cell_at v x
    by_mark x l true m = (laid x).marked l m
    by_mark x l false m = (laid x).kept (λ g. m) ∙ none x ∙ sym (foreign_is (cell_at v x) m)

-- ---- a cell, its mark and its number

pub cell_at_lem : (ds ms : List ℕ) (x : ℕ) → length ds ≡ length ms → cell_at (view ds ms) x ≡ cell_of (get_or ms x 0) (get_or ds x 0)
unfolding view
cell_at_lem [] [] x e = refl
cell_at_lem [] (m ∷ ms) x e = let z : ⊥ = omega arith in absurd z
cell_at_lem (d ∷ ds) [] x e = let z : ⊥ = omega arith in absurd z
cell_at_lem (d ∷ ds) (m ∷ ms) zero e = refl
cell_at_lem (d ∷ ds) (m ∷ ms) (suc x) e = cell_at_lem ds ms x (suc_inj e)

pub mark_at : (v : List Cell) (x : ℕ) → get_or (marks_of v) x 0 ≡ mark_of (cell_at v x)
unfolding marks_of
mark_at [] x = refl
mark_at (c ∷ v) zero = refl
mark_at (c ∷ v) (suc x) = mark_at v x

pub number_at : (ds : List ℕ) (v : List Cell) (x : ℕ) → length ds ≡ length v → get_or (overlay ds v) x 0 ≡ number_over (cell_at v x) (get_or ds x 0)
unfolding overlay
number_at [] [] x e = refl
number_at [] (c ∷ v) x e = let z : ⊥ = omega arith in absurd z
number_at (d ∷ ds) [] x e = let z : ⊥ = omega arith in absurd z
number_at (d ∷ ds) (c ∷ v) zero e = refl
number_at (d ∷ ds) (c ∷ v) (suc x) e = number_at ds v x (suc_inj e)
