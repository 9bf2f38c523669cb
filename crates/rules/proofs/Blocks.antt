-- Which cells go on which card of a deck that is made. A card has the marked cells from its first on, up to five; where it has fewer, the
-- next cell is unmarked. So no five neighbours that are all marked hold the first cells of two of the cards. Assumes nothing.
use Rattle.std.proofs.Common.{None, Some}
use Prim.Native.Nat.{ℕ, zero, suc, ◌+◌, ◌-◌, ◌≤◌, ◌<◌}
use native.Mathlib.Omega.{arith}
use mathlib.Core.Path.{◌≡◌, refl, sym, ap, subst, ◌∙◌}
use mathlib.Core.List.{List, [], ◌∷◌, map}
use mathlib.Core.Bool.{Bool, true, false}
use lib.Dec.{eqb, ltb}
use lib.ListN.{length, get_or-eq_default}
use borrow.Author.Tests.{eqb-true, eqb-false, ltb-true, ltb-false}
use Rattle.rules.specs.Words.{pick}
use Rattle.rules.specs.Drum.{is_owned, shown}
use Rattle.rules.specs.Codes.{owned_at}
use Rattle.rules.specs.Making.{neighbours, Block, blocks_from, blocks_in}
use Rattle.rules.specs.Answers.{Cell}
use Rattle.rules.proofs.Tests.{false_true}

-- ---- marked and unmarked

pub owned_is : (c : Cell) → is_owned c ≡ true → Some (shown c) ≡ c
owned_is None e = false_true e
owned_is (Some w) e = refl

pub foreign_is : (c : Cell) → is_owned c ≡ false → c ≡ None
foreign_is None e = refl
foreign_is (Some w) e = false_true (sym e)

-- no cell behind the last is marked
pub owned_inside : (v : List Cell) (x : ℕ) → owned_at v x ≡ true → x < length v
owned_inside v x e = by_place (ltb x (length v)) refl
  where
    by_place : (t : Bool) → ltb x (length v) ≡ t → x < length v
    by_place true f = ltb-true x (length v) f
    by_place false f = false_true (sym (ap is_owned (get_or-eq_default v None (ltb-false x (length v) f))) ∙ e)

-- ---- neighbours

-- n marked cells from a on, of at most so many; and if they are fewer, no marked one follows
pub record Run (v : List Cell) (a n most : ℕ) : Type 0 where
  pub few : n ≤ most
  pub owned : (x : ℕ) → a ≤ x → x < a + n → owned_at v x ≡ true
  pub ends : n < most → owned_at v (a + n) ≡ false

pub run_inside : {v : List Cell} {a n : ℕ} → 1 ≤ n → Run v a n 5 → a + n ≤ length v
run_inside {v} {a} {n} s r = omega (arith, owned_inside v (a + (n - 1)) (r.owned (a + (n - 1)) (omega arith) (omega arith)))

-- from one cell on there is only one
no_longer : {v : List Cell} {a n m most : ℕ} → Run v a n most → Run v a m most → m ≤ n
no_longer {v} {a} {n} {m} r q = by_end (ltb n m) refl
  where
    by_end : (t : Bool) → ltb n m ≡ t → m ≤ n
    by_end true f =
        let l = ltb-true n m f in
        false_true (sym (r.ends (omega (arith, q.few))) ∙ q.owned (a + n) (omega arith) (omega arith))
    by_end false f = ltb-false n m f

pub one_run : {v : List Cell} {a n m most : ℕ} → Run v a n most → Run v a m most → n ≡ m
one_run r q = omega (arith, no_longer r q, no_longer q r)

pub run_of : (v : List Cell) (a most : ℕ) → Run v a (neighbours v a most) most
unfolding neighbours
run_of v a zero = record {
  few = omega arith;
  owned = λ x i l. let z : ⊥ = omega arith in absurd z;
  ends = λ l. let z : ⊥ = omega arith in absurd z;
}
run_of v a (suc most) = by_mark (owned_at v a) refl (neighbours v (a + 1) most) (run_of v (a + 1) most)
  where
    by_mark : (t : Bool) → owned_at v a ≡ t → (n : ℕ) → Run v (a + 1) n most → Run v a (pick t (suc n) 0) (suc most)
    by_mark true e n r = record {
      few = omega (arith, r.few);
      owned = λ x i l. by_first x i l (eqb a x) refl;
      ends = λ l. subst (λ (x : ℕ). owned_at v x ≡ false) (omega arith) (r.ends (omega arith));
    }
      where
        by_first : (x : ℕ) → a ≤ x → x < a + suc n → (u : Bool) → eqb a x ≡ u → owned_at v x ≡ true
        by_first x i l true f = subst (λ (y : ℕ). owned_at v y ≡ true) (eqb-true a x f) e
        by_first x i l false f = let d = eqb-false a x f in r.owned x (omega arith) (omega arith)
    by_mark false e n r = record {
      few = omega arith;
      owned = λ x i l. let z : ⊥ = omega arith in absurd z;
      ends = λ l. subst (λ (x : ℕ). owned_at v x ≡ false) (omega arith) e;
    }

-- ---- the cards

-- what k steps come to from a on: an unmarked cell is passed, marked ones are taken as a card
pub data Cut (v : List Cell) : ℕ → ℕ → List Block → Type 0 where
  no_steps : {a : ℕ} → Cut v 0 a []
  passes : {k a : ℕ} {bs : List Block} → owned_at v a ≡ false → Cut v k (a + 1) bs → Cut v (suc k) a bs
  takes :
      {k a n : ℕ} {bs : List Block} → 1 ≤ n → Run v a n 5 → Cut v k (a + n) bs
      → Cut v (suc k) a (record { location = a; cells = n } ∷ bs)

cut_is : (v : List Cell) (k a : ℕ) → Cut v k a (blocks_from k v a)
unfolding blocks_from
cut_is v zero a = no_steps
cut_is v (suc k) a = by_run (neighbours v a 5) refl (run_of v a 5) (λ (n : ℕ). cut_is v k (a + n))
  where
    by_run : (n : ℕ) → neighbours v a 5 ≡ n → Run v a n 5 → ((m : ℕ) → Cut v k (a + m) (blocks_from k v (a + m)))
        → Cut v (suc k) a (blocks_from (suc k) v a)
    by_run zero e r go =
        let none : owned_at v a ≡ false = subst (λ (x : ℕ). owned_at v x ≡ false) (omega arith) (r.ends (omega arith)) in
        rw (e, blocks_from) (passes none (go 1))
    by_run (suc n) e r go = rw (e, blocks_from) (takes {n = suc n} (omega arith) r (go (suc n)))

-- from the cell a on these cards are ahead, and there are steps enough to the last cell
pub record Ahead (v : List Cell) (a : ℕ) (bs : List Block) : Type 0 where
  pub steps : ℕ
  pub enough : 1000 ≤ a + steps
  pub cut : Cut v steps a bs

steps_ahead : (v : List Cell) (k a : ℕ) → 1000 ≤ a + k → Ahead v a (blocks_from k v a)
steps_ahead v k a l = record { steps = k; enough = l; cut = cut_is v k a }

pub all_ahead : (v : List Cell) → Ahead v 1 (blocks_in v)
all_ahead v = steps_ahead v _ _ (omega arith)

-- there is no card behind the last cell
pub none_behind : {v : List Cell} {k a : ℕ} {bs : List Block} → Cut v k a bs → length v ≤ a → bs ≡ []
none_behind no_steps l = refl
none_behind (passes o c) l = none_behind c (omega arith)
none_behind {v} (takes {a = a} s r c) l =
    let z : ⊥ = omega (arith, owned_inside v a (r.owned a (omega arith) (omega arith))) in absurd z

-- ---- their first cells

abbrev pub starts_of : List Block → List ℕ
starts_of bs = map (λ (b : Block). b.location) bs

pub data Each (P : ℕ → Type 0) : List ℕ → Type 0 where
  each_none : Each P []
  each_more : {s : ℕ} {ss : List ℕ} → P s → Each P ss → Each P (s ∷ ss)

pub each_as : {P Q : ℕ → Type 0} {ss : List ℕ} → ((s : ℕ) → P s → Q s) → Each P ss → Each Q ss
each_as f each_none = each_none
each_as f (each_more {s = s} p ps) = each_more (f s p) (each_as f ps)

-- s and t are not both among five neighbours, or fewer, that are all marked
abbrev pub Apart : List Cell → ℕ → ℕ → Type 0
Apart v s t = (l n : ℕ) → n ≤ 5 → ((x : ℕ) → l ≤ x → x < l + n → owned_at v x ≡ true) → l ≤ s → t < l + n → ⊥

-- each of these cells is so with every later one
pub data Spread (v : List Cell) : List ℕ → Type 0 where
  spread_none : Spread v []
  spread_more : {s : ℕ} {ss : List ℕ} → Each (Apart v s) ss → Spread v ss → Spread v (s ∷ ss)

-- each is marked, and none stands before the place from which they were looked for
abbrev pub Start : List Cell → ℕ → ℕ → Type 0
Start v a s = (a ≤ s) × (owned_at v s ≡ true)

pub starts_marked : {v : List Cell} {k a : ℕ} {bs : List Block} → Cut v k a bs → Each (Start v a) (starts_of bs)
starts_marked no_steps = each_none
starts_marked {v} {a = a} (passes o c) = each_as (λ (s : ℕ) (h : Start v (a + 1) s). (omega arith, h.1)) (starts_marked c)
starts_marked {v} (takes {a = a} {n = n} s r c) =
    let first : Start v a a = (omega arith, r.owned a (omega arith) (omega arith)) in
    each_more first (each_as (λ (s : ℕ) (h : Start v (a + n) s). (omega arith, h.1)) (starts_marked c))

apart_behind : {v : List Cell} {a n : ℕ} → Run v a n 5 → (t : ℕ) → a + n ≤ t → Apart v a t
apart_behind {v} {a} {n} r t h l m few owned from upto = by_few (ltb n 5) refl
  where
    by_few : (u : Bool) → ltb n 5 ≡ u → ⊥
    by_few true f = false_true (sym (r.ends (ltb-true n 5 f)) ∙ owned (a + n) (omega arith) (omega arith))
    by_few false f = let g = ltb-false n 5 f in omega arith

pub starts_apart : {v : List Cell} {k a : ℕ} {bs : List Block} → Cut v k a bs → Spread v (starts_of bs)
starts_apart no_steps = spread_none
starts_apart (passes o c) = starts_apart c
starts_apart {v} (takes {a = a} {n = n} s r c) =
    spread_more (each_as (λ (t : ℕ) (h : Start v (a + n) t). apart_behind r t h.0) (starts_marked c)) (starts_apart c)
