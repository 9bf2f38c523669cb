-- How long a deck that is made can be: eleven bytes for each cell and each card, and seven for the first order. Behind a card of fewer than
-- five cells stands an unmarked cell, or the drum's end, so a drum with all cells marked has the longest. Assumes nothing.
use Prim.Native.Nat.{ℕ, ◌+◌, ◌*◌, ◌≤◌}
use native.Mathlib.Omega.{arith}
use mathlib.Core.Path.{◌≡◌, refl, sym, ap, ◌∙◌}
use mathlib.Core.List.{List, [], ◌∷◌}
use mathlib.Core.Bool.{Bool, true, false}
use lib.Dec.{ltb}
use lib.ListN.{length, length-append}
use borrow.Author.Tests.{ltb-true, ltb-false}
use Rattle.rules.specs.Cards.{data_card, first_card}
use Rattle.rules.specs.Codes.{owned_at}
use Rattle.rules.specs.Orders.{words_from}
use Rattle.rules.specs.Making.{Block, blocks_in, cards_for, deck_made}
use Rattle.rules.specs.Answers.{Cell}
use Rattle.rules.proofs.Tests.{false_true}
use Rattle.rules.proofs.Fields.{length_first}
use Rattle.rules.proofs.Punching.{card_bytes}
use Rattle.rules.proofs.Blocks.{run_inside, Cut, no_steps, passes, takes, all_ahead, none_behind}

-- the elevens of bytes that these cards have: one for each cell, and one for each card
unfoldable pub elevens : List Block → ℕ
elevens [] = 0
elevens (b ∷ bs) = 1 + b.cells + elevens bs

pub cards_bytes : (v : List Cell) (problem number : ℕ) (bs : List Block) → length (cards_for v problem number bs) ≡ 11 * elevens bs
unfolding cards_for elevens
cards_bytes v problem number [] = refl
cards_bytes v problem number (b ∷ bs) =
    length-append (data_card number b.location (words_from v b.location b.cells) problem) (cards_for v problem (number + 1) bs)
    ∙ omega (arith, card_bytes v number b.location b.cells problem, cards_bytes v problem (number + 1) bs)

pub deck_bytes : (v : List Cell) (order problem : ℕ) → length (deck_made v order problem) ≡ 7 + 11 * elevens (blocks_in v)
unfolding deck_made
deck_bytes v order problem =
    length-append (cards_for v problem 1 (blocks_in v)) (first_card order problem)
    ∙ omega (arith, length_first order problem, cards_bytes v problem 1 (blocks_in v))

-- of those from a on there are at most so many, and fewer where a is unmarked
record Few (v : List Cell) (a n : ℕ) : Type 0 where
  all : 5 * n + 6 * a ≤ 6004
  behind : owned_at v a ≡ false → 5 * n + 6 * a ≤ 6000

few_from : {v : List Cell} {k a : ℕ} {bs : List Block} → Cut v k a bs → length v ≡ 1000 → a ≤ 1000 → Few v a (elevens bs)
unfolding elevens
few_from no_steps l u = record { all = omega arith; behind = λ o. omega arith }
few_from {v} {a = a} {bs = bs} (passes o c) l u = by_end (ltb a 1000) refl (λ (i : a + 1 ≤ 1000). few_from c l i)
  where
    by_end : (t : Bool) → ltb a 1000 ≡ t → (a + 1 ≤ 1000 → Few v (a + 1) (elevens bs)) → Few v a (elevens bs)
    by_end true f go =
        let h = ltb-true a 1000 f in
        let r : Few v (a + 1) (elevens bs) = go (omega arith) in
        record { all = omega (arith, r.all); behind = λ e. omega (arith, r.all) }
    by_end false f go =
        let h = ltb-false a 1000 f in
        let z : elevens bs ≡ 0 = ap elevens (none_behind c (omega arith)) in
        record { all = omega arith; behind = λ e. omega arith }
few_from {v} (takes {a = a} {n = n} {bs = bs} s r c) l u =
    let here = r.owned a (omega arith) (omega arith) in
    record { all = by_five (ltb n 5) refl (few_from c l (omega (arith, run_inside s r))); behind = λ e. false_true (sym e ∙ here) }
  where
    by_five : (t : Bool) → ltb n 5 ≡ t → Few v (a + n) (elevens bs) → 5 * (1 + n + elevens bs) + 6 * a ≤ 6004
    by_five true f rest = omega (arith, rest.behind (r.ends (ltb-true n 5 f)))
    by_five false f rest = omega (arith, rest.all, ltb-false n 5 f, r.few)

pub made_short : (v : List Cell) (order problem : ℕ) → length v ≡ 1000 → length (deck_made v order problem) ≤ 13196
made_short v order problem l =
    let r : Few v 1 (elevens (blocks_in v)) = few_from (all_ahead v).cut l (omega arith) in
    omega (arith, deck_bytes v order problem, r.all)
