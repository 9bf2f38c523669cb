-- The deck that is made goes by the cells from 001 on alone: cells that agree from there on make the same deck. Assumes nothing.
use Prim.Native.Nat.{ℕ, zero, suc, ◌+◌, ◌≤◌}
use native.Mathlib.Omega.{arith}
use mathlib.Core.Path.{◌≡◌, refl, ap, ap₂}
use mathlib.Core.List.{List, [], ◌∷◌, ◌++◌}
use mathlib.Core.Bool.{Bool}
use Rattle.rules.specs.Words.{pick}
use Rattle.rules.specs.Drum.{cell_at, is_owned, shown}
use Rattle.rules.specs.Cards.{data_card, first_card}
use Rattle.rules.specs.Orders.{words_from}
use Rattle.rules.specs.Making.{neighbours, blocks_from, cards_for, deck_made}
use Rattle.rules.specs.Answers.{Cell}

module _ (u v : List Cell) (same : (x : ℕ) → 1 ≤ x → cell_at u x ≡ cell_at v x) where
  neighbours_same : (a n : ℕ) → 1 ≤ a → neighbours u a n ≡ neighbours v a n
  unfolding neighbours
  neighbours_same a zero l = refl
  neighbours_same a (suc n) l =
      ap₂ (λ (t : Bool) (k : ℕ). pick t (suc k) 0) (ap is_owned (same a l)) (neighbours_same (a + 1) n (omega arith))

  words_same : (b n : ℕ) → 1 ≤ b → words_from u b n ≡ words_from v b n
  unfolding words_from
  words_same b zero l = refl
  words_same b (suc n) l =
      ap₂ (λ (ws : List ℕ) (w : ℕ). ws ++ (w ∷ [])) (words_same b n l) (ap shown (same (b + n) (omega arith)))

  cards_same : (problem k a number : ℕ) → 1 ≤ a → cards_for u problem number (blocks_from k u a) ≡ cards_for v problem number (blocks_from k v a)
  unfolding blocks_from cards_for
  cards_same problem zero a number l = refl
  cards_same problem (suc k) a number l =
      by_count (neighbours v a 5) (neighbours_same a 5 l) refl (λ (b i : ℕ) (m : 1 ≤ b). cards_same problem k b i m)
    where
      by_count : (n : ℕ) → neighbours u a 5 ≡ n → neighbours v a 5 ≡ n
          → ((b i : ℕ) → 1 ≤ b → cards_for u problem i (blocks_from k u b) ≡ cards_for v problem i (blocks_from k v b))
          → cards_for u problem number (blocks_from (suc k) u a) ≡ cards_for v problem number (blocks_from (suc k) v a)
      by_count zero e f go = rw (e, f, blocks_from) (go (a + 1) number (omega arith))
      by_count (suc n) e f go =
          rw (e, f, blocks_from, cards_for)
          (ap₂ (λ (ws rest : List ℕ). data_card number a ws problem ++ rest) (words_same a (suc n) l) (go (a + suc n) (number + 1) (omega arith)))

  pub deck_same : (order problem : ℕ) → deck_made u order problem ≡ deck_made v order problem
  unfolding deck_made
  deck_same order problem = ap (λ (cards : List ℕ). cards ++ first_card order problem) (cards_same problem 999 1 1 (omega arith))
