-- What may be written, and the three ways a writer ends: a field is out of range, the room is too small, or the whole card is written.
-- Assumes nothing.
use mathlib.Core.Path.{◌≡◌, refl, sym, ap, ap₂, ◌∙◌}
use mathlib.Core.List.{List, [], ◌∷◌, ◌++◌}
use mathlib.Core.Bool.{Bool, true, false, ◌&&◌}
use Rattle.std.specs.List.{list_all}
use Prim.Native.Nat.{ℕ, zero, suc, ◌+◌, ◌≤◌, ◌<◌}
use native.Mathlib.Nat.{le_of_suc-le-suc}
use native.Mathlib.Omega.{arith}
use lib.Dec.{leb}
use lib.ListN.{length, take}
use borrow.Author.Tests.{le-leb, lt-leb, leb-true}
use Rattle.rules.specs.Words.{pick, both, is_word}
use Rattle.rules.specs.Cards.{cells_fit}
use Rattle.rules.specs.Drum.{word_at}
use Rattle.rules.specs.Orders.{words_from}
use Rattle.rules.specs.Running.{over}
use Rattle.rules.specs.Answers.{Cell}
use Rattle.rules.proofs.Tests.{both_first, both_second}
use Rattle.rules.proofs.Fields.{AllWords}
use Rattle.card.specs.Written.{all_words, data_may, fits, Wrote, WroteLine}

-- ---- what may be written, as facts and as the test has it

words_tested : (ws : List ℕ) → all_words ws ≡ true → AllWords ws
unfolding all_words
words_tested [] e i l = absurd (let z : ⊥ = omega arith in z)
words_tested (w ∷ ws) e zero l = leb-true w 19999999999 (both_first (is_word w) (all_words ws) e)
words_tested (w ∷ ws) e (suc i) l = words_tested ws (both_second (is_word w) (all_words ws) e) i (le_of_suc-le-suc l)

all_tested : (ws : List ℕ) → AllWords ws → all_words ws ≡ true
unfolding all_words
all_tested [] h = refl
all_tested (w ∷ ws) h = ap₂ both (le-leb w 19999999999 (h 0 (omega arith))) (all_tested ws (λ i l. h (suc i) (omega arith)))

pub words_listed : (ws : List ℕ) → list_all is_word ws ≡ all_words ws
unfolding all_words
words_listed [] = refl
words_listed (w ∷ ws) = ap (λ (t : Bool). is_word w && t) (words_listed ws) ∙ same (is_word w) (all_words ws)
  where
    same : (x y : Bool) → (x && y) ≡ both x y
    same true y = refl
    same false y = refl

-- the words of cells that hold words
one_more : (ws : List ℕ) (w : ℕ) → all_words ws ≡ true → w ≤ 19999999999 → all_words (ws ++ (w ∷ [])) ≡ true
unfolding all_words
one_more [] w e l = simp (le-leb w 19999999999 l)
one_more (x ∷ ws) w e l = by_test (is_word x) e (one_more ws w)
  where
    by_test : (t : Bool) → both t (all_words ws) ≡ true → (all_words ws ≡ true → w ≤ 19999999999 → all_words (ws ++ (w ∷ [])) ≡ true)
        → both t (all_words (ws ++ (w ∷ []))) ≡ true
    by_test true f k = k f l
    by_test false f k = f

pub all_words_lem : (v : List Cell) (b n : ℕ) → ((a : ℕ) → word_at v a ≤ 19999999999) → all_words (words_from v b n) ≡ true
unfolding words_from all_words
all_words_lem v b zero h = refl
all_words_lem v b (suc n) h = one_more (words_from v b n) (word_at v (b + n)) (all_words_lem v b n h) (h (b + n))

pub record May (number location : ℕ) (words : List ℕ) (n problem : ℕ) : Type 0 where
  pub numbered : number ≤ 9999
  pub some : 1 ≤ n
  pub few : n ≤ 5
  pub from : 1 ≤ location
  pub upto : location + n ≤ 1000
  pub posed : problem ≤ 999
  pub signed : AllWords (take n words)

pub may_is : (number location : ℕ) (words : List ℕ) (n problem : ℕ) → data_may number location words n problem ≡ true → May number location words n problem
may_is number location words n problem e =
    let e₁ = both_second (leb number 9999) _ e in
    let e₂ = both_second (leb 1 n) _ e₁ in
    let e₃ = both_second (leb n 5) _ e₂ in
    let e₄ = both_second (cells_fit location n) _ e₃ in
    let c = both_first (cells_fit location n) _ e₃ in
    record {
      numbered = leb-true number 9999 (both_first (leb number 9999) _ e);
      some = leb-true 1 n (both_first (leb 1 n) _ e₁);
      few = leb-true n 5 (both_first (leb n 5) _ e₂);
      from = leb-true 1 location (both_first (leb 1 location) _ c);
      upto = leb-true (location + n) 1000 (both_second (leb 1 location) _ c);
      posed = leb-true problem 999 (both_first (leb problem 999) _ e₄);
      signed = words_tested (take n words) (both_second (leb problem 999) _ e₄);
    }

pub is_may : (number location : ℕ) (words : List ℕ) (n problem : ℕ) → May number location words n problem → data_may number location words n problem ≡ true
is_may number location words n problem m =
    simp (
      le-leb number 9999 m.numbered,
      le-leb 1 n m.some,
      le-leb n 5 m.few,
      le-leb 1 location m.from,
      le-leb (location + n) 1000 m.upto,
      le-leb problem 999 m.posed,
      all_tested (take n words) m.signed,
    )

-- ---- how a writer ends

refused : (may : Bool) (card before : List ℕ) → fits may card before ≡ false → Wrote may card before false before
refused may card before e = record { answer = sym e; bytes = ap (λ (t : Bool). pick t (over card before) before) (sym e) }

pub out_of_range : (may : Bool) (card before : List ℕ) → may ≡ false → Wrote may card before false before
out_of_range may card before e = refused may card before (ap (λ (t : Bool). both t (leb (length card) (length before))) e)

both_false : (t : Bool) → both t false ≡ false
both_false true = refl
both_false false = refl

pub no_room : (may : Bool) (card before : List ℕ) → length before < length card → Wrote may card before false before
no_room may card before h =
    refused may card before (ap (both may) (lt-leb (length card) (length before) h) ∙ both_false may)

pub whole_card_lem : (may : Bool) (card before after : List ℕ) → may ≡ true → length card ≤ length before → after ≡ over card before
    → Wrote may card before true after
whole_card_lem may card before after e h q =
    let t : fits may card before ≡ true =
    ap (λ (t : Bool). both t (leb (length card) (length before))) e ∙ le-leb (length card) (length before) h in
    record { answer = sym t; bytes = q ∙ ap (λ (s : Bool). pick s (over card before) before) (sym t) }

-- and the other way: where a card may be written and there is room for it, it was
pub was_whole : {may : Bool} {card before after : List ℕ} {said : Bool} → Wrote may card before said after → may ≡ true → length card ≤ length before
    → (said ≡ true) × (after ≡ over card before)
was_whole {may} {card} {before} w e h =
    let t : fits may card before ≡ true = ap₂ both e (le-leb (length card) (length before) h) in
    (w.answer ∙ t, w.bytes ∙ ap (λ (s : Bool). pick s (over card before) before) t)

pub no_line : (line before : List ℕ) → length before < length line → WroteLine line before 0 before
no_line line before h =
    let t : false ≡ leb (length line) (length before) = sym (lt-leb (length line) (length before) h) in
    record {
      answer = ap (λ (s : Bool). pick s (length line) 0) t;
      bytes = ap (λ (s : Bool). pick s (over line before) before) t;
    }

pub whole_line : (line before after : List ℕ) (n : ℕ) → n ≡ length line → n ≤ length before → after ≡ over line before → WroteLine line before n after
whole_line line before after n e h q =
    let t : true ≡ leb (length line) (length before) = sym (ap (λ (k : ℕ). leb k (length before)) (sym e) ∙ le-leb n (length before) h) in
    record {
      answer = e ∙ ap (λ (s : Bool). pick s (length line) 0) t;
      bytes = q ∙ ap (λ (s : Bool). pick s (over line before) before) t;
    }
