-- PCH in the table of codes, where only its own code leads to it, and how long its cards are. Assumes nothing.
use Rattle.std.proofs.Common.{Ok, Some}
use Prim.Native.Nat.{ℕ, zero, suc, ◌+◌, ◌-◌, ◌*◌, ◌≤◌}
use mathlib.Core.Path.{◌≡◌, refl, sym, ap, ◌∙◌}
use mathlib.Core.List.{List, [], ◌∷◌}
use mathlib.Core.Bool.{Bool, true, false}
use Rattle.std.proofs.lemmas.Option.{none-some, some_pair_parts}
use native.Mathlib.Omega.{arith}
use lib.Dec.{eqb, leb, ltb}
use lib.ListN.{length, length-append}
use borrow.Author.Tests.{leb-true, eqb-true, eqb-false, ltb-true, ltb-false}
use Rattle.rules.specs.Words.{pick, both}
use Rattle.rules.specs.Drum.{word_at}
use Rattle.rules.specs.Cards.{data_card}
use Rattle.rules.specs.Codes.{Row, codes, lookup, pch_code, noop_code, code_in, checked, and_then, unless, block_fits, owned_from}
use Rattle.rules.specs.Machine.{Machine}
use Rattle.rules.specs.Orders.{words_from, five, card_punched, cards_punched, punch_size}
use Rattle.rules.specs.Running.{code_done}
use Rattle.rules.specs.Answers.{Built, Cell}
use Rattle.rules.specs.declared.Refusal.TheVariants.{BadAddress, Unmarked}
use Rattle.rules.specs.declared.Class.{Class}
use Rattle.rules.specs.declared.Class.TheVariants.{Free, TwoNumbers, OneNumber, OneWord, Changed, Linked, BlockOut, BlockIn, BlockMoved, Compared}
use Rattle.rules.specs.declared.Operation.{Operation}
use Rattle.rules.specs.declared.Operation.TheVariants.{Reckon, Move, Go, Loop, Change, Read, Pch, Trace, MoveBlock, Compare}
use Rattle.rules.proofs.Tests.{both_first, both_second, false_true}
use Rattle.rules.proofs.Fields.{length_data}

-- ---- PCH in the table of codes

abbrev pub is_pch : Operation → Bool
is_pch (Reckon r) = false
is_pch Move = false
is_pch (Go g) = false
is_pch (Loop x y z) = false
is_pch (Change k x) = false
is_pch Read = false
is_pch Pch = true
is_pch (Trace t) = false
is_pch MoveBlock = false
is_pch (Compare x) = false

abbrev pub is_out : Class → Bool
is_out Free = false
is_out TwoNumbers = false
is_out OneNumber = false
is_out OneWord = false
is_out Changed = false
is_out Linked = false
is_out BlockOut = true
is_out BlockIn = false
is_out BlockMoved = false
is_out Compared = false

-- a row of PCH has its code and its class
abbrev pub row_suits : Row → Bool
row_suits r = pick (is_pch r.operation) (both (is_out r.class) (eqb r.code pch_code)) true

unfoldable pub all_suit : List Row → Bool
all_suit [] = true
all_suit (r ∷ rs) = both (row_suits r) (all_suit rs)

pub all_suit_lem : all_suit codes ≡ true
unfolding all_suit codes
all_suit_lem = refl

pub lookup_suits : (code : ℕ) (rs : List Row) → all_suit rs ≡ true → (o : Operation) (k : Class) → lookup code rs ≡ Some (o, k) → is_pch o ≡ true
    → (is_out k ≡ true) × (code ≡ pch_code)
unfolding lookup all_suit
lookup_suits code [] h o k e t = absurd (none-some (o, k) e)
lookup_suits code (r ∷ rs) h o k e t = by_code (eqb code r.code) refl (lookup_suits code rs (both_second (row_suits r) (all_suit rs) h) o k)
  where
    by_code : (b : Bool) → eqb code r.code ≡ b → (lookup code rs ≡ Some (o, k) → is_pch o ≡ true → (is_out k ≡ true) × (code ≡ pch_code))
        → (is_out k ≡ true) × (code ≡ pch_code)
    by_code true f g =
        let q : ◌≡◌ {A = Built} (Some (r.operation, r.class)) (Some (o, k)) = rw f at e in
        let s : both (is_out r.class) (eqb r.code pch_code) ≡ true =
        rw (ap is_pch (some_pair_parts r.operation o r.class k q).0 ∙ t) at (both_first (row_suits r) (all_suit rs) h) in (
          ap is_out (sym (some_pair_parts r.operation o r.class k q).1) ∙ both_first (is_out r.class) (eqb r.code pch_code) s,
          eqb-true code r.code f ∙ eqb-true r.code pch_code (both_second (is_out r.class) (eqb r.code pch_code) s),
        )
    by_code false f g = g (rw f at e) t

-- in traced mode it is not looked up
pub not_traced : (t : Bool) (w : ℕ) → code_done t w ≡ pch_code → t ≡ false
not_traced false w e = refl
not_traced true w e = by_code (eqb (code_in w) pch_code) refl e
  where
    by_code : (b : Bool) → eqb (code_in w) pch_code ≡ b → pick b noop_code (code_in w) ≡ pch_code → true ≡ false
    by_code true f g = let z : ⊥ = omega arith in absurd z
    by_code false f g = absurd (eqb-false (code_in w) pch_code f g)

-- what passes its checks has a block that begins behind 000
pub passes_block : (k : Class) (v : List Cell) (a b c : ℕ) → is_out k ≡ true → checked k v a b c ≡ (Ok tt) → 1 ≤ b
unfolding checked
passes_block Free v a b c t e = false_true t
passes_block TwoNumbers v a b c t e = false_true t
passes_block OneNumber v a b c t e = false_true t
passes_block OneWord v a b c t e = false_true t
passes_block Changed v a b c t e = false_true t
passes_block Linked v a b c t e = false_true t
passes_block BlockOut v a b c t e = by_block (block_fits b c) refl e
  where
    by_block : (u : Bool) → block_fits b c ≡ u → and_then (unless u BadAddress) (and_then (unless (owned_from v b (c + 1 - b)) Unmarked) (Ok tt)) ≡ (Ok tt) → 1 ≤ b
    by_block true f g = leb-true 1 b (both_first (leb 1 b) (leb b c) f)
    by_block false f g = let z : ◌≡◌ {A = ℕ} 0 1 = cc in let y : ⊥ = omega arith in absurd y
passes_block BlockIn v a b c t e = false_true t
passes_block BlockMoved v a b c t e = false_true t
passes_block Compared v a b c t e = false_true t

-- ---- how long cards are

pub words_long : (v : List Cell) (b n : ℕ) → length (words_from v b n) ≡ n
unfolding words_from
words_long v b zero = refl
words_long v b (suc n) = length-append (words_from v b n) (word_at v (b + n) ∷ []) ∙ omega (arith, words_long v b n)

pub card_bytes : (v : List Cell) (number b n problem : ℕ) → length (data_card number b (words_from v b n) problem) ≡ 11 + 11 * n
card_bytes v number b n problem = length_data number b (words_from v b n) problem ∙ ap (λ (k : ℕ). 11 + 11 * k) (words_long v b n)

card_long : (m : Machine) (b n : ℕ) → length (card_punched m b n).sent ≡ length m.sent + (11 + 11 * n)
card_long m b n = length-append m.sent _ ∙ ap (λ (k : ℕ). length m.sent + k) (card_bytes m.cells _ b n _)

five_fits : (n : ℕ) → 1 ≤ n → (1 ≤ five n) × (five n ≤ n) × (punch_size n ≡ 11 + 11 * five n + punch_size (n - five n))
five_fits n l = by_few (ltb n 5) refl
  where
    by_few : (t : Bool) → ltb n 5 ≡ t → (1 ≤ pick t n 5) × (pick t n 5 ≤ n) × (punch_size n ≡ 11 + 11 * pick t n 5 + punch_size (n - pick t n 5))
    by_few true f = let k = ltb-true n 5 f in (l, omega arith, omega arith)
    by_few false f = let k = ltb-false n 5 f in (omega arith, omega arith, omega arith)

pub cards_long : (j : ℕ) (m : Machine) (b n : ℕ) → n ≤ j → length (cards_punched j m b n).sent ≡ length m.sent + punch_size n
unfolding cards_punched
cards_long zero m b n l = omega arith
cards_long (suc j) m b n l = by_none (eqb n 0) refl (cards_long j (card_punched m b (five n)) (b + five n) (n - five n))
  where
    by_none : (t : Bool) → eqb n 0 ≡ t
        → (n - five n ≤ j → length (cards_punched j (card_punched m b (five n)) (b + five n) (n - five n)).sent ≡ length (card_punched m b (five n)).sent + punch_size (n - five n))
        → length (cards_punched (suc j) m b n).sent ≡ length m.sent + punch_size n
    by_none true e r = let z = eqb-true n 0 e in rw (e, cards_punched) (omega arith)
    by_none false e r =
        let z = eqb-false n 0 e in
        let f = five_fits n (omega arith) in
        rw (e, cards_punched) (r (omega (arith, f.0, f.1)) ∙ omega (arith, card_long m b (five n), f.2))
