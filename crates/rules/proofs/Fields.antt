-- Words written and read, one and many, and how long each field and card is. What stands at place a of d is said as
-- `drop a d ≡ field ++ rest`. Assumes nothing.
use mathlib.Core.Path.{◌≡◌, refl, sym, ap, ap₂, subst, ◌∙◌}
use mathlib.Core.List.{List, [], ◌∷◌, ◌++◌, append_assoc, append-nil}
use mathlib.Core.Bool.{Bool, true, false}
use Prim.Native.Nat.{ℕ, zero, suc, ◌+◌, ◌*◌, ◌-◌, ◌/◌, ◌%◌, ◌^◌, ◌≤◌, ◌<◌}
use native.Mathlib.Nat.{add-zero, add_comm, le_of_suc-le-suc}
use native.Mathlib.Numerals.{add-one}
use native.Mathlib.Omega.{arith}
use lib.Dec.{ltb, eqb}
use lib.ListN.{length, get_or, take, drop, length-append, get_or-append}
use lib.Seq.{get_or-drop, drop-cons, drop-drop, drop_at, take-add, take-suc}
use borrow.Author.Tests.{ltb-true, ltb-false, lt-ltb, le-ltb, eqb-true, le-leb}
use Rattle.rules.specs.Words.{pick}
use Rattle.rules.specs.Cards.{digits, sign_byte, word_bytes, words_bytes, data_card, first_card, trace_card, stop_card, width, refusal_line, is_digit, is_sign, number_in, word_in}
use Rattle.rules.proofs.Digits.{length_digits, digits_at, digits_low, number_low, number_below, number_written, AllDigits}

-- ---- lengths

pub length_word : (w : ℕ) → length (word_bytes w) ≡ 11
unfolding word_bytes
length_word w = ap suc (length_digits 10 w)

pub length_words : (ws : List ℕ) → length (words_bytes ws) ≡ 11 * length ws
unfolding words_bytes
length_words [] = refl
length_words (w ∷ ws) = length-append (word_bytes w) (words_bytes ws) ∙ omega (arith, length_word w, length_words ws)

pub length_data : (number location : ℕ) (ws : List ℕ) (problem : ℕ) → length (data_card number location ws problem) ≡ 11 + 11 * length ws
unfolding data_card
length_data number location ws problem = simp (length-append, length_digits, length_words) (omega arith)

pub length_first : (order problem : ℕ) → length (first_card order problem) ≡ 7
unfolding first_card
length_first order problem = simp (length-append, length_digits)

pub length_trace : (number location : ℕ) (ws : List ℕ) (problem : ℕ) → length (trace_card number location ws problem) ≡ 11 + 11 * length ws
unfolding trace_card
length_trace number location ws problem = simp (length-append, length_digits, length_words) (omega arith)

pub length_stop : (number location count shown : ℕ) → length (stop_card number location count shown) ≡ 24
unfolding stop_card
length_stop number location count shown = simp (length-append, length_digits, length_word)

-- a number is written with at most so many digits and one
pub width_small : (n x : ℕ) → width n x ≤ n + 1
unfolding width
width_small zero x = omega arith
width_small (suc n) x = by_test (ltb x 10) (width_small n (x / 10))
  where
    by_test : (t : Bool) → width n (x / 10) ≤ n + 1 → pick t 1 (suc (width n (x / 10))) ≤ suc n + 1
    by_test true h = omega arith
    by_test false h = omega arith

pub length_line : (number place : ℕ) → length (refusal_line number place) ≡ width 20 number + 1 + width 20 place
unfolding refusal_line
length_line number place = simp (length-append, length_digits) (omega arith)

-- ---- words one by one

words_append : (us vs : List ℕ) → words_bytes (us ++ vs) ≡ words_bytes us ++ words_bytes vs
unfolding words_bytes
words_append [] vs = refl
words_append (u ∷ us) vs =
    ap (λ (l : List ℕ). word_bytes u ++ l) (words_append us vs) ∙ sym (append_assoc (word_bytes u) (words_bytes us) (words_bytes vs))

pub words_more : (ws : List ℕ) (i : ℕ) → i < length ws → words_bytes (take (i + 1) ws) ≡ words_bytes (take i ws) ++ word_bytes (get_or ws i 0)
unfolding words_bytes
words_more ws i h =
    ap words_bytes (ap (λ (k : ℕ). take k ws) (add-one i) ∙ take-suc ws i 0 h)
    ∙ words_append (take i ws) (get_or ws i 0 ∷ [])
    ∙ ap (λ (l : List ℕ). words_bytes (take i ws) ++ l) (append-nil (word_bytes (get_or ws i 0)))

-- ---- what stands behind a field of n bytes

pub behind : (d s r : List ℕ) (a n b : ℕ) → drop a d ≡ s ++ r → length s ≡ n → a + n ≡ b → drop b d ≡ r
behind d s r a n b e l q =
    ap (λ (k : ℕ). drop k d) (sym q) ∙ sym (drop-drop n a d) ∙ ap (drop n) e ∙ drop_at s r n l

first_there : (d r : List ℕ) (a b : ℕ) → drop a d ≡ b ∷ r → get_or d a 0 ≡ b
first_there d r a b e =
    ap (λ (k : ℕ). get_or d k 0) (sym (add-zero a)) ∙ sym (get_or-drop a d 0 0) ∙ ap (λ (l : List ℕ). get_or l 0 0) e

-- ---- what is written is digits, and signs with digits

digit_tested : (y : ℕ) → is_digit (48 + y % 10) ≡ true
digit_tested y = simp (le-leb 48 (48 + y % 10) (omega arith), le-leb (48 + y % 10) 57 (omega arith))

pub digits_there : (d r : List ℕ) (a n x : ℕ) → drop a d ≡ digits n x ++ r → AllDigits d a (a + n)
digits_there d r a n x e o i l =
    let q : o ≡ a + (o - a) = omega arith in
    let k : o - a < n = omega arith in
    ap (λ (p : ℕ). is_digit (get_or d p 0)) q
    ∙ ap is_digit (sym (get_or-drop a d (o - a) 0)
    ∙ ap (λ (s : List ℕ). get_or s (o - a) 0) e
    ∙ get_or-append (digits n x) r 0 (o - a) (omega (arith, length_digits n x))
    ∙ digits_at n x (o - a) k)
    ∙ digit_tested (x / 10 ^ (n - 1 - (o - a)))

-- a sign and ten digits stand at place a
pub record WordAt (d : List ℕ) (a : ℕ) : Type 0 where
  pub sign : is_sign (get_or d a 0) ≡ true
  pub figures : AllDigits d (a + 1) (a + 11)

sign_tested : (t : Bool) → is_sign (pick t 43 45) ≡ true
sign_tested true = refl
sign_tested false = refl

pub word_there : (d r : List ℕ) (a w : ℕ) → drop a d ≡ word_bytes w ++ r → WordAt d a
unfolding word_bytes
word_there d r a w e = record {
  sign = ap is_sign (first_there d (digits 10 w ++ r) a (sign_byte w) e) ∙ sign_tested (ltb w 10000000000);
  figures = λ o i l. digits_there d r (a + 1) 10 w (behind d (sign_byte w ∷ []) (digits 10 w ++ r) a 1 (a + 1) e refl refl) o i (omega arith);
}

-- ---- a word written and read

sign_read : (w : ℕ) → w ≤ 19999999999 → w % 10000000000 + pick (eqb (sign_byte w) 45) 10000000000 0 ≡ w
sign_read w h = go (ltb w 10000000000) refl
  where
    go : (t : Bool) → ltb w 10000000000 ≡ t → w % 10000000000 + pick (eqb (sign_byte w) 45) 10000000000 0 ≡ w
    go true e = rw e (omega (arith, ltb-true w 10000000000 e))
    go false e = rw e (omega (arith, ltb-false w 10000000000 e))

pub word_read : (d r : List ℕ) (a w : ℕ) → drop a d ≡ word_bytes w ++ r → w ≤ 19999999999 → word_in d a ≡ w
unfolding word_bytes word_in
word_read d r a w e h =
    let s : get_or d a 0 ≡ sign_byte w = first_there d (digits 10 w ++ r) a (sign_byte w) e in
    let n : number_in d (a + 1) 10 ≡ w % 10000000000 =
    number_low d r (a + 1) 10 w (behind d (sign_byte w ∷ []) (digits 10 w ++ r) a 1 (a + 1) e refl refl) in
    ap₂ (λ (x b : ℕ). x + pick (eqb b 45) 10000000000 0) n s ∙ sign_read w h

-- ---- words written and read

-- each is a word
abbrev pub AllWords : List ℕ → Type 0
AllWords ws = (i : ℕ) → i < length ws → get_or ws i 0 ≤ 19999999999

-- the words from place a of d on are ws
abbrev pub AreAt : List ℕ → ℕ → List ℕ → Type 0
AreAt d a ws = (i : ℕ) → i < length ws → word_in d (a + 11 * i) ≡ get_or ws i 0

next_word : (d r : List ℕ) (a w : ℕ) (ws : List ℕ) → drop a d ≡ words_bytes (w ∷ ws) ++ r → drop (a + 11) d ≡ words_bytes ws ++ r
unfolding words_bytes
next_word d r a w ws e =
    behind d (word_bytes w) (words_bytes ws ++ r) a 11 (a + 11) (e ∙ append_assoc (word_bytes w) (words_bytes ws) r) (length_word w) refl

pub words_read : (d r : List ℕ) (a : ℕ) (ws : List ℕ) → drop a d ≡ words_bytes ws ++ r → AllWords ws → AreAt d a ws
unfolding words_bytes
words_read d r a [] e h i l = absurd (let z : ⊥ = omega arith in z)
words_read d r a (w ∷ ws) e h zero l =
    let q : a + 11 * 0 ≡ a = omega arith in
    ap (word_in d) q ∙ word_read d (words_bytes ws ++ r) a w (e ∙ append_assoc (word_bytes w) (words_bytes ws) r) (h 0 l)
words_read d r a (w ∷ ws) e h (suc i) l =
    let q : a + 11 * suc i ≡ a + 11 + 11 * i = omega arith in
    ap (word_in d) q ∙ words_read d r (a + 11) ws (next_word d r a w ws e) (λ j k. h (suc j) (omega arith)) i (le_of_suc-le-suc l)

pub words_there : (d r : List ℕ) (a : ℕ) (ws : List ℕ) → drop a d ≡ words_bytes ws ++ r → (i : ℕ) → i < length ws → WordAt d (a + 11 * i)
unfolding words_bytes
words_there d r a [] e i l = absurd (let z : ⊥ = omega arith in z)
words_there d r a (w ∷ ws) e zero l =
    let q : a ≡ a + 11 * 0 = omega arith in
    subst (WordAt d) q (word_there d (words_bytes ws ++ r) a w (e ∙ append_assoc (word_bytes w) (words_bytes ws) r))
words_there d r a (w ∷ ws) e (suc i) l =
    let q : a + 11 + 11 * i ≡ a + 11 * suc i = omega arith in
    subst (WordAt d) q (words_there d r (a + 11) ws (next_word d r a w ws e) i (le_of_suc-le-suc l))

-- ---- a word read and written

true_or_false : (t : Bool) → pick t true false ≡ true → t ≡ true
true_or_false true e = refl
true_or_false false e = e

ten_figures : (d : List ℕ) (a : ℕ) → WordAt d a → AllDigits d (a + 1) (a + 1 + 10)
ten_figures d a h o i k = h.figures o i (omega arith)

pub word_below : (d : List ℕ) (a : ℕ) → WordAt d a → word_in d a ≤ 19999999999
unfolding word_in
word_below d a h = go (eqb (get_or d a 0) 45)
  where
    n : number_in d (a + 1) 10 < 10000000000
    n = number_below d (a + 1) 10 (ten_figures d a h)

    go : (t : Bool) → number_in d (a + 1) 10 + pick t 10000000000 0 ≤ 19999999999
    go true = omega (arith, n)
    go false = omega (arith, n)

pub word_written : (d : List ℕ) (a : ℕ) → a + 11 ≤ length d → WordAt d a → word_bytes (word_in d a) ≡ take 11 (drop a d)
unfolding word_bytes word_in
word_written d a l h =
    ap₂ (λ (b : ℕ) (t : List ℕ). b ∷ t) sign (figures (eqb b 45) ∙ number_written d (a + 1) 10 (omega arith) (ten_figures d a h) ∙ ap (λ (k : ℕ). take 10 (drop k d)) (add-one a))
    ∙ sym (ap (take 11) (drop-cons d a 0 (omega arith)))
  where
    b : ℕ
    b = get_or d a 0

    m : ℕ
    m = number_in d (a + 1) 10

    small : m < 10000000000
    small = number_below d (a + 1) 10 (ten_figures d a h)

    -- the sign that is written is the one that was read
    by_minus : (t : Bool) → eqb b 45 ≡ t → pick (eqb b 43) true t ≡ true → sign_byte (m + pick t 10000000000 0) ≡ b
    by_minus true e s = simp (le-ltb (m + 10000000000) 10000000000 (omega arith)) (sym (eqb-true b 45 e))
    by_minus false e s =
        let plus : eqb b 43 ≡ true = true_or_false (eqb b 43) s in
        simp (lt-ltb (m + 0) 10000000000 (omega (arith, small))) (sym (eqb-true b 43 plus))

    sign : sign_byte (m + pick (eqb b 45) 10000000000 0) ≡ b
    sign = by_minus (eqb b 45) refl h.sign

    figures : (t : Bool) → digits 10 (m + pick t 10000000000 0) ≡ digits 10 m
    figures true = ap (digits 10) (add_comm m 10000000000) ∙ digits_low 10 0 1 m
    figures false = ap (digits 10) (add-zero m)

-- ---- words read and written

pub words_written : (d : List ℕ) (a : ℕ) (ws : List ℕ) → a + 11 * length ws ≤ length d
    → ((i : ℕ) → i < length ws → WordAt d (a + 11 * i))
    → AreAt d a ws
    → words_bytes ws ≡ take (11 * length ws) (drop a d)
unfolding words_bytes
words_written d a [] l h e = refl
words_written d a (w ∷ ws) l h e =
    let here : a + 11 * 0 ≡ a = omega arith in
    let later : (i : ℕ) → a + 11 * suc i ≡ a + 11 + 11 * i = λ i. omega arith in
    let one : word_bytes w ≡ take 11 (drop a d) =
    ap word_bytes (sym (e 0 (omega arith)) ∙ ap (word_in d) here) ∙ word_written d a (omega arith) (subst (WordAt d) here (h 0 (omega arith))) in
    let rest : words_bytes ws ≡ take (11 * length ws) (drop (a + 11) d) =
    words_written d (a + 11) ws (omega arith)
    (λ i k. subst (WordAt d) (later i) (h (suc i) (omega arith)))
    (λ i k. sym (ap (word_in d) (later i)) ∙ e (suc i) (omega arith)) in
    let q : 11 + 11 * length ws ≡ 11 * suc (length ws) = omega arith in
    ap₂ (λ (x y : List ℕ). x ++ y) one (rest ∙ ap (take (11 * length ws)) (sym (drop-drop 11 a d)))
    ∙ sym (take-add 11 (11 * length ws) (drop a d))
    ∙ ap (λ (k : ℕ). take k (drop a d)) q
