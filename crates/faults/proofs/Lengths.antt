-- Every sentence has room in a line: at most 256 bytes. Assumes nothing.
use Prim.Native.Nat.{ℕ, ◌≤◌}
use mathlib.Core.List.{List}
use mathlib.Core.Bool.{Bool, true, false}
use native.Mathlib.Omega.{arith}
use lib.Dec.{eqb}
use lib.ListN.{length, get_or, drop, length-append, length-take}
use Rattle.rules.specs.Words.{pick}
use Rattle.rules.specs.Bytes.{bytes}
use Rattle.rules.specs.Cards.{width, is_digit}
use Rattle.rules.specs.declared.Fault.{Fault}
use Rattle.rules.specs.declared.Fault.TheVariants.{UnknownKind, SecondFirst, CutShort, BadByte, BadPlace}
use Rattle.rules.proofs.Digits.{length_digits}
use Rattle.rules.proofs.Fields.{width_small}
use Rattle.faults.specs.Sentences.{numeral, is_letter, is_mark, word_name, field_name, due_name, blank_name, byte_name, place_behind, head_of, found, field_at, due_at, highest}
use Rattle.faults.specs.Sentences.{card_sentence, none_sentence, card_line, none_line}
use Rattle.faults.specs.declared.layout.Field.{Field}
use Rattle.faults.specs.declared.layout.Field.TheVariants.{Kind, CardNumber, Location, Word, Problem, FirstOrder, StopNumber, Count, Shown}
use Rattle.faults.specs.declared.layout.Due.{Due}
use Rattle.faults.specs.declared.layout.Due.TheVariants.{Digit, Sign, Kinds, DataKinds, TheFirst, Upto}

-- one of two texts that are both short
of_two : (t : Bool) (n : ℕ) (s u : List ℕ) → length s ≤ n → length u ≤ n → length (pick t s u) ≤ n
of_two true n s u p q = p
of_two false n s u p q = q

numeral_short : (x : ℕ) → length (numeral x) ≤ 21
numeral_short x = omega (arith, length_digits (width 20 x) x, width_small 20 x)

word_short : (i : ℕ) → length (word_name i) ≤ 14
unfolding word_name bytes
word_short i =
    of_two (eqb i 0) 14 _ _ (omega arith)
    (of_two (eqb i 1) 14 _ _ (omega arith)
    (of_two (eqb i 2) 14 _ _ (omega arith) (of_two (eqb i 3) 14 _ _ (omega arith) (of_two (eqb i 4) 14 _ _ (omega arith) (omega arith)))))

field_short : (f : Field) → length (field_name f) ≤ 14
unfolding field_name bytes
field_short Kind = omega arith
field_short CardNumber = omega arith
field_short Location = omega arith
field_short (Word i) = word_short i
field_short Problem = omega arith
field_short FirstOrder = omega arith
field_short StopNumber = omega arith
field_short Count = omega arith
field_short Shown = omega arith

due_short : (d : Due) → length (due_name d) ≤ 11
unfolding due_name bytes
due_short Digit = omega arith
due_short Sign = omega arith
due_short Kinds = omega arith
due_short DataKinds = omega arith
due_short TheFirst = omega arith
due_short (Upto n) = simp length-append (omega (arith, length_digits 3 n))

blank_short : (b : ℕ) → length (blank_name b) ≤ 28
unfolding blank_name bytes
blank_short b =
    of_two (eqb b 9) 28 _ _ (omega arith)
    (of_two (eqb b 10) 28 _ _ (omega arith)
    (of_two (eqb b 13) 28 _ _ (omega arith) (of_two (eqb b 32) 28 _ _ (omega arith) (simp length-append (omega (arith, numeral_short b))))))

byte_short : (b : ℕ) → length (byte_name b) ≤ 28
unfolding byte_name bytes
byte_short b =
    of_two (eqb b 43) 28 _ _ (omega arith)
    (of_two (eqb b 45) 28 _ _ (omega arith)
    (of_two (is_digit b) 28 _ _ (omega arith)
    (of_two (is_letter b) 28 _ _ (omega arith) (of_two (is_mark b) 28 _ _ (omega arith) (blank_short b)))))

head_short : (k : ℕ) (f : Field) (d : Due) (p : ℕ) → length (head_of k f d p) ≤ 102
unfolding head_of bytes
head_short k f d p = simp length-append (omega (arith, numeral_short k, field_short f, due_short d, numeral_short p))

found_short : (b : ℕ) → length (found b) ≤ 46
unfolding bytes
found_short b = omega (arith, byte_short b)

sentence_short : (k p : ℕ) (f : Fault) (o : ℕ) (d : List ℕ) → length (card_sentence k p f o d) ≤ 168
unfolding card_sentence bytes
sentence_short k p UnknownKind o d = simp length-append (omega (arith, head_short k Kind Kinds p, found_short (get_or d 0 0)))
sentence_short k p SecondFirst o d = simp length-append (omega (arith, head_short k Kind DataKinds p))
sentence_short k p CutShort o d =
    simp length-append
    (omega (arith, head_short k (field_at (get_or d 0 0) (length d)) (due_at (get_or d 0 0) (length d)) (place_behind p (length d)), numeral_short p))
sentence_short k p BadByte o d =
    simp length-append
    (omega (arith, head_short k (field_at (get_or d 0 0) o) (due_at (get_or d 0 0) o) (place_behind p o), found_short (get_or d o 0)))
sentence_short k p BadPlace o d =
    simp length-append
    (omega (arith, head_short k (field_at (get_or d 0 0) o) (Upto (highest (get_or d 0 0))) (place_behind p o), length-take 3 (drop o d)))

pub card_short : (k p : ℕ) (f : Fault) (o : ℕ) (d : List ℕ) → length (card_line k p f o d) ≤ 256
unfolding card_line
card_short k p f o d = simp length-append (omega (arith, sentence_short k p f o d))

pub none_short : (k p : ℕ) → length (none_line k p) ≤ 256
unfolding none_sentence bytes
none_short k p = simp length-append (omega (arith, head_short k Kind TheFirst p))
