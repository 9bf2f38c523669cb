-- The round trips of cards, by the laws of digits, words and cards. Assumes nothing.
use mathlib.Core.Path.{◌≡◌, refl, sym, ap, subst, ◌∙◌}
use mathlib.Core.List.{List, [], ◌∷◌, ◌++◌}
use mathlib.Core.Bool.{Bool, true, false}
use Prim.Native.Nat.{ℕ, zero, suc, ◌<◌}
use native.Mathlib.Omega.{arith}
use lib.Dec.{ltb}
use lib.ListN.{length, get_or, length-append, get_or-append}
use lib.Seq.{get_or_at}
use borrow.Author.Tests.{ltb-true, ltb-false}
use Rattle.rules.specs.Cards.{word_in, word_place}
use Rattle.rules.proofs.CardTrips.{DataRead, data_is, data_read, data_written_read, data_written_words, data_read_written, first_is, first_read, first_written_read, first_read_written}
use Rattle.promises.specs.Cards.{words_of, DataReadBack, DataWrittenAgain, FirstReadBack, FirstWrittenAgain}

pub data_read_back : DataReadBack
data_read_back number location words problem rest a = (
  data_is _ number location (length words) problem _
      (data_written_read number location words problem rest a.some a.few (omega (arith, a.numbered)) a.from (omega (arith, a.upto)) (omega (arith, a.posed))),
  data_written_words number location words problem rest a.signed,
)

length_of : (d : List ℕ) (n : ℕ) → length (words_of d n) ≡ n
unfolding words_of
length_of d zero = refl
length_of d (suc n) = length-append (words_of d n) (word_in d (word_place n) ∷ []) ∙ omega (arith, length_of d n)

shown : (d : List ℕ) (n i : ℕ) → i < n → word_in d (word_place i) ≡ get_or (words_of d n) i 0
unfolding words_of
shown d zero i h = absurd (let z : ⊥ = omega arith in z)
shown d (suc n) i h = by_place (shown d n i) (ltb i n) refl
  where
    w : ℕ
    w = word_in d (word_place n)

    by_place : (i < n → word_in d (word_place i) ≡ get_or (words_of d n) i 0) → (t : Bool) → ltb i n ≡ t → word_in d (word_place i) ≡ get_or (words_of d n ++ (w ∷ [])) i 0
    by_place before true e =
        let l = ltb-true i n e in
        before l ∙ sym (get_or-append (words_of d n) (w ∷ []) 0 i (omega (arith, length_of d n)))
    by_place before false e =
        let q : i ≡ n = omega (arith, ltb-false i n e) in
        ap (λ (k : ℕ). word_in d (word_place k)) q ∙ sym (get_or_at (words_of d n) w [] 0 i (length_of d n ∙ sym q))

pub data_written_again : DataWrittenAgain
data_written_again d number location n problem size e =
    let l = length_of d n in
    data_read_written d number location problem size (words_of d n)
    (subst (λ (k : ℕ). DataRead d number location k problem size) (sym l) (data_read d number location n problem size e))
    (λ i h. shown d n i (omega (arith, l)))

pub first_read_back : FirstReadBack
first_read_back order problem rest from upto posed =
    first_is _ order problem (first_written_read order problem rest from (omega arith) (omega arith))

pub first_written_again : FirstWrittenAgain
first_written_again d order problem e = first_read_written d order problem (first_read d order problem e)
