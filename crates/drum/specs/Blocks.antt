-- The words of a block, as many as a card can have. Assumes nothing.
use Rattle.std.specs.Prelude.{ℕ, ◌+◌, List, [], ◌∷◌, ltb}
use Rattle.rules.specs.Words.{pick}
use Rattle.rules.specs.Drum.{word_at}
use Rattle.rules.specs.Answers.{Cell}

-- word i of the n cells from b on, and 0 past them
abbrev pub word_within : List Cell → ℕ → ℕ → ℕ → ℕ
word_within v b n i = pick (ltb i n) (word_at v (b + i)) 0

-- the first five words of the n cells from b on, with zeros behind the last
abbrev pub first_words : List Cell → ℕ → ℕ → List ℕ
first_words v b n =
    word_within v b n 0 ∷ word_within v b n 1 ∷ word_within v b n 2 ∷ word_within v b n 3 ∷ word_within v b n 4 ∷ []
