-- Sentences that are worked out. Assumes nothing.
use Rattle.std.specs.Prelude.{ℕ, ◌≡◌, List, [], ◌∷◌, ◌++◌, Ok, Err}
use Prim.Native.String.{String}
use Rattle.rules.specs.Bytes.{bytes, line_end}
use Rattle.rules.specs.Decks.{deck_of}
use Rattle.rules.specs.Answers.{Deck}
use Rattle.faults.specs.Sentences.{deck_line}

-- what is told of a deck as it is checked
abbrev pub told : List ℕ → Deck → List ℕ
told deck (Ok start) = []
told deck (Err f) = deck_line deck f

abbrev pub Tells : String → String → Type 0
Tells deck sentence = told (bytes deck) (deck_of (bytes deck)) ≡ bytes sentence ++ line_end ∷ []

pub record SentencesHold : Type 0 where
  pub kind : Tells "T001000?" "card 2, its kind: 1 to 5 or T is due at byte 7, and the byte there is a mark ?"
  pub second : Tells "T00100010001001+0000000000000T1" "card 3, its kind: 1 to 5 is due at byte 29, and the byte there is a second T"
  pub cut : Tells "T00100020001001+0000000000" "card 2, its second word: a sign is due at byte 26, and the file ends there; the card begins at byte 7"
  pub digit : Tells "T00100030001001+0000000000+0000000000+O000000000000" "card 2, its third word: a digit is due at byte 38, and the byte there is a letter O"
  pub sign : Tells "10001001 0000000000000T001000" "card 1, its first word: a sign is due at byte 8, and the byte there is a space"
  pub number : Tells "1000-001+0000000000000T001000" "card 1, its card number: a digit is due at byte 4, and the byte there is a minus sign"
  pub last_cell : Tells "T00100050001997+0000000000+0000000000+0000000000+0000000000+0000000000000" "card 2, its location: 001 to 995 is due at byte 12, and the digits there are 997"
  pub first_order : Tells "T000007" "card 1, its first order: 001 to 999 is due at byte 1, and the digits there are 000"
  pub none : Tells "10001001+0000000000000" "card 2, its kind: T is due at byte 22, and the file ends there with no first-order card"
