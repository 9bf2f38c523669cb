-- What a C program is told of each answer: the paper's number for it, and the value that goes with it. Assumes nothing.
use Rattle.rules.specs.Numbers.{reckoned_number, reckoned_word, check_number, check_place}
use Rattle.rules.specs.Answers.{Deck, Reckoned}
use Rattle.rules.specs.declared.Sum.{Sum}
use Rattle.panel.specs.declared.Word.{Word}
use Rattle.panel.specs.declared.Summed.{Summed}
use Rattle.panel.specs.declared.Place.{Place}

-- of arithmetic: 0 and the word, or the stop number and 0
abbrev pub word_told : Reckoned → Word
word_told x = record { number = reckoned_number x; word = reckoned_word x }

-- of a sum or a difference: the same, and how many digits went
abbrev pub sum_told : Sum → Summed
sum_told x = record { number = reckoned_number x.answer; word = reckoned_word x.answer; lost = x.lost }

-- of the check of a deck: 0 and 0, or the number of a faulty deck and the place of its first fault
abbrev pub place_told : Deck → Place
place_told x = record { number = check_number x; place = check_place x }
