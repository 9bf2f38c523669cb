-- Where load and run begin: a lent drum and marks that pass check 10 hold the cells of their own view. Assumes nothing.
use Rattle.std.proofs.Common.{None, Some}
use mathlib.Core.Path.{◌≡◌, sym, ◌∙◌}
use mathlib.Core.List.{List, [], ◌∷◌}
use mathlib.Core.Bool.{true}
use Prim.Native.Nat.{ℕ, zero, suc}
use native.Mathlib.Omega.{arith}
use lib.ListN.{length}
use borrow.Author.Tests.{leb-true}
use Rattle.rules.specs.Words.{is_word}
use Rattle.rules.specs.Drum.{view, word_fits, words_fit, drum_fits}
use Rattle.rules.specs.Answers.{Cell}
use Rattle.rules.proofs.Tests.{both_first, both_second}
use Rattle.rules.proofs.Views.{fit, overlay_view, marks_again, length-view}
use Rattle.drum.specs.Held.{Words, Holds}

all_words : (v : List Cell) → words_fit v ≡ true → Words v
unfolding words_fit
all_words [] e a = omega arith
all_words (None ∷ v) e zero = omega arith
all_words (Some w ∷ v) e zero = leb-true w 19999999999 (both_first (is_word w) (words_fit v) e)
all_words (c ∷ v) e (suc a) = all_words v (both_second (word_fits c) (words_fit v) e) a

pub begins : (drum marks : List ℕ) → drum_fits (length drum) marks (view drum marks) ≡ true → Holds drum drum marks (view drum marks)
begins drum marks e =
    let f = fit drum marks e in
    record {
      drum_is = sym (overlay_view drum marks);
      marks_are = sym (marks_again drum marks f);
      old_long = f.drum_long;
      long = length-view drum marks (f.drum_long ∙ sym f.marks_long) ∙ f.drum_long;
      words = all_words (view drum marks) f.words_fit_lem;
    }
