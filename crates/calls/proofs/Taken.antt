-- The words of a call taken one after another, as a loop does. Assumes nothing.
use Prim.Native.Nat.{ℕ, ◌+◌, ◌-◌, ◌≤◌}
use mathlib.Core.Path.{◌≡◌, refl, sym, ap, ◌∙◌}
use mathlib.Core.List.{List, [], ◌∷◌, ◌++◌}
use native.Mathlib.Omega.{arith}
use lib.ListN.{length, length-append}
use Rattle.std.specs.Prelude.{Option, option_and_then, IsSome}
use Rattle.std.specs.Result.{result_ok}
use Rattle.calls.specs.Words.{with_word, with_all, Read}
use Rattle.calls.specs.declared.options.Options.{Options}

-- what a call asks for with one word more, where it asks for anything
abbrev pub next : Option Options → List ℕ → Option Options
next o w = option_and_then (λ x. result_ok (with_word x w)) o

all_more : (o : Option Options) (ws : List (List ℕ)) (w : List ℕ) → with_all o (ws ++ (w ∷ [])) ≡ next (with_all o ws) w
unfolding with_all
all_more o [] w = refl
all_more o (x ∷ ws) w = all_more (next o x) ws w

-- the words from the one place up to the other were taken
pub record Taking (form : Option Options) (from i : ℕ) (r : Option Options) : Type 0 where
  pub words : List (List ℕ)
  pub all_taken : r ≡ with_all form words
  pub so_many : from + length words ≡ i

pub take_none : (form : Option Options) (from : ℕ) → Taking form from from form
unfolding with_all
take_none form from = record { words = []; all_taken = refl; so_many = omega arith }

pub take_next : {form o r : Option Options} {from i : ℕ} (w : List ℕ) → Taking form from i o → r ≡ next o w → Taking form from (i + 1) r
take_next {form} {o} {r} w t e =
    record {
      words = t.words ++ (w ∷ []);
      all_taken = e ∙ ap (λ (x : Option Options). next x w) t.all_taken ∙ sym (all_more form t.words w);
      so_many = omega (arith, t.so_many, length-append t.words (w ∷ []));
    }

-- where it ends, all words were taken, or some of them and the last was wrong
pub read_as_taken : {form r : Option Options} {from i : ℕ} (count : ℕ) → Taking form from i r → i - from ≤ count - from
    → (IsSome r → count ≤ i) → Read form from count r
read_as_taken {form} {r} {from} {i} count t h k =
    record {
      words = t.words;
      all_taken = t.all_taken;
      no_more = omega (arith, t.so_many);
      no_fewer = λ e. let z = k e in omega (arith, t.so_many);
    }
