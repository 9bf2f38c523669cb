-- The four ways in which a call of make ends, each by what its checks found. Assumes nothing.
use Rattle.std.proofs.Common.{Err, Ok}
use Prim.Native.Nat.{ℕ, ◌≤◌, ◌<◌}
use mathlib.Core.Path.{◌≡◌, refl, sym, ap, ◌∙◌}
use mathlib.Core.List.{List}
use mathlib.Core.Bool.{true, false}
use borrow.Author.Tests.{le-leb, lt-leb}
use lib.Dec.{leb}
use lib.ListN.{length}
use Rattle.rules.specs.Drum.{view, drum_fits}
use Rattle.rules.specs.Running.{over}
use Rattle.rules.specs.Making.{MakeCall, deck_made, numbers_fit, made_of, made}
use Rattle.rules.specs.declared.Unmade.TheVariants.{Full, UnfitDrum, UnfitNumber}
use Rattle.drum.proofs.Begins.{begins}
use Rattle.making.specs.Made.{MakeRight, Sound}

pub sound : (drum marks : List ℕ) → drum_fits (length drum) marks (view drum marks) ≡ true → Sound drum marks
sound drum marks e = let h = begins drum marks e in record { long = h.long; words = h.words }

module _ (c : MakeCall) where
  pub drum_unfit : drum_fits (length c.drum) c.marks (view c.drum c.marks) ≡ false → MakeRight (made c) c.out (Err UnfitDrum)
  unfolding made
  drum_unfit e = rw e (record { making_is = refl; out_is = refl })

  module _ (fit : drum_fits (length c.drum) c.marks (view c.drum c.marks) ≡ true) where
    pub number_unfit : numbers_fit c.order c.problem ≡ false → MakeRight (made c) c.out (Err UnfitNumber)
    unfolding made
    number_unfit e = rw (fit, e) (record { making_is = refl; out_is = refl })

    module _ (good : numbers_fit c.order c.problem ≡ true) where
      as_room : made c ≡ made_of c (deck_made (view c.drum c.marks) c.order c.problem)
      unfolding made
      as_room = rw (fit, good) refl

      pub too_long : length c.out < length (deck_made (view c.drum c.marks) c.order c.problem) → MakeRight (made c) c.out (Err Full)
      unfolding made_of
      too_long l =
          rw as_room
          (rw (lt-leb (length (deck_made (view c.drum c.marks) c.order c.problem)) (length c.out) l)
          (record { making_is = refl; out_is = refl }))

      pub was_made : (out : List ℕ) (n : ℕ) → n ≡ length (deck_made (view c.drum c.marks) c.order c.problem) → n ≤ length c.out
          → out ≡ over (deck_made (view c.drum c.marks) c.order c.problem) c.out → MakeRight (made c) out (Ok n)
      unfolding made_of
      was_made out n e l q =
          rw as_room
          (rw (ap (λ (k : ℕ). leb k (length c.out)) (sym e) ∙ le-leb n (length c.out) l) (record { making_is = ap Ok e; out_is = q }))
