-- `list::ends::end_line` meets its contract: its tests are those of the definition. Assumes nothing.
use Prim.Native.Nat.{ℕ}
use mathlib.Core.Path.{◌≡◌, sym, ap, ◌∙◌}
use mathlib.Core.List.{List, []}
use mathlib.Core.Bool.{Bool, false}
use lib.Dec.{ltb}
use borrow.Author.Tests.{lt-ltb, le-ltb}
use Rattle.rules.specs.Words.{pick}
use Rattle.faults.specs.Sentences.{place_behind, long_line, none_line}
use Rattle.list.specs.Listing.{end_line}
use Rattle.list.proofs.ends.end_line.Goals as goal

-- by the three tests
by_tests : (o l f : Bool) (x y : List ℕ) → o ≡ false → l ≡ false → f ≡ false → pick o [] (pick l x (pick f [] y)) ≡ y
by_tests o l f x y a b c = rw (a, b, c)

pub returns-then-seen : goal.returns-then-seen
unfolding end_line
returns-then-seen c = c.empty.ensures ∙ sym (simp c.if-seen.true)

pub returns-then-place-gt65536 : goal.returns-then-place-gt65536
unfolding end_line
returns-then-place-gt65536 c =
    c.of_long.ensures ∙ sym (simp (c.if-seen.false, lt-ltb 65536 _ c.if-place-gt65536.true))

pub returns-then-seen-2 : goal.returns-then-seen-2
unfolding end_line
returns-then-seen-2 c =
    c.empty-then-seen-2.ensures ∙ sym (simp (c.if-seen.false, le-ltb 65536 _ c.if-place-gt65536.false, c.if-seen-2.true))

pub returns : goal.returns
unfolding end_line
returns c =
    let a = c.args in
    let s = a.seen in
    let e = by_tests s.other (ltb 65536 a.place) s.first long_line (none_line (place_behind s.cards 1) a.place) c.if-seen.false (le-ltb 65536 a.place c.if-place-gt65536.false) c.if-seen-2.false in
    c.of_none.ensures ∙ ap (λ (k : ℕ). none_line k a.place) c.sum.ensures ∙ sym e
