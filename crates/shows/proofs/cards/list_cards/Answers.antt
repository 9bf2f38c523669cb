-- `shows::cards::list_cards` meets its contract, and ends: each turn takes a card. The loop's invariant: what is left to list comes to the
-- whole. Assumes nothing.
use mathlib.Core.Path.{◌≡◌, refl, sym, ap, ◌∙◌}
use mathlib.Core.List.{List}
use mathlib.Core.Bool.{true, false}
use Prim.Native.Nat.{ℕ, ◌-◌, ◌<◌}
use native.Mathlib.Omega.{arith}
use lib.ListN.{length, get_or, take, drop, length-drop}
use lib.Seq.{take_all}
use borrow.Author.Rules.{rules}
use Rattle.list.specs.Listing.{with_kind, is_second, size_of, size_met}
use Rattle.says.proofs.Answers.{line_within}
use Rattle.shows.proofs.Parts.{second_size, other_size_lem, ends_behind, ends_cut, ends_none, ends_short, goes_on}
use Rattle.shows.proofs.cards.list_cards.Goals as goal
use Rattle.shows.proofs.cards.list_cards.Goals.{After-write_lines-x}
use Rattle.shows.proofs.cards.list_cards.Given.{Over}

-- what `&part[at..]` holds
rest_is : (part : List ℕ) (at : ℕ) → take (length part - at) (drop at part) ≡ drop at part
rest_is part at = take_all (length part - at) (drop at part) (omega (arith, length-drop at part))

-- how many bytes the card takes
size : (g : Over) (c : After-write_lines-x g)
    → c.write_lines-x.result.taken ≡ size_met c.loop-at.seen (drop c.loop-at.at c.args.part.now)
size g c =
    let part = c.args.part.now in
    let at = c.loop-at.at in
    let s = c.loop-at.seen in
    let is : is_second s (drop at part) ≡ false = ap (is_second s) (sym (rest_is part at)) ∙ sym c.is_second.ensures ∙ c.if-is_second.false in
    c.write_lines-x.ensures.taken ∙ ap size_of (rest_is part at) ∙ sym (other_size_lem s (drop at part) is)

pub loop-at-init : goal.loop-at-init
loop-at-init g c = (length c.args.part.now, omega arith, omega arith, refl, refl)

pub returns-then-may_be_cut : goal.returns-then-may_be_cut
returns-then-may_be_cut g c =
    let v = c.loop-at.invariant in
    record { within = v.2; listed = ends_cut c.args.part.now c.args.last c.loop-at.seen c.loop-at.at v.0 v.4 (sym c.may_be_cut.ensures ∙ c.if-may_be_cut.true) }

pub returns-then-is_second : goal.returns-then-is_second
returns-then-is_second g c =
    let v = c.loop-at.invariant in
    let part = c.args.part.now in
    let at = c.loop-at.at in
    let s = c.loop-at.seen in
    let is : is_second s (drop at part) ≡ true = ap (is_second s) (sym (rest_is part at)) ∙ sym c.is_second.ensures ∙ c.if-is_second.true in
    record { within = v.2; listed = ends_none part c.args.last s at v.0 v.4 (second_size s (drop at part) is) }

pub returns-then-size-eq0 : goal.returns-then-size-eq0
returns-then-size-eq0 g c =
    let v = c.loop-at.invariant in
    record { within = v.2; listed = ends_none c.args.part.now c.args.last c.loop-at.seen c.loop-at.at v.0 v.4 (sym (size g (goal.at.returns-then-size-eq0 g c).After-write_lines-x) ∙ c.if-size-eq0.true) }

pub returns-then-left-size : goal.returns-then-left-size
returns-then-left-size g c =
    let v = c.loop-at.invariant in
    record { within = v.2; listed = ends_short c.args.part.now c.args.last c.loop-at.seen c.loop-at.at v.0 v.4 (omega (arith, size g (goal.at.returns-then-left-size g c).After-write_lines-x, c.if-left-size.true)) }

pub send_first-requires : goal.send_first-requires
send_first-requires g c = line_within _ _ _ _ c.write_lines-x.ensures.shown

pub loop-at-preserved : goal.loop-at-preserved
loop-at-preserved g c =
    let v = c.loop-at.invariant in
    let part = c.args.part.now in
    let at = c.loop-at.at in
    let s = c.loop-at.seen in
    let n = c.write_lines-x.result.taken in
    let l : 0 < n = omega (arith, c.if-size-eq0.false) in
    let k = c.with_kind-seen.ensures ∙ ap (λ (d : List ℕ). with_kind s (get_or d 0 0)) (rest_is part at) in (
      v.0 - 1,
      omega (arith, l, v.1),
      omega arith,
      search rules,
      goes_on part c.args.last s at v.0 v.4 n _ (size g (goal.at.loop-at-preserved g c).After-write_lines-x) k (omega (arith, v.1)) (omega arith)
          (sym c.may_be_cut.ensures ∙ c.if-may_be_cut.false) l c.if-left-size.false,
    )

pub returns : goal.returns
returns g c =
    let v = c.loop-at.invariant in
    record { within = v.2; listed = ends_behind c.args.part.now c.args.last c.loop-at.seen c.loop-at.at v.0 v.4 (omega arith) }
