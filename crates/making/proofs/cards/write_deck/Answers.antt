-- `making::write_deck` meets its contract: the first-order card stands right behind the data cards. Assumes nothing.
use Prim.Native.Nat.{◌≤◌}
use native.Mathlib.Omega.{arith}
use lib.ListN.{length}
use Rattle.rules.specs.Drum.{view}
use Rattle.rules.specs.Making.{blocks_in, deck_made}
use Rattle.rules.proofs.MadeSizes.{cards_bytes, deck_bytes}
use Rattle.making.specs.Made.{cards_of}
use mathlib.Core.List.{List}
use Prim.Native.Nat.{ℕ}
use Rattle.making.proofs.Writing.{first_stands}
use Rattle.making.proofs.cards.write_deck.Goals as goal
use Rattle.making.proofs.cards.write_deck.Goals.{After-write_cards-at}

room : (drum marks out : List ℕ) (order problem : ℕ) → length (deck_made (view drum marks) order problem) ≤ length out
    → length (cards_of drum marks problem) ≤ length out
room drum marks out order problem l =
    let v = view drum marks in omega (arith, deck_bytes v order problem, cards_bytes v problem 1 (blocks_in v), l)

inside : (c : After-write_cards-at) → c.write_cards-at.result ≤ length c.write_cards-at.new.out
inside c = omega (arith, c.write_cards-at.ensures.size, c.write_cards-at.auto.out, room _ _ _ _ _ c.requires.room_left)

pub write_cards-at-requires : goal.write_cards-at-requires
write_cards-at-requires c =
    record {
      sound = c.requires.sound;
      problem_fits = c.requires.order_fits.2;
      room_left = room _ _ _ _ _ c.requires.room_left;
    }

pub returns : goal.returns
unfolding deck_made
returns c =
    let a = c.args in
    let p = c.requires.order_fits in
    first_stands _ a.out.now _ _ _ a.order a.problem p.0 p.1 p.2 c.write_cards-at.ensures.size c.write_cards-at.ensures.written c.requires.room_left
    c.write_first.ensures

pub slice_bounds-write_first-count : goal.slice_bounds-write_first-count
slice_bounds-write_first-count c = inside (goal.at.slice_bounds-write_first-count c).After-write_cards-at

pub slice_bounds-write_first-start : goal.slice_bounds-write_first-start
slice_bounds-write_first-start c = inside (goal.at.slice_bounds-write_first-start c).After-write_cards-at
