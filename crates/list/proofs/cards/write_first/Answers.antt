-- `list::cards::write_first` meets its contract: there is no room, or all is written. Assumes nothing.
use native.Mathlib.Omega.{arith}
use Rattle.list.specs.Listing.{first_line}
use Rattle.card.proofs.Writes.{no_line}
use Rattle.list.proofs.Endings.{all}
use Rattle.list.proofs.Lengths.{length_first}
use Rattle.list.proofs.cards.write_first.Goals as goal

pub returns-then-out-lt32 : goal.returns-then-out-lt32
returns-then-out-lt32 c =
    let a = c.args in
    no_line (first_line a.rest.now) a.out.now (omega (arith, c.if-out-lt32.true, length_first a.rest.now c.requires))

pub returns : goal.returns
returns c =
    let a = c.args in
    all (first_line a.rest.now) a.out.now _ 32 (length_first a.rest.now c.requires) c.if-out-lt32.false c.put_first.ensures
