-- `list::cards::write_data` meets its contract: there is no room, or the lines of the words stand right behind the first. Assumes nothing.
use mathlib.Core.Path.{refl}
use Prim.Native.Nat.{◌+◌, ◌*◌}
use native.Mathlib.Omega.{arith}
use Rattle.rules.specs.Bytes.{bytes}
use Rattle.list.specs.Listing.{head_line, cell_lines, data_lines}
use Rattle.card.proofs.Writes.{no_line}
use Rattle.octets.proofs.Joins.{part_begin, put_part}
use Rattle.list.proofs.Endings.{all}
use Rattle.list.proofs.Lengths.{length_head, length_cells, length_data}
use Rattle.list.proofs.cards.write_data.Goals as goal

pub returns-then-out-size : goal.returns-then-out-size
returns-then-out-size c =
    let a = c.args in
    no_line (data_lines a.rest.now a.location a.n) a.out.now
    (omega (arith, c.if-out-size.true, length_data a.rest.now a.location a.n c.requires.card_in))

pub returns : goal.returns
unfolding data_lines bytes
returns c =
    let a = c.args in
    let d = a.rest.now in
    let h =
    part_begin {p = head_line (bytes "card  ") d (8 + 11 * a.n)} {e = 32} 32
    c.put_head.ensures (length_head (bytes "card  ") d (8 + 11 * a.n) refl (omega arith) (omega (arith, c.requires.card_in))) refl (omega (arith, c.if-out-size.false)) in
    all (data_lines d a.location a.n) a.out.now _ (32 + 44 * a.n) (length_data d a.location a.n c.requires.card_in) c.if-out-size.false
    (put_part {e = 32 + 44 * a.n} (cell_lines d a.location a.n) (44 * a.n)
    h c.put_cells.ensures (length_cells d a.location a.n) refl c.if-out-size.false).same
