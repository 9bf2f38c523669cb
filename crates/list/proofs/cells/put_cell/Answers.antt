-- `list::cells::put_cell` meets its contract: the word stands right behind the address. Assumes nothing.
use mathlib.Core.Path.{refl}
use Prim.Native.Nat.{◌+◌}
use native.Mathlib.Omega.{arith}
use Rattle.rules.specs.Bytes.{bytes}
use Rattle.rules.specs.Cards.{digits}
use Rattle.rules.proofs.Digits.{length_digits}
use Rattle.octets.proofs.Joins.{put_begin, put_more, put_part}
use Rattle.list.specs.Listing.{order_line, cell_line}
use Rattle.list.proofs.Lengths.{length_order}
use Rattle.list.proofs.cells.put_cell.Goals as goal

pub returns : goal.returns
unfolding order_line cell_line digits bytes
returns c =
    let a = c.args in
    let h₁ = put_begin {p = bytes "  "} {e = a.a + 2} 2 c.put_run.ensures refl refl (omega (arith, c.requires)) in
    let h₂ =
    put_more {e = a.a + 5} (digits 3 a.address) 3
    h₁ c.put_field.ensures (length_digits 3 a.address) (omega arith) (omega (arith, c.requires)) in
    (put_part {e = a.a + 44} (order_line (bytes "  ") a.w) 39
    h₂ c.put_order.ensures (length_order (bytes "  ") a.w) (omega arith) (omega (arith, c.requires))).same
