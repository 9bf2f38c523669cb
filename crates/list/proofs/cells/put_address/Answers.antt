-- `list::cells::put_address` meets its contract: the address stands right behind the blank. Assumes nothing.
use mathlib.Core.Path.{refl}
use native.Mathlib.Omega.{arith}
use Rattle.rules.specs.Bytes.{bytes}
use Rattle.rules.specs.Cards.{digits}
use Rattle.rules.proofs.Digits.{length_digits}
use Rattle.octets.proofs.Joins.{put_begin, put_more}
use Rattle.list.proofs.cells.put_address.Goals as goal

pub returns : goal.returns
unfolding bytes
returns c =
    let a = c.args in
    (put_more (digits 3 a.address) 3 (put_begin 1 c.put_byte.ensures refl refl (omega (arith, c.requires)))
    c.put_field.ensures (length_digits 3 a.address) refl (omega (arith, c.requires))).same
