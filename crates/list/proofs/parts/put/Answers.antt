-- `list::parts::put` meets its contract: the bytes stand right behind the text. Assumes nothing.
use mathlib.Core.Path.{refl}
use native.Mathlib.Omega.{arith}
use lib.ListN.{length, take, drop}
use Rattle.octets.proofs.Joins.{put_begin, put_more, length_field}
use Rattle.list.proofs.parts.put.Goals as goal

pub returns : goal.returns
returns c =
    let a = c.args in
    (put_more (take a.n (drop a.b a.from.now)) a.n
    (put_begin (length a.text.now) c.put_run.ensures refl refl (omega (arith, c.requires)))
    c.copy.ensures (length_field a.from.now a.b a.n c.requires.part_in) refl c.requires.room_left).same
