-- `list::stops::put_stop` meets its contract: each part stands right behind the one before. Assumes nothing.
use mathlib.Core.List.{[], ◌∷◌, ◌++◌}
use mathlib.Core.Path.{refl, ◌∙◌}
use native.Mathlib.Omega.{arith}
use lib.ListN.{take, drop}
use Rattle.rules.specs.Bytes.{bytes}
use Rattle.octets.proofs.Joins.{part_begin, put_more}
use Rattle.list.specs.Listing.{stop_line}
use Rattle.list.proofs.Joins.{put_piece, length_piece}
use Rattle.list.proofs.stops.put_stop.Goals as goal

pub returns : goal.returns
unfolding stop_line bytes
returns c =
    let a = c.args in
    let r = a.rest.now in
    let h₁ =
    part_begin {p = bytes "stop  " ++ take 2 (drop 1 r)} {e = 8} 8
    c.put.ensures (length_piece (bytes "stop  ") r 1 2 (omega (arith, c.requires)) ∙ refl) refl (omega (arith, c.requires)) in
    let h₂ = put_piece {e = 19} (bytes "    at ") r 3 4 h₁ c.put-2.ensures (omega (arith, c.requires)) refl (omega (arith, c.requires)) in
    let h₃ = put_piece {e = 34} (bytes "  orders ") r 7 6 h₂ c.put-3.ensures (omega (arith, c.requires)) refl (omega (arith, c.requires)) in
    let h₄ = put_piece {e = 53} (bytes "  shows ") r 13 11 h₃ c.put-4.ensures (omega (arith, c.requires)) refl (omega (arith, c.requires)) in
    (put_more {e = 54} (10 ∷ []) 1 h₄ c.put_byte.ensures refl refl (omega (arith, c.requires))).same
