-- `list::traces::put_shown` meets its contract: each part stands right behind the one before. Assumes nothing.
use mathlib.Core.List.{[], ◌∷◌, ◌++◌}
use mathlib.Core.Path.{refl, ◌∙◌}
use native.Mathlib.Omega.{arith}
use lib.ListN.{take, drop}
use Rattle.rules.specs.Bytes.{bytes}
use Rattle.octets.proofs.Joins.{part_begin, put_more}
use Rattle.list.specs.Listing.{shown_lines}
use Rattle.list.proofs.Joins.{put_piece, length_piece}
use Rattle.list.proofs.traces.put_shown.Goals as goal

pub put-requires-6 : goal.put-requires-6
put-requires-6 c =
    record { room_left = omega (arith, c.requires.room_left, c.put.auto.out, c.put-2.auto.out, c.put-3.auto.out, c.put-4.auto.out, c.put-5.auto.out); part_in = omega (arith, c.requires.card_in) }

pub shape_of-out : goal.shape_of-out
shape_of-out c =
    omega (arith, c.put.auto.out, c.put-2.auto.out, c.put-3.auto.out, c.put-4.auto.out, c.put-5.auto.out, c.put-6.auto.out, c.put_byte.auto.out)

pub returns : goal.returns
unfolding shown_lines bytes
returns c =
    let a = c.args in
    let r = a.rest.now in
    let h₁ =
    part_begin {p = bytes "  loop box   " ++ take 3 (drop 32 r)} {e = 148} 16
    c.put.ensures (length_piece (bytes "  loop box   ") r 32 3 (omega (arith, c.requires)) ∙ refl) refl (omega (arith, c.requires)) in
    let h₂ = put_piece {e = 152} (bytes " ") r 35 3 h₁ c.put-2.ensures (omega (arith, c.requires)) refl (omega (arith, c.requires)) in
    let h₃ = put_piece {e = 156} (bytes " ") r 38 3 h₂ c.put-3.ensures (omega (arith, c.requires)) refl (omega (arith, c.requires)) in
    let h₄ =
    put_piece {e = 181} (10 ∷ bytes "  A's word   ") r 41 11
    h₃ c.put-4.ensures (omega (arith, c.requires)) refl (omega (arith, c.requires)) in
    let h₅ =
    put_piece {e = 206} (10 ∷ bytes "  B's word   ") r 52 11
    h₄ c.put-5.ensures (omega (arith, c.requires)) refl (omega (arith, c.requires)) in
    let h₆ =
    put_piece {e = 231} (10 ∷ bytes "  cell 000   ") r 63 11
    h₅ c.put-6.ensures (omega (arith, c.requires)) refl (omega (arith, c.requires)) in
    (put_more {e = 232} (10 ∷ []) 1 h₆ c.put_byte.ensures refl refl (omega (arith, c.requires))).same
