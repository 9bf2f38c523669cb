-- `list::cards::put_head` meets its contract: each part stands right behind the one before. Assumes nothing.
use mathlib.Core.List.{[], ◌∷◌, ◌++◌}
use mathlib.Core.Path.{refl, ◌∙◌}
use native.Mathlib.Omega.{arith}
use lib.ListN.{take, drop}
use Rattle.rules.specs.Bytes.{bytes}
use Rattle.octets.proofs.Joins.{part_begin, put_more}
use Rattle.list.specs.Listing.{head_line}
use Rattle.list.proofs.Joins.{put_piece, length_piece}
use Rattle.list.proofs.cards.put_head.Goals as goal

pub returns : goal.returns
unfolding head_line bytes
returns c =
    let a = c.args in
    let r = a.rest.now in
    let h₁ =
    part_begin {p = a.title.now ++ take 4 (drop 1 r)} {e = 10} 10
    c.put.ensures (length_piece a.title.now r 1 4 (omega (arith, c.requires)) ∙ omega (arith, c.requires)) refl (omega (arith, c.requires)) in
    let h₂ = put_piece {e = 18} (bytes "  at ") r 5 3 h₁ c.put-2.ensures (omega (arith, c.requires)) refl (omega (arith, c.requires)) in
    let h₃ =
    put_piece {e = 31} (bytes "  problem ") r a.back 3
    h₂ c.put-3.ensures (omega (arith, c.requires)) refl (omega (arith, c.requires)) in
    (put_more {e = 32} (10 ∷ []) 1 h₃ c.put_byte.ensures refl refl (omega (arith, c.requires))).same
