-- `list::cards::put_first` meets its contract: each part stands right behind the one before. Assumes nothing.
use mathlib.Core.List.{[], ◌∷◌, ◌++◌}
use mathlib.Core.Path.{refl, ◌∙◌}
use native.Mathlib.Omega.{arith}
use lib.ListN.{take, drop}
use Rattle.rules.specs.Bytes.{bytes}
use Rattle.octets.proofs.Joins.{part_begin, put_more}
use Rattle.list.specs.Listing.{first_line}
use Rattle.list.proofs.Joins.{put_piece, length_piece}
use Rattle.list.proofs.cards.put_first.Goals as goal

pub returns : goal.returns
unfolding first_line bytes
returns c =
    let a = c.args in
    let r = a.rest.now in
    let h₁ =
    part_begin {p = bytes "first order " ++ take 3 (drop 1 r)} {e = 15} 15
    c.put.ensures (length_piece (bytes "first order ") r 1 3 (omega (arith, c.requires)) ∙ refl) refl (omega (arith, c.requires)) in
    let h₂ = put_piece {e = 31} (bytes "     problem ") r 4 3 h₁ c.put-2.ensures (omega (arith, c.requires)) refl (omega (arith, c.requires)) in
    (put_more {e = 32} (10 ∷ []) 1 h₂ c.put_byte.ensures refl refl (omega (arith, c.requires))).same
