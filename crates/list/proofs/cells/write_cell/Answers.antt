-- `list::cells::write_cell` meets its contract: there is no such cell or word, no room, or the whole line is written. Assumes nothing.
use mathlib.Core.Path.{◌≡◌, sym, ap, ◌∙◌}
use native.Mathlib.Omega.{arith}
use Prim.Native.Nat.{ℕ, ◌≤◌, ◌<◌}
use borrow.Author.Tests.{lt-leb, le-leb}
use mathlib.Core.List.{[]}
use lib.ListN.{length}
use Rattle.list.specs.Listing.{cell_line, cell_shown}
use Rattle.octets.specs.Put.{splice}
use Rattle.card.proofs.Writes.{no_line}
use Rattle.list.proofs.Endings.{nothing, all}
use Rattle.list.proofs.Lengths.{length_cell}
use Rattle.list.proofs.cells.write_cell.Goals as goal

-- what is shown, by the two tests
none_there : (address w : ℕ) → 999 < address → cell_shown address w ≡ []
unfolding cell_shown
none_there address w h = simp (lt-leb address 999 h)

no_word : (address w : ℕ) → address ≤ 999 → 19999999999 < w → cell_shown address w ≡ []
unfolding cell_shown
no_word address w l h = simp (le-leb address 999 l, lt-leb w 19999999999 h)

shown_is : (address w : ℕ) → address ≤ 999 → w ≤ 19999999999 → cell_shown address w ≡ cell_line address w
unfolding cell_shown
shown_is address w l h = simp (le-leb address 999 l, le-leb w 19999999999 h)

length-shown : (address w : ℕ) → address ≤ 999 → w ≤ 19999999999 → length (cell_shown address w) ≡ 44
length-shown address w l h = ap length (shown_is address w l h) ∙ length_cell address w

pub returns-then-address-gt999 : goal.returns-then-address-gt999
returns-then-address-gt999 c =
    let a = c.args in
    nothing (cell_shown a.address a.word) a.out.now (none_there a.address a.word c.if-address-gt999.true)

pub returns-then-word-gt19999999999 : goal.returns-then-word-gt19999999999
returns-then-word-gt19999999999 c =
    let a = c.args in
    nothing (cell_shown a.address a.word) a.out.now (no_word a.address a.word c.if-address-gt999.false c.if-word-gt19999999999.true)

pub returns-then-out-lt44 : goal.returns-then-out-lt44
returns-then-out-lt44 c =
    let a = c.args in
    no_line (cell_shown a.address a.word) a.out.now
    (omega (arith, c.if-out-lt44.true, length-shown a.address a.word c.if-address-gt999.false c.if-word-gt19999999999.false))

pub returns : goal.returns
returns c =
    let a = c.args in
    let l = c.if-address-gt999.false in
    let w = c.if-word-gt19999999999.false in
    all (cell_shown a.address a.word) a.out.now _ 44 (length-shown a.address a.word l w) c.if-out-lt44.false
    (c.put_cell.ensures ∙ ap (λ l. splice 0 l a.out.now) (sym (shown_is a.address a.word l w)))
