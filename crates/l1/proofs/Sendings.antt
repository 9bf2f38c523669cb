-- What is sent or stored is whole: a line, a closing or a machine file that had room. Assumes nothing.
use Prim.Native.Nat.{ℕ, ◌≤◌}
use mathlib.Core.Path.{◌≡◌, sym, ap, ◌∙◌}
use mathlib.Core.List.{List, ◌++◌, append-nil}
use mathlib.Core.Bool.{Bool, true}
use native.Mathlib.Omega.{arith}
use borrow.Author.Tests.{le-leb, eqb-true}
use lib.Dec.{eqb}
use lib.ListN.{length, take, drop, drop_of_length-le}
use lib.Seq.{take-append_seam}
use Rattle.rules.specs.Words.{pick}
use Rattle.rules.specs.Running.{over}
use Rattle.rules.specs.Sheet.{closing}
use Rattle.rules.specs.Answers.{Cell, Ending}
use Rattle.rules.specs.declared.State.{State}
use Rattle.rules.proofs.Tests.{both_first, both_second}
use Rattle.card.specs.Written.{fits, Wrote, WroteLine}
use Rattle.file.specs.Files.{is_whole, file_of}
use Rattle.file.proofs.Files.{length_file}
use Rattle.list.specs.Marked.{marked_lines}
use Rattle.list.proofs.CellLines.{upto_short}
use Rattle.says.specs.Told.{may_close, Closed}
use Rattle.says.proofs.Wholes.{closes_whole}

line_whole : (line before after : List ℕ) (n : ℕ) → WroteLine line before n after → length line ≤ length before → take n after ≡ line
unfolding over
line_whole line before after n w h =
    rw (w.answer, w.bytes, le-leb (length line) (length before) h) (take-append_seam line (drop (length line) before))

-- the lines of 1,000 cells have room in 65,536 bytes
pub cells_sent : (v : List Cell) {before after : List ℕ} {n : ℕ} → WroteLine (marked_lines v) before n after → 65536 ≡ length before
    → take n after ≡ marked_lines v
cells_sent v {before} {after} {n} w l = line_whole (marked_lines v) before after n w (omega (arith, upto_short v 1000))

pub closing_sent : (e : Ending) (s : State) (count : ℕ) {before after : List ℕ} {n : ℕ}
    → Closed (may_close e s count) (closing e s count) before n after → may_close e s count ≡ true → 64 ≤ length before
    → take n after ≡ closing e s count
closing_sent e s count {before} {after} {n} w may l = closes_whole e s count before after n may l w

over_all : (s d : List ℕ) → length s ≡ length d → over s d ≡ s
unfolding over
over_all s d e = ap (λ (l : List ℕ). s ++ l) (drop_of_length-le d {i = length s} (omega arith)) ∙ append-nil s

-- a machine file that was written over 9,072 bytes is all of them
pub file_whole : (drum marks : List ℕ) (s : State) {before after : List ℕ} {said : Bool}
    → Wrote (is_whole drum marks) (file_of drum marks s) before said after → said ≡ true → 9072 ≡ length before → after ≡ file_of drum marks s
file_whole drum marks s {before} w q l =
    let file : List ℕ = file_of drum marks s in
    let e : fits (is_whole drum marks) file before ≡ true = sym w.answer ∙ q in
    let whole = both_first (is_whole drum marks) _ e in
    let d : length drum ≡ 1000 = eqb-true (length drum) 1000 (both_first (eqb (length drum) 1000) _ whole) in
    let m : length marks ≡ 1000 = eqb-true (length marks) 1000 (both_second (eqb (length drum) 1000) _ whole) in
    let n : length file ≡ length before = length_file drum marks s ∙ omega (arith, d, m, l) in
    w.bytes ∙ ap (λ (t : Bool). pick t (over file before) before) e ∙ over_all file before n
