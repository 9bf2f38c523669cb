-- `list::traces::put_trace` meets its contract: each part stands right behind the one before. Assumes nothing.
use mathlib.Core.List.{List, ◌++◌}
use mathlib.Core.Path.{refl, ap₂, ◌∙◌}
use Prim.Native.Nat.{ℕ}
use native.Mathlib.Omega.{arith}
use Rattle.rules.specs.Bytes.{bytes}
use Rattle.octets.specs.Put.{splice}
use Rattle.octets.proofs.Joins.{part_begin, put_part}
use Rattle.list.specs.Listing.{head_line, order_line, shown_lines, trace_lines}
use Rattle.list.proofs.Lengths.{length_head, length_order, length-shown}
use Rattle.list.proofs.traces.put_trace.Goals as goal

pub returns : goal.returns
unfolding trace_lines bytes
returns c =
    let a = c.args in
    let d = a.rest.now in
    let x = c.word_of-stored.result in
    let y = c.word_of-done.result in
    let lines : ℕ → ℕ → List ℕ = λ v w.
    head_line (bytes "trace ") d 74 ++ order_line (bytes "  as stored  ") v ++ order_line (bytes "  as done    ") w ++ shown_lines d in
    let h₁ =
    part_begin {p = head_line (bytes "trace ") d 74} {e = 32} 32
    c.put_head.ensures (length_head (bytes "trace ") d 74 refl (omega arith) (omega (arith, c.requires))) refl (omega (arith, c.requires)) in
    let h₂ =
    put_part {e = 82} (order_line (bytes "  as stored  ") x) 50
    h₁ c.put_order.ensures (length_order (bytes "  as stored  ") x) refl (omega (arith, c.requires)) in
    let h₃ =
    put_part {e = 132} (order_line (bytes "  as done    ") y) 50
    h₂ c.put_order-2.ensures (length_order (bytes "  as done    ") y) refl (omega (arith, c.requires)) in
    (put_part {e = 232} (shown_lines d) 100 h₃ c.put_shown.ensures (length-shown d c.requires.card_in) refl c.requires.room_left).same
    ∙ ap₂ (λ (v w : ℕ). splice 0 (lines v w) a.out.now) c.word_of-stored.ensures c.word_of-done.ensures
