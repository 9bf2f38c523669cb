-- `list::cells::put_name` meets its contract: the name stands right behind the blanks. Assumes nothing.
use mathlib.Core.List.{List, ◌++◌}
use mathlib.Core.Path.{refl, ap, ◌∙◌}
use Prim.Native.Nat.{ℕ, ◌+◌}
use native.Mathlib.Omega.{arith}
use lib.ListN.{length}
use Rattle.rules.specs.Bytes.{bytes}
use Rattle.rules.specs.Codes.{codes, name_in, code_in}
use Rattle.octets.specs.Put.{splice}
use Rattle.octets.proofs.Joins.{put_begin, put_more}
use Rattle.codes.proofs.Names.{name_ten}
use Rattle.list.proofs.cells.put_name.Goals as goal

pub returns : goal.returns
unfolding bytes
returns c =
    let a = c.args in
    let e = c.name_of-name.ensures ∙ ap (λ (k : ℕ). name_in k codes) c.code_of-code.ensures in
    (put_more c.name_of-name.result 10 (put_begin {p = bytes "  "} {e = a.a + 2} 2 c.put_run.ensures refl refl (omega (arith, c.requires)))
    c.put_run-2.ensures (ap length e ∙ name_ten (code_in a.w)) refl (omega (arith, c.requires))).same
    ∙ ap (λ (l : List ℕ). splice a.a (bytes "  " ++ l) a.out.now) e
