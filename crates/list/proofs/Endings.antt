-- How a writer of lines ends: there is nothing to write, no room, or all is written. Assumes nothing.
use mathlib.Core.Path.{◌≡◌, refl, sym, subst, ◌∙◌}
use mathlib.Core.List.{List, []}
use Prim.Native.Nat.{ℕ, ◌≤◌}
use native.Mathlib.Omega.{arith}
use lib.ListN.{length}
use Rattle.rules.specs.Running.{over}
use Rattle.octets.specs.Put.{splice}
use Rattle.card.specs.Written.{WroteLine}
use Rattle.octets.proofs.Splices.{splice_start}
use Rattle.card.proofs.Writes.{whole_line}

pub nothing : (line before : List ℕ) → line ≡ [] → WroteLine line before 0 before
unfolding over
nothing line before e =
    subst (λ (l : List ℕ). WroteLine l before 0 before) (sym e) (whole_line [] before before 0 refl (omega arith) refl)

pub all : (line before after : List ℕ) (n : ℕ) → length line ≡ n → n ≤ length before → after ≡ splice 0 line before → WroteLine line before n after
all line before after n e h q = whole_line line before after n (sym e) h (q ∙ splice_start line before)
