-- The room of a line: what it says stands at its start, and zeros are behind it. So a room gives itself back from its text. Assumes nothing.
use Rattle.std.specs.Prelude.{◌≡◌, ◌≤◌, List, ℕ, length, take, drop, replicate}
use mathlib.Core.Path.{sym, ap}
use native.Mathlib.Omega.{arith}
use lib.ListN.{length-take, length-append, length-drop, length-replicate}
use Rattle.rules.specs.Running.{over}
use Rattle.faults.specs.declared.lines.Line.TheInside.{Inside}

-- what stands at the start
abbrev pub text_in : Inside → List ℕ
text_in l = take l.size l.bytes

-- and zeros behind it, up to 256 bytes in all
pub record Kept (l : Inside) : Type 0 where
  pub fits : l.size ≤ 256
  pub zeros : l.bytes ≡ over (take l.size l.bytes) (replicate 256 0)

-- the room that a text is kept in
abbrev pub room_of : List ℕ → Inside
room_of s = record { bytes = over s (replicate 256 0); size = length s }

-- as long as it says
pub long_so : (a : Inside) → Kept a → length (text_in a) ≡ a.size
unfolding over
long_so a h =
    let t = text_in a in
    let z : List ℕ = replicate 256 0 in
    omega (
      arith,
      h.fits,
      ap length h.zeros,
      length-append t (drop (length t) z),
      length-drop (length t) z,
      length-replicate {A = ℕ} 256 0,
      length-take a.size a.bytes,
    )

pub room_again : (a : Inside) → Kept a → room_of (text_in a) ≡ a
room_again a h = λ i. record { bytes = (sym h.zeros) i; size = (long_so a h) i }
