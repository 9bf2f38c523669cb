-- The part of a run of bytes from a place on, as it is lent and put back. Assumes nothing.
use Prim.Native.Nat.{ℕ, ◌-◌}
use mathlib.Core.Path.{◌≡◌}
use mathlib.Core.List.{List, [], ◌++◌}
use native.Mathlib.Omega.{arith}
use lib.ListN.{length, take, drop, length-drop, drop_of_length-le}
use lib.Seq.{take_all}

-- the part, and the run with another part put back
abbrev pub part_of : ℕ → List ℕ → List ℕ
part_of at out = take (length out - at) (drop at out)

abbrev pub put_back : ℕ → List ℕ → List ℕ → List ℕ
put_back at out p = take at out ++ (p ++ drop (length out - at) (drop at out))

-- it is all there is from that place on
pub part_is : (at : ℕ) (out : List ℕ) → part_of at out ≡ drop at out
part_is at out = let n : length (drop at out) ≡ length out - at = length-drop at out in take_all (length out - at) (drop at out) (omega arith)

pub nothing_behind : (at : ℕ) (out : List ℕ) → drop (length out - at) (drop at out) ≡ []
nothing_behind at out = let n : length (drop at out) ≡ length out - at = length-drop at out in drop_of_length-le (drop at out) {i = length out - at} (omega arith)
