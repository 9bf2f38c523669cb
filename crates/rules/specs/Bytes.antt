-- Texts as bytes. Assumes nothing.
use Rattle.std.specs.Prelude.{ℕ, List, [], ◌∷◌}
use Prim.Native.Char.{code}
use Prim.Native.String.{String, [] as none, ◌∷◌ as cons}

-- the bytes of a text
unfoldable pub bytes : String → List ℕ
bytes none = []
bytes (cons c s) = code c ∷ bytes s

abbrev pub line_end : ℕ
line_end = 10
