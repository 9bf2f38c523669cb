-- What a line says of a text: the text as far as there is room. Assumes nothing.
use Rattle.std.specs.Prelude.{List, ℕ, take}

unfoldable pub as_far : List ℕ → List ℕ
as_far s = take 256 s
