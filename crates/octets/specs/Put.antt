-- What stands in a run of bytes after a part of it is written. Assumes nothing.
use Rattle.std.specs.Prelude.{ℕ, ◌+◌, List, ◌++◌, leb, length, take, drop}
use Rattle.rules.specs.Words.{pick}

-- d with s from place a on
unfoldable pub splice : ℕ → List ℕ → List ℕ → List ℕ
splice a s d = take a d ++ s ++ drop (a + length s) d

-- the same where s fits there, and else d as it is
unfoldable pub put_at : ℕ → List ℕ → List ℕ → List ℕ
put_at a s d = pick (leb (a + length s) (length d)) (splice a s d) d
