-- `card::put_words` meets its contract. The loop's invariant: the words passed stand in the output, and all else is as it was.
-- Assumes nothing.
use mathlib.Core.Path.{◌≡◌}
use Prim.Native.Nat.{◌+◌, ◌*◌}
use lib.ListN.{length, take}
use Rattle.rules.specs.Cards.{words_bytes}
use Rattle.octets.proofs.Joins.{Put}
use Rattle.card.proofs.parts.put_words.Given as goal

abbrev pub invariant-loop-i : goal.invariant-loop-i
invariant-loop-i l = (length l.out ≡ length l.initial.out) × Put l.initial.out l.a (words_bytes (take l.i l.words)) (l.a + 11 * l.i) l.out
