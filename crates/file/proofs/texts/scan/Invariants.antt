-- `file::scan` meets its contract: at each byte what is left of the text has the numbers of the whole. Assumes nothing.
use Rattle.std.specs.Prelude.{is_some, unwrap_or}
use lib.ListN.{length}
use Rattle.file.proofs.Scans.{Reading}
use Rattle.file.proofs.texts.scan.Given as goal

abbrev pub invariant-loop-b : goal.invariant-loop-b
invariant-loop-b l = Reading (length l.initial.cells) l.text l.cells l.n (is_some l.number) (unwrap_or l.number 0) l.b-index
