-- `l1::machines::hold` meets its contract: a file that could not be read is as one with no bytes. Assumes nothing.
use Rattle.std.proofs.Common.{[], arith}
use Rattle.file.proofs.Wholes.{no_bytes, not_read}
use Rattle.l1.proofs.machines.hold.Goals as goal

pub returns-in_err-n : goal.returns-in_err-n
returns-in_err-n g c =
    rw c.from_residual.ensures ([], not_read _ _ _ (no_bytes c.args.drum.now c.args.marks.now [] (λ e. omega (arith, e))))
