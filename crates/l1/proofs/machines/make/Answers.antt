-- `l1::machines::make`: what is made is a new machine file, whole. Assumes nothing.
use mathlib.Core.Path.{ap₂, ◌∙◌}
use mathlib.Core.List.{List}
use Prim.Native.Nat.{ℕ}
use Rattle.rules.specs.declared.State.{State}
use Rattle.file.specs.Files.{file_of}
use Rattle.l1.proofs.Sendings.{file_whole}
use Rattle.l1.proofs.machines.make.Goals as goal

pub make_file-requires : goal.make_file-requires
make_file-requires g c =
    let drum = c.args.drum.now in
    file_whole drum c.room-marks.result c.none.result c.write_file.ensures c.if-write_file.true c.room-bytes.ensures.size
    ∙ ap₂ (λ (l : List ℕ) (s : State). file_of drum l s) c.room-marks.ensures.zeros c.none.ensures
