-- `l1::machines::keep`: what replaces the file is the machine file, whole. Assumes nothing.
use Rattle.l1.proofs.Sendings.{file_whole}
use Rattle.l1.proofs.machines.keep.Goals as goal

pub replace_file-requires : goal.replace_file-requires
replace_file-requires g c =
    let a = c.args in
    file_whole a.drum.now a.marks.now a.state c.write_file.ensures c.if-write_file.true c.room-bytes.ensures.size
