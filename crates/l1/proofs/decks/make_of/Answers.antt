-- `l1::decks::make_of` sends what the rules say of the call, all of it and nothing else. Assumes nothing.
use Rattle.l1.proofs.MadeSheets.{made_told}
use Rattle.l1.proofs.decks.make_of.Goals as goal

pub send_made-requires : goal.send_made-requires
send_made-requires g c =
    let a = c.args in
    made_told a.drum.now a.marks.now a.options a.state _ _ _ _ _ _ _ c.room-out.ensures.size c.first_of.ensures c.problem_of-problem.ensures
    c.make-made.ensures c.write_making-n.ensures.closed
