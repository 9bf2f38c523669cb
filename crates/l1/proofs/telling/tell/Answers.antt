-- `l1::telling::tell` sends the whole closing. Assumes nothing.
use borrow.Author.Rules.{rules}
use Rattle.l1.proofs.Sendings.{closing_sent}
use Rattle.l1.proofs.telling.tell.Goals as goal

pub send_closing-requires : goal.send_closing-requires
send_closing-requires g c =
    let a = c.args in
    closing_sent a.ending a.state a.count c.write_closing-n.ensures.closed c.requires (search rules)
