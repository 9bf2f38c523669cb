-- `with_due` of `faults::Line` meets its contract, arm by arm. Assumes nothing.
use mathlib.Core.Path.{sym, ap}
use Rattle.rules.specs.Bytes.{bytes}
use Rattle.faults.specs.Sentences.{due_name}
use Rattle.faults.proofs.Says.{adds_two, adds_as}
use Rattle.faults.proofs.lines.Line.with_due.Goals as goal

pub returns-in-Digit : goal.returns-in-Digit
unfolding due_name bytes
returns-in-Digit c = adds_as c.args.self (sym (ap due_name c.in-Digit.is)) c.with.ensures

pub returns-in-Sign : goal.returns-in-Sign
unfolding due_name bytes
returns-in-Sign c = adds_as c.args.self (sym (ap due_name c.in-Sign.is)) c.with-in-Sign.ensures

pub returns-in-Kinds : goal.returns-in-Kinds
unfolding due_name bytes
returns-in-Kinds c = adds_as c.args.self (sym (ap due_name c.in-Kinds.is)) c.with-in-Kinds.ensures

pub returns-in-DataKinds : goal.returns-in-DataKinds
unfolding due_name bytes
returns-in-DataKinds c = adds_as c.args.self (sym (ap due_name c.in-DataKinds.is)) c.with-in-DataKinds.ensures

pub returns-in-TheFirst : goal.returns-in-TheFirst
unfolding due_name bytes
returns-in-TheFirst c = adds_as c.args.self (sym (ap due_name c.in-TheFirst.is)) c.with-in-TheFirst.ensures

pub returns-in-Upto : goal.returns-in-Upto
unfolding due_name bytes
returns-in-Upto c =
    adds_as c.args.self (sym (ap due_name c.in-Upto.is)) (adds_two c.args.self (bytes "001 to ") _ c.with-in-Upto.ensures c.with_three.ensures)
