-- `with_blank` of `faults::Line` meets its contract, arm by arm. Assumes nothing.
use mathlib.Core.Path.{sym, ap}
use borrow.Author.Tests.{ne_eqb}
use Rattle.rules.specs.Bytes.{bytes}
use Rattle.faults.specs.Sentences.{numeral, blank_name}
use Rattle.faults.proofs.Says.{adds_two, adds_as}
use Rattle.faults.proofs.lines.Line.with_blank.Goals as goal

pub returns-in-9 : goal.returns-in-9
unfolding blank_name bytes
returns-in-9 c = adds_as c.args.self (sym (ap blank_name c.in-9.is)) c.with.ensures

pub returns-in-10 : goal.returns-in-10
unfolding blank_name bytes
returns-in-10 c = adds_as c.args.self (sym (ap blank_name c.in-10.is)) c.with-in-10.ensures

pub returns-in-13 : goal.returns-in-13
unfolding blank_name bytes
returns-in-13 c = adds_as c.args.self (sym (ap blank_name c.in-13.is)) c.with-in-13.ensures

pub returns-in-32 : goal.returns-in-32
unfolding blank_name bytes
returns-in-32 c = adds_as c.args.self (sym (ap blank_name c.in-32.is)) c.with-in-32.ensures

pub returns-in_default : goal.returns-in_default
unfolding blank_name bytes
returns-in_default c =
    let n = c.in_default.in_default-own.rest in
    let b = c.args.b in
    adds_as c.args.self (sym (simp (ne_eqb b 9 n.0.0.0.1, ne_eqb b 10 n.0.0.1, ne_eqb b 13 n.0.1, ne_eqb b 32 n.1))) (adds_two c.args.self (bytes "number ") (numeral b) c.with-in_default.ensures c.with_number.ensures)
