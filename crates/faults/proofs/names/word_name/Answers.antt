-- `faults::names::word_name` meets its contract. Assumes nothing.
use mathlib.Core.Path.{sym, ap}
use borrow.Author.Tests.{ne_eqb}
use Rattle.rules.specs.Bytes.{bytes}
use Rattle.faults.specs.Sentences.{word_name}
use Rattle.faults.proofs.names.word_name.Goals as goal

pub returns-in-0 : goal.returns-in-0
unfolding word_name bytes
returns-in-0 c = sym (ap word_name c.in-0.is)

pub returns-in-1 : goal.returns-in-1
unfolding word_name bytes
returns-in-1 c = sym (ap word_name c.in-1.is)

pub returns-in-2 : goal.returns-in-2
unfolding word_name bytes
returns-in-2 c = sym (ap word_name c.in-2.is)

pub returns-in-3 : goal.returns-in-3
unfolding word_name bytes
returns-in-3 c = sym (ap word_name c.in-3.is)

pub returns-in-4 : goal.returns-in-4
unfolding word_name bytes
returns-in-4 c = sym (ap word_name c.in-4.is)

pub returns-in_default : goal.returns-in_default
unfolding word_name bytes
returns-in_default c =
    let n = c.in_default.in_default-own.rest in
    let i = c.args.i in
    sym (simp (ne_eqb i 0 n.0.0.0.0.1, ne_eqb i 1 n.0.0.0.1, ne_eqb i 2 n.0.0.1, ne_eqb i 3 n.0.1, ne_eqb i 4 n.1))
