-- `name` of `faults::Field` meets its contract, arm by arm. Assumes nothing.
use mathlib.Core.Path.{sym, ap, ◌∙◌}
use Rattle.rules.specs.Bytes.{bytes}
use Rattle.faults.specs.Sentences.{field_name}
use Rattle.faults.proofs.layout.Field.name.Goals as goal

pub returns-in-Kind : goal.returns-in-Kind
unfolding field_name bytes
returns-in-Kind c = sym (ap field_name c.in-Kind.is)

pub returns-in-CardNumber : goal.returns-in-CardNumber
unfolding field_name bytes
returns-in-CardNumber c = sym (ap field_name c.in-CardNumber.is)

pub returns-in-Location : goal.returns-in-Location
unfolding field_name bytes
returns-in-Location c = sym (ap field_name c.in-Location.is)

pub returns-in-Word : goal.returns-in-Word
unfolding field_name
returns-in-Word c = c.word_name.ensures ∙ sym (ap field_name c.in-Word.is)

pub returns-in-Problem : goal.returns-in-Problem
unfolding field_name bytes
returns-in-Problem c = sym (ap field_name c.in-Problem.is)

pub returns-in-FirstOrder : goal.returns-in-FirstOrder
unfolding field_name bytes
returns-in-FirstOrder c = sym (ap field_name c.in-FirstOrder.is)

pub returns-in-StopNumber : goal.returns-in-StopNumber
unfolding field_name bytes
returns-in-StopNumber c = sym (ap field_name c.in-StopNumber.is)

pub returns-in-Count : goal.returns-in-Count
unfolding field_name bytes
returns-in-Count c = sym (ap field_name c.in-Count.is)

pub returns-in-Shown : goal.returns-in-Shown
unfolding field_name bytes
returns-in-Shown c = sym (ap field_name c.in-Shown.is)
